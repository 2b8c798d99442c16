-- What an operand is, and how strings compare with a string literal.
use Rattle.std.specs.Prelude.{ℕ, Bool, List}
use Rattle.std.specs.List.{list_any}
use Rattle.std.specs.Str.{bytes_eq}
use Rattle.xs_tree.specs.Record.{Record, string_value}
use Rattle.xs_value.specs.declared.comparison.CompareOp.{CompareOp}
use Rattle.xs_value.specs.declared.value.Value.{Value}
use Rattle.xs_value.specs.declared.value.Value.TheVariants.{Chars}
use Rattle.xs_value.specs.Comparison.{same_or_not}
use Rattle.xs_eval.specs.declared.operand.Held as held
use Rattle.xs_eval.specs.declared.operand.HeldSet as set
use Rattle.xs_eval.specs.declared.operand.Seen as seen

-- the value of an operand
abbrev pub held_value : held.Held → Value
held_value (held.TheVariants.Own v) = v
held_value (held.TheVariants.Lent v) = v.now
held_value (held.TheVariants.Text text) = Chars text.now

abbrev pub seen_value : seen.Seen → Value
seen_value (seen.TheVariants.Value v) = v.now
seen_value (seen.TheVariants.Text text) = Chars text.now

-- the nodes of a node-set
abbrev pub held_nodes : set.HeldSet → List ℕ
held_nodes (set.TheVariants.Own ns) = ns
held_nodes (set.TheVariants.Lent ns) = ns.now

-- whether a string compares so with the text of a literal, by `=` or `!=`
abbrev pub compares_to : CompareOp → List ℕ → List ℕ → Bool
compares_to op text string = same_or_not op (bytes_eq string text)

abbrev pub some_compares : CompareOp → List ℕ → List Record → List ℕ → Bool
some_compares op text rs ns = list_any (λ n. compares_to op text (string_value rs n)) ns
