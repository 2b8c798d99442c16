-- What the code looks up where a path begins with `key`.
use Rattle.std.specs.Prelude.{ℕ, Bool, false, List, [], ◌∷◌, Option, Some, None}
use Rattle.xs_trace.specs.declared.fault.Fault.{Fault}
use Rattle.xs_value.specs.Tables.{Table, nodes_of}
use Rattle.xs_xpath.specs.declared.name.Function.TheVariants.{Key}
use Rattle.xs_xpath.specs.Tree.{Tree, call, literal, trees}
use Rattle.xs_pattern_spec.specs.Predicates.{is_among}

-- a call of `key` with two literals
abbrev pub key_call : List ℕ → List ℕ → Tree
key_call name text = call Key (trees (literal name ∷ literal text ∷ []))

-- whether a table, by its fault, has a node for a text
abbrev pub has_node : Table → Option Fault → List ℕ → ℕ → Bool
has_node t None text n = is_among n (nodes_of text t.entries)
has_node t (Some fault) text n = false
