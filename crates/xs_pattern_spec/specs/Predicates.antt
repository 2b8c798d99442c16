-- What expressions say in a pattern (XSLT 1.0, 5.2). A fault there is not reported: a predicate that ends in one is false, and a
-- path that begins with one has no node (this project's own).
use Rattle.std.specs.Prelude.{ℕ, ◌==◌, Bool, false, List, [], filter, fold, length, map, Option, Some, None}
use Rattle.std.specs.List.{enumerate_from, list_any}
use Rattle.std.specs.Option.{option_map_or}
use Rattle.xs_trace.specs.Run.{Answer, Gives, Faults, Lacks}
use Rattle.xs_value.specs.declared.value.Value.{Value}
use Rattle.xs_value.specs.declared.value.Value.TheVariants.{Bool as Boolean, Number as Numeral, Chars, Nodes, Piece}
use Rattle.xs_eval_spec.specs.Context.{Context, at_node}
use Rattle.xs_eval_spec.specs.Paths.{Meaning, selects}

-- the value in which a run ends, if it ends in one
abbrev pub value_in : Answer Value → Option Value
value_in (Gives v) = Some v
value_in (Faults f) = None
value_in (Lacks g) = None

-- the nodes of a value; one that is no node-set has none
abbrev pub nodes_of : Value → List ℕ
nodes_of (Nodes ns) = ns
nodes_of (Boolean b) = []
nodes_of (Numeral n) = []
nodes_of (Chars text) = []
nodes_of (Piece events) = []

-- the nodes that an expression gives in a context
abbrev pub nodes_given : Meaning → Context → List ℕ
nodes_given m c = option_map_or nodes_of (value_in (m c).end) []

abbrev pub is_among : ℕ → List ℕ → Bool
is_among n ns = list_any (λ k. k == n) ns

-- whether a predicate holds of a node at a position, among so many (XPath 1.0, 2.4)
abbrev pub holds : Context → Meaning → (size : ℕ) → ℕ × ℕ → Bool
holds c predicate size placed = option_map_or (λ v. selects v placed.0) (value_in (predicate (at_node c placed.1 placed.0 size)).end) false

-- the nodes that a predicate keeps, their positions from 1 on
abbrev pub kept : Context → List ℕ → Meaning → List ℕ
kept c ns predicate = map (λ placed. placed.1) (filter (holds c predicate (length ns)) (enumerate_from 1 ns))

-- those that the first predicate keeps, then the next
abbrev pub all_kept : Context → List ℕ → List Meaning → List ℕ
all_kept c ns predicates = fold (kept c) ns predicates
