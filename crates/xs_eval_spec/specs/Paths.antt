-- Steps, predicates and location paths (XPath 1.0, 2), over what their parts mean.
use Rattle.std.specs.Prelude.{ℕ, ◌&&◌, ◌++◌, Bool, true, false, List, [], ◌∷◌, filter, length, pos, if◌then◌else◌}
use Rattle.std.specs.List.{enumerate_from}
use Rattle.std.specs.Ordering.{int_eq}
use Rattle.std.specs.Str.{bytes_eq}
use Rattle.xs_num.specs.declared.number.Number.{Number}
use Rattle.xs_num.specs.declared.number.Number.TheVariants.{Whole, NaN}
use Rattle.xs_trace.specs.Run.{Run, give, costs, fold, ◌>>=◌}
use Rattle.xs_tree.specs.declared.axes.Axis.{Axis}
use Rattle.xs_tree.specs.declared.axes.Axis.TheVariants.{Child, Descendant, Parent, Ancestor, FollowingSibling, PrecedingSibling, Following, Preceding}
use Rattle.xs_tree.specs.declared.axes.Axis.TheVariants.{Attribute as AttributeAxis, Namespace as NamespaceAxis, SelfNode, DescendantOrSelf, AncestorOrSelf}
use Rattle.xs_tree.specs.declared.kinds.Kind.{Kind}
use Rattle.xs_tree.specs.declared.kinds.Kind.TheVariants.{Root, Element, Attribute, Space, Text as TextKind, Comment as CommentKind, Pi as PiKind}
use Rattle.xs_tree.specs.Axis.{axis_list}
use Rattle.xs_tree.specs.Kinds.{is_element_kind, is_attribute_kind, is_namespace_kind, is_text_kind}
use Rattle.xs_tree.specs.Record.{Record, at, name_uri, name_local}
use Rattle.xs_value.specs.declared.value.Value.{Value}
use Rattle.xs_value.specs.declared.value.Value.TheVariants.{Bool as Boolean, Number as Numeral, Chars, Nodes, Piece}
use Rattle.xs_value.specs.Conversion.{bool_value}
use Rattle.xs_value.specs.NodeSet.{in_order}
use Rattle.xs_xpath.specs.declared.name.NodeTest.{NodeTest}
use Rattle.xs_xpath.specs.declared.name.NodeTest.TheVariants.{Any, Uri, Name, Node, Text, Comment, Pi, Target}
use Rattle.xs_xpath.specs.Tree.{Tree}
pub use Rattle.xs_xpath.specs.Tree.{is_here}
use Rattle.xs_eval_spec.specs.Context.{Context, at_node}
use Rattle.xs_eval_spec.specs.Results.{given, nodes_in}

-- what an expression gives in each context
abbrev pub Meaning : Type 0
Meaning = Context → Run Value

-- node tests (2.3)

-- whether a kind of node is the principal one of an axis: that of attributes, of namespace nodes, and otherwise of elements
abbrev pub is_principal : Axis → Kind → Bool
is_principal Child kind = is_element_kind kind
is_principal Descendant kind = is_element_kind kind
is_principal Parent kind = is_element_kind kind
is_principal Ancestor kind = is_element_kind kind
is_principal FollowingSibling kind = is_element_kind kind
is_principal PrecedingSibling kind = is_element_kind kind
is_principal Following kind = is_element_kind kind
is_principal Preceding kind = is_element_kind kind
is_principal AttributeAxis kind = is_attribute_kind kind
is_principal NamespaceAxis kind = is_namespace_kind kind
is_principal SelfNode kind = is_element_kind kind
is_principal DescendantOrSelf kind = is_element_kind kind
is_principal AncestorOrSelf kind = is_element_kind kind

abbrev pub is_comment_kind : Kind → Bool
is_comment_kind Root = false
is_comment_kind Element = false
is_comment_kind Attribute = false
is_comment_kind Space = false
is_comment_kind TextKind = false
is_comment_kind CommentKind = true
is_comment_kind PiKind = false

abbrev pub is_pi_kind : Kind → Bool
is_pi_kind Root = false
is_pi_kind Element = false
is_pi_kind Attribute = false
is_pi_kind Space = false
is_pi_kind TextKind = false
is_pi_kind CommentKind = false
is_pi_kind PiKind = true

-- whether a node has a name, by its URI and its local part
abbrev pub is_named : List ℕ → List ℕ → Record → Bool
is_named uri local r = bytes_eq (name_uri r) uri && bytes_eq (name_local r) local

-- whether a node passes a test
abbrev pub passes : Axis → NodeTest → Record → Bool
passes axis Any r = is_principal axis r.kind
passes axis (Uri uri) r = is_principal axis r.kind && bytes_eq (name_uri r) uri
passes axis (Name uri local) r = is_principal axis r.kind && is_named uri local r
passes axis Node r = true
passes axis Text r = is_text_kind r.kind
passes axis Comment r = is_comment_kind r.kind
passes axis Pi r = is_pi_kind r.kind
passes axis (Target target) r = is_pi_kind r.kind && bytes_eq (name_local r) target

-- the nodes of an axis from the context node that pass, in the order of the axis (2.2, 2.4)
abbrev pub tested : Axis → NodeTest → Context → List ℕ
tested axis test c = filter (λ k. passes axis test (at c.tree k)) (axis_list axis c.tree c.node)

-- predicates (2.4)

-- whether a value selects a node at a position: a number selects the one position that is equal to it
abbrev pub is_position : Number → ℕ → Bool
is_position (Whole z) position = int_eq z (pos position)
is_position NaN position = false

abbrev pub selects : Value → ℕ → Bool
selects (Numeral n) position = is_position n position
selects (Boolean b) position = b
selects (Chars text) position = bool_value (Chars text)
selects (Nodes ns) position = bool_value (Nodes ns)
selects (Piece events) position = bool_value (Piece events)

abbrev pub kept_if : Bool → List ℕ → ℕ → List ℕ
kept_if b kept n = if b then kept ++ n ∷ [] else kept

-- one node more of so many, with its position, after those that were kept
abbrev pub judged : Context → ℕ → Meaning → List ℕ → ℕ × ℕ → Run (List ℕ)
judged c size predicate kept placed = do
  v ← predicate (at_node c placed.1 placed.0 size)
  give (kept_if (selects v placed.0) kept placed.1)

-- the nodes that a predicate keeps: it is evaluated for each of them, their positions from 1 on
abbrev pub filtered : Context → List ℕ → Meaning → Run (List ℕ)
filtered c ns predicate = fold (judged c (length ns) predicate) [] (enumerate_from 1 ns)

-- the first predicate for each node, then the next
abbrev pub all_filtered : Context → List ℕ → List Meaning → Run (List ℕ)
all_filtered c ns predicates = fold (filtered c) ns predicates

-- steps (2.1)

-- the node-set of what predicates keep of some nodes
abbrev pub kept_of : Context → List Meaning → List ℕ → Run Value
kept_of c predicates ns = do
  kept ← all_filtered c ns predicates
  give (Nodes (in_order kept))

-- a step from the context node: a tick for each node that passes the test, then the predicates, in the order of the axis
abbrev pub step : Axis → NodeTest → List Meaning → Meaning
step axis test predicates c = let ns = tested axis test c in costs (length ns) (kept_of c predicates ns)

-- paths (2, 3.3)

-- the nodes that an expression gives, which has to be a node-set
abbrev pub selected : Meaning → Context → Run (List ℕ)
selected m c = do
  v ← m c
  given (nodes_in v)

-- the nodes of a step from one node, after those from the nodes before it
abbrev pub and_from : Context → Meaning → List ℕ → ℕ → Run (List ℕ)
and_from c m found n = do
  ns ← selected m (at_node c n c.position c.size)
  give (found ++ ns)

-- a step from each node of a set, in document order; the sets that it gives are united
abbrev pub through : Context → List ℕ → Meaning → Run (List ℕ)
through c ns m = do
  found ← fold (and_from c m) [] ns
  give (in_order found)

-- each step from what the one before it gave
abbrev pub steps_from : Context → List Meaning → List ℕ → Run Value
steps_from c steps ns = do
  reached ← fold (through c) ns steps
  give (Nodes reached)

-- where a path begins, and its steps
abbrev pub path : Meaning → List Meaning → Meaning
path start steps c = do
  ns ← selected start c
  steps_from c steps ns

-- an expression and its predicates, which count in document order (3.3)
abbrev pub filter_expr : Meaning → List Meaning → Meaning
filter_expr e predicates c = do
  ns ← selected e c
  kept_of c predicates ns
