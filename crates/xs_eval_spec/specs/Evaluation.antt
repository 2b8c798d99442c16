-- What an expression gives (XPath 1.0, 2 and 3): by cases on the expression, each in the order in which its parts are evaluated.
-- The run that it is has no limit: a number of ticks, and an end, which is a value, a fault, or the need of a global variable.
use Rattle.std.specs.Prelude.{ℕ, ◌++◌, Bool, List, [], ◌∷◌, map, Option, Some, None, slice_get, if◌then◌else◌}
use Rattle.xs_trace.specs.Run.{Run, give, lack, tick, fold, ◌>>=◌}
use Rattle.xs_tree.specs.declared.axes.Axis.TheVariants.{DescendantOrSelf}
use Rattle.xs_tree.specs.Axis.{root_of}
use Rattle.xs_value.specs.declared.value.Value.{Value}
use Rattle.xs_value.specs.declared.value.Value.TheVariants.{Bool as Boolean, Number as Numeral, Chars, Nodes}
use Rattle.xs_value.specs.Tables.{Table}
use Rattle.xs_xpath.specs.declared.expr.Expr.{Expr}
use Rattle.xs_xpath.specs.declared.name.Function.{Function}
use Rattle.xs_xpath.specs.declared.name.NodeTest.TheVariants.{Node}
use Rattle.xs_xpath.specs.declared.name.Slot.{Slot}
use Rattle.xs_xpath.specs.declared.name.Slot.TheVariants.{Local, Global}
use Rattle.xs_xpath.specs.declared.token.Operator.{Operator}
use Rattle.xs_xpath.specs.Exprs.{tree_from}
use Rattle.xs_xpath.specs.Tree as syntax
use Rattle.xs_xpath.specs.Tree.{Tree, Trees, no_trees, first_tree}
use Rattle.xs_eval_spec.specs.Context.{Context}
use Rattle.xs_eval_spec.specs.Calls.{called, is_key}
use Rattle.xs_eval_spec.specs.Functions.{first, second}
use Rattle.xs_eval_spec.specs.Keys.{keyed}
use Rattle.xs_eval_spec.specs.Results.{given}
use Rattle.xs_eval_spec.specs.Operators.{decided, negation, operated}
use Rattle.xs_eval_spec.specs.Paths.{Meaning, filter_expr, path, step}

-- variables (3.1)

abbrev pub local : Option Value → Run Value
local None = give (Chars [])
local (Some v) = give v

abbrev pub global : ℕ → Option (Option Value) → Run Value
global k None = give (Chars [])
global k (Some None) = lack k
global k (Some (Some v)) = give v

-- The value of a variable, by its slot. Each reference is bound to a slot that has one; one that is not is of no account.
abbrev pub variable : Option Slot → Meaning
variable None c = give (Chars [])
variable (Some (Local k)) c = local (slice_get c.locals k)
variable (Some (Global k)) c = global k (slice_get c.globals k)

-- calls (3.2): one tick, the arguments from left to right, and then the function

abbrev pub and_argument : Context → List Value → Meaning → Run (List Value)
and_argument c values argument = do
  v ← argument c
  give (values ++ v ∷ [])

abbrev pub arguments : Context → List Meaning → Run (List Value)
arguments c ms = fold (and_argument c) [] ms

abbrev pub answered : List Table → Context → Function → List Value → Run Value
answered keys c function values = if is_key function then keyed keys c (first values) (second values) else given (called c function values)

abbrev pub called_of : List Table → Function → List Meaning → Meaning
called_of keys function ms c = tick (arguments c ms >>= answered keys c function)

-- operators (3.3 to 3.5): the right operand is evaluated after the left one, except `or` and `and` where the left one decides

-- a run, unless there is a boolean in its place
abbrev pub unless : Option Bool → Run Value → Run Value
unless (Some b) r = give (Boolean b)
unless None r = r

abbrev pub right_operated : Operator → Value → Meaning → Meaning
right_operated op left right c = do
  v ← right c
  given (operated op c.tree left v)

abbrev pub joined : Operator → Value → Meaning → Meaning
joined op left right c = unless (decided op left) (right_operated op left right c)

-- operators of one level join to the left
abbrev pub joined_from : Context → Value → List Operator → List Meaning → Run Value
joined_from c left ops [] = give left
joined_from c left [] (m ∷ ms) = give left
joined_from c left (op ∷ ops) (m ∷ ms) = do
  v ← joined op left m c
  joined_from c v ops ms

abbrev pub chain : List Operator → List Meaning → Meaning
chain ops [] c = give (Chars [])
chain ops (m ∷ ms) c = do
  v ← m c
  joined_from c v ops ms

-- unary minus (3.5)
abbrev pub negative : ℕ → Meaning → Meaning
negative signs operand c = do
  v ← operand c
  given (negation signs c.tree v)

-- the cases
abbrev mutual
  pub run_of_tree : List Table → Tree → Meaning
  run_of_tree keys (syntax.number n) c = give (Numeral n)
  run_of_tree keys (syntax.literal text) c = give (Chars text)
  run_of_tree keys (syntax.variable uri local slot) c = variable slot c
  run_of_tree keys (syntax.call function es) c = called_of keys function (runs_of_trees keys es) c
  run_of_tree keys (syntax.negative signs e) c = negative signs (run_of_tree keys e) c
  run_of_tree keys (syntax.chain ops es) c = chain ops (runs_of_trees keys es) c
  run_of_tree keys (syntax.group e) c = run_of_tree keys e c
  run_of_tree keys syntax.here c = give (Nodes (c.node ∷ []))
  run_of_tree keys syntax.root c = give (Nodes (root_of c.tree c.node ∷ []))
  run_of_tree keys (syntax.step axis test es) c = step axis test (runs_of_trees keys es) c
  -- `//` is short for `/descendant-or-self::node()/` (2.5)
  run_of_tree keys syntax.descend c = step DescendantOrSelf Node [] c
  run_of_tree keys (syntax.filter e es) c = filter_expr (run_of_tree keys e) (runs_of_trees keys es) c
  run_of_tree keys (syntax.path start es) c = path (run_of_tree keys start) (runs_of_trees keys es) c

  pub runs_of_trees : List Table → Trees → List Meaning
  runs_of_trees keys no_trees = []
  runs_of_trees keys (first_tree e es) = run_of_tree keys e ∷ runs_of_trees keys es

-- the run of an expression, over the tables of the keys
abbrev pub run_of : List Table → Expr → Meaning
run_of keys e = run_of_tree keys (tree_from e)

abbrev pub runs_of : List Table → List Expr → List Meaning
runs_of keys es = map (run_of keys) es
