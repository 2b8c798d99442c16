-- The operators (XPath 1.0, 3.3 to 3.5), on values.
use Rattle.std.specs.Prelude.{ℕ, zero, suc, Bool, true, false, List, Option, Some, None, Result, Ok, if◌then◌else◌}
use Rattle.xs_num.specs.Number.{sum_of, difference_of, product_of, quotient_of, remainder_of, negated}
use Rattle.xs_num.specs.Quotients.{floored_quotient, ceiled_quotient, nearest_quotient}
use Rattle.xs_num.specs.declared.number.Number.{Number}
use Rattle.xs_num.specs.declared.number.NumFault.{NumFault}
use Rattle.xs_tree.specs.Record.{Record}
use Rattle.xs_value.specs.declared.comparison.CompareOp.{CompareOp}
use Rattle.xs_value.specs.declared.comparison.CompareOp.TheVariants.{Eq, Ne, Lt, Le, Gt, Ge}
use Rattle.xs_value.specs.declared.value.Value.{Value}
use Rattle.xs_value.specs.declared.value.Value.TheVariants.{Bool as Boolean, Number as Numeral, Nodes}
use Rattle.xs_value.specs.Comparison.{compared}
use Rattle.xs_value.specs.Conversion.{bool_value, number_value}
use Rattle.xs_value.specs.NodeSet.{union_of}
use Rattle.xs_xpath.specs.declared.token.Operator.{Operator}
use Rattle.xs_xpath.specs.declared.token.Operator.TheVariants.{Or, And, Equal, Unequal, Less, LessEqual, Greater, GreaterEqual, Plus, Minus, Times, Div, FloorDiv, CeilingDiv, NearestDiv, Mod, Union}
use Rattle.xs_eval_spec.specs.Results.{Outcome, ◌>>=◌, numeric, nodes_in}

-- both operands are converted to numbers, the left one first (3.5)
abbrev pub numbers : List Record → Value → Value → Outcome (Number × Number)
numbers rs left right = do
  a ← numeric (number_value rs left)
  b ← numeric (number_value rs right)
  Ok (a, b)

abbrev pub as_value : Result Number NumFault → Outcome Value
as_value result = do
  n ← numeric result
  Ok (Numeral n)

abbrev pub computed : (Number → Number → Result Number NumFault) → List Record → Value → Value → Outcome Value
computed op rs left right = do
  both ← numbers rs left right
  as_value (op both.0 both.1)

-- (3.4)
abbrev pub comparison : CompareOp → List Record → Value → Value → Outcome Value
comparison op rs left right = do
  b ← numeric (compared rs op left right)
  Ok (Boolean b)

-- the union of two node-sets (3.3)
abbrev pub union : Value → Value → Outcome Value
union left right = do
  ns ← nodes_in left
  ks ← nodes_in right
  Ok (Nodes (union_of ns ks))

-- what the left operand of `or` and `and` decides alone (3.4)
abbrev pub decided : Operator → Value → Option Bool
decided Or left = if bool_value left then Some true else None
decided And left = if bool_value left then None else Some false
decided op left = None

-- An operator on the values of its operands. What the left one decides alone is decided before.
abbrev pub operated : Operator → List Record → Value → Value → Outcome Value
operated Or rs left right = Ok (Boolean (bool_value right))
operated And rs left right = Ok (Boolean (bool_value right))
operated Equal rs left right = comparison Eq rs left right
operated Unequal rs left right = comparison Ne rs left right
operated Less rs left right = comparison Lt rs left right
operated LessEqual rs left right = comparison Le rs left right
operated Greater rs left right = comparison Gt rs left right
operated GreaterEqual rs left right = comparison Ge rs left right
operated Plus rs left right = computed sum_of rs left right
operated Minus rs left right = computed difference_of rs left right
operated Times rs left right = computed product_of rs left right
operated Div rs left right = computed quotient_of rs left right
-- in `floor`, `ceiling` and `round` of a quotient (4.4)
operated FloorDiv rs left right = computed floored_quotient rs left right
operated CeilingDiv rs left right = computed ceiled_quotient rs left right
operated NearestDiv rs left right = computed nearest_quotient rs left right
operated Mod rs left right = computed remainder_of rs left right
operated Union rs left right = union left right

-- so many unary minus signs before a number (3.5)
abbrev pub negated_by : ℕ → Number → Number
negated_by zero n = n
negated_by (suc signs) n = negated (negated_by signs n)

abbrev pub negation : ℕ → List Record → Value → Outcome Value
negation signs rs v = do
  n ← numeric (number_value rs v)
  Ok (Numeral (negated_by signs n))
