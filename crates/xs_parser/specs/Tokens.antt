-- Operators by their precedence (XPath 1.0, 3.1, 3.3 to 3.5).
use Rattle.std.specs.Prelude.{ℕ}
use Rattle.xs_xpath.specs.declared.token.Operator.{Operator}
use Rattle.xs_xpath.specs.declared.token.Operator.TheVariants.{Or, And, Equal, Unequal, Less, LessEqual, Greater, GreaterEqual, Plus, Minus, Times, Div, FloorDiv, CeilingDiv, NearestDiv, Mod, Union}

-- The level of the expression whose operands an operator joins: 1 UnionExpr, 3 MultiplicativeExpr, 4 AdditiveExpr,
-- 5 RelationalExpr, 6 EqualityExpr, 7 AndExpr, 8 OrExpr.
abbrev pub rank : Operator → ℕ
rank Union = 1
rank Times = 3
rank Div = 3
rank FloorDiv = 3
rank CeilingDiv = 3
rank NearestDiv = 3
rank Mod = 3
rank Plus = 4
rank Minus = 4
rank Less = 5
rank LessEqual = 5
rank Greater = 5
rank GreaterEqual = 5
rank Equal = 6
rank Unequal = 6
rank And = 7
rank Or = 8

-- the level of Expr
abbrev pub expr_level : ℕ
expr_level = 8
