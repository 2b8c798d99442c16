-- Calls of functions (XPath 1.0, 3.2), among them `floor`, `ceiling` and `round` of a quotient (4.4). Where a `div` is all of the
-- argument of one of the three, brackets aside, a division of its own stands in the place of the `div`: the exact quotient, rounded.
use Rattle.std.specs.Prelude.{List, [], ◌∷◌, Option, Some, None}
use Rattle.xs_xpath.specs.declared.name.Function.{Function}
use Rattle.xs_xpath.specs.declared.name.Function.TheVariants.{Floor, Ceiling, Round}
use Rattle.xs_xpath.specs.declared.token.Operator.{Operator}
use Rattle.xs_xpath.specs.declared.token.Operator.TheVariants.{Div, FloorDiv, CeilingDiv, NearestDiv}
use Rattle.xs_xpath.specs.Tree.{Tree, call, chain, group, trees}

-- the division of a function that rounds
abbrev pub division_of : Function → Option Operator
division_of Floor = Some FloorDiv
division_of Ceiling = Some CeilingDiv
division_of Round = Some NearestDiv
division_of _ = None

abbrev pub instead_of_div : Operator → Operator → Operator
instead_of_div division Div = division
instead_of_div division op = op

-- operators of one level join to the left: the last one joins all that is before it with the operand behind it
abbrev pub last_divided : Operator → List Operator → List Operator
last_divided division [] = []
last_divided division (op ∷ []) = instead_of_div division op ∷ []
last_divided division (op ∷ next ∷ ops) = op ∷ last_divided division (next ∷ ops)

-- an expression, with a division in the place of the `div` that is all of it
abbrev pub divided : Operator → Tree → Tree
divided division (chain ops es) = chain (last_divided division ops) es
divided division (group e) = group (divided division e)
divided division e = e

-- the arguments of a function; of one that rounds there is one
abbrev pub divided_in : Option Operator → List Tree → List Tree
divided_in (Some division) (e ∷ es) = divided division e ∷ es
divided_in _ es = es

-- the call of a function
abbrev pub called : Function → List Tree → Tree
called function es = call function (trees (divided_in (division_of function) es))
