-- The cutting of parts at the operators of a level, part by part, as the code does it.
use Rattle.std.specs.Prelude.{ℕ, List, [], ◌∷◌, ◌++◌, Option, Some, None, option_map}
use Rattle.xs_xpath.specs.declared.token.Operator.{Operator}
use Rattle.xs_xpath.specs.Exprs.{trees_from}
use Rattle.xs_xpath.specs.Tree.{Tree}
use Rattle.xs_parser.specs.declared.part.Cutting.{Cutting as Given}
use Rattle.xs_parser.specs.steps.Parts.{gathered, parts_of, resumed}
use Rattle.xs_parser.specs.Reading.{Part}

-- operators, the operands before them, and the parts after the last operator
pub record Cutting : Type 0 where
  pub operators : List Operator
  pub operands : List Tree
  pub front : List Part

abbrev pub cutting : List Operator → List Tree → List Part → Cutting
cutting operators operands front = record { operators = operators; operands = operands; front = front }

abbrev pub cutting_of : Given → Cutting
cutting_of s = cutting s.operators.items (trees_from s.operands.items) (parts_of s.front.items)

abbrev pub with_front : Part → Cutting → Cutting
with_front part s = cutting s.operators s.operands (s.front ++ part ∷ [])

abbrev pub with_operand : List Operator → List Tree → Operator → Tree → Cutting
with_operand operators operands operator operand = cutting (operators ++ operator ∷ []) (operands ++ operand ∷ []) []

abbrev pub behind_operator : (List Part → Option Tree) → Operator → Cutting → Option Cutting
behind_operator p operator s = option_map (λ e. with_operand s.operators s.operands operator e) (p s.front)

abbrev pub behind_part : (List Part → Option Tree) → Option Operator → Part → Cutting → Option Cutting
behind_part p None part s = Some (with_front part s)
behind_part p (Some operator) part s = behind_operator p operator s

abbrev pub gathered_by : (List Part → Option Tree) → Cutting → Option Tree
gathered_by p s = option_map (λ e. gathered s.operators (s.operands ++ e ∷ [])) (p s.front)

-- what the parts that are left give
abbrev pub resumed_by : (List Part → Option Tree) → ℕ → Cutting → List Part → Option Tree
resumed_by p r s rest = resumed p r s.operators s.operands s.front rest
