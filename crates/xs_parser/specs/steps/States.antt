-- What the states of the code represent: the innermost open bracket is the last of its list.
use Rattle.std.specs.Prelude.{Bool, true, false, map, reverse}
use Rattle.xs_xpath.specs.Exprs.{trees_from}
use Rattle.xs_xpath.specs.Tree.{Tree, here}
use Rattle.xs_parser.specs.declared.read.Bracket.{Bracket as Given}
use Rattle.xs_parser.specs.declared.read.Bracket.TheVariants.{Round, Call, Square}
use Rattle.xs_parser.specs.declared.read.Frame.{Frame as GivenFrame}
use Rattle.xs_parser.specs.declared.read.State.{State as GivenState}
use Rattle.xs_parser.specs.steps.Parts.{parts_of}
use Rattle.xs_parser.specs.Grammar.{same}
use Rattle.xs_parser.specs.Reading.{Bracket, round, arguments_of, square, Frame, frame, State, state}

abbrev pub bracket_of : Given → Bracket
bracket_of Round = round
bracket_of (Call name arguments) = arguments_of name (trees_from arguments.items)
bracket_of Square = square

abbrev pub frame_of : GivenFrame → Frame
frame_of f = frame (bracket_of f.bracket) (parts_of f.before.items)

abbrev pub state_of : GivenState → State
state_of s = state (map frame_of (reverse s.frames.items)) (parts_of s.parts.items)

abbrev pub nothing_kept : Tree → Tree
nothing_kept e = here

-- what is kept of an expression between brackets: of a text that is nested too deep, nothing
abbrev pub kept : Bool → Tree → Tree
kept true = nothing_kept
kept false = same
