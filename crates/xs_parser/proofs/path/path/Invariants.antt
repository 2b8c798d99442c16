use Rattle.std.proofs.Common.{◌≡◌}
use Rattle.std.specs.Prelude.{option_and_then}
use Rattle.std.specs.Vec.{vec_len}
use Rattle.xs_parser.specs.steps.Parts.{parts_of, ahead_of}
use Rattle.xs_parser.specs.Reading.{path_of, path_from, backwards}
use Rattle.xs_parser.proofs.path.path.Given as goal

abbrev pub invariant-loop-part : goal.invariant-loop-part
invariant-loop-part l = path_of (parts_of l.fn.parts.items) ≡ option_and_then path_from (backwards (parts_of l.rest.items) (ahead_of l.ahead))

abbrev pub decreases-loop-part : goal.decreases-loop-part
decreases-loop-part l = vec_len l.rest
