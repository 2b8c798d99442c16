use Rattle.std.proofs.Common.{◌≡◌, map}
use Rattle.std.specs.List.{range_with_len}
use Rattle.xs_pattern.specs.Above.{is_led}
use Rattle.xs_pattern.proofs.above.led.Given as goal

-- the table of the nodes that were passed
abbrev pub invariant-loop-place : goal.invariant-loop-place
invariant-loop-place l = l.found.items ≡ map (is_led l.axis l.test l.table l.tree) (range_with_len 0 l.place)
