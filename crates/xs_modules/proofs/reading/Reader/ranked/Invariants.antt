use Rattle.std.proofs.Common.{◌≡◌, map}
use Rattle.xs_modules.specs.Numbering.{ranked}
use Rattle.xs_modules.specs.Precedence.{rank_of}
use Rattle.xs_modules.specs.Results.{module_data}
use Rattle.xs_modules.specs.steps.Views.{part_data, sheets_data}
use Rattle.xs_modules.proofs.reading.Reader.ranked.Given as goal

-- each module so far has its rank
abbrev pub invariant-loop-part : goal.invariant-loop-part
invariant-loop-part l = map module_data l.list.items ≡ map (ranked (rank_of (sheets_data l.sheets))) (map part_data l.yielded)
