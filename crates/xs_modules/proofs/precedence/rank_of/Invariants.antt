use Rattle.std.proofs.Common.{◌≡◌, drop}
use Rattle.xs_modules.specs.Precedence.{rank_among, rank_of}
use Rattle.xs_modules.specs.steps.Views.{sheets_data}
use Rattle.xs_modules.proofs.precedence.rank_of.Given as goal

-- the rank is that among those that are left
abbrev pub invariant-loop-place : goal.invariant-loop-place
invariant-loop-place l = rank_among l.number l.place (sheets_data (drop l.place l.sheets)) ≡ rank_of (sheets_data l.sheets) l.number
