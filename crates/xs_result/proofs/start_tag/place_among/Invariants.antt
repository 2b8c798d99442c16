use Rattle.std.proofs.Common.{◌≡◌, drop}
use Rattle.xs_result.specs.Places.{place_in}
use Rattle.xs_result.proofs.start_tag.place_among.Given as goal

-- of the names that are left the name has the place that it has of all
abbrev pub invariant-loop-placed : goal.invariant-loop-placed
invariant-loop-placed l = place_in (drop l.placed-index l.names) l.name.uri l.name.local ≡ place_in l.names l.name.uri l.name.local
