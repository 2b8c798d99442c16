use Rattle.std.proofs.Common.{◌≡◌, take}
use Rattle.xs_trace.specs.declared.item.Site.{Site}
use Rattle.xs_profile.specs.steps.Parts.{part_ticks}
use Rattle.xs_profile.specs.steps.Table.{sites_among, table_ticks}
use Rattle.xs_profile.proofs.parts.parts_of.Given as goal

-- the ticks of the places so far, at the starts of their parts
abbrev pub invariant-loop-place : goal.invariant-loop-place
invariant-loop-place l =
    (s : Site) → table_ticks l.table.modules.items s ≡ part_ticks (sites_among l.starts) (take l.place-index l.places) s
