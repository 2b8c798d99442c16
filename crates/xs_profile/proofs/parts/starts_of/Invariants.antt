use Rattle.std.proofs.Common.{◌≡◌, take}
use Rattle.xs_trace.specs.declared.item.Site.{Site}
use Rattle.xs_profile.specs.Counts.{ticks_at}
use Rattle.xs_profile.specs.steps.Table.{table_ticks}
use Rattle.xs_profile.proofs.parts.starts_of.Given as goal

-- one tick at each start so far
abbrev pub invariant-loop-start : goal.invariant-loop-start
invariant-loop-start l = (s : Site) → table_ticks l.table.modules.items s ≡ ticks_at (take l.start-index l.starts) s
