use Rattle.std.proofs.Common.{◌≡◌, ◌+◌, ◌-◌}
use Rattle.std.specs.Vec.{vec_len}
use Rattle.xs_trace.specs.declared.item.Site.{Site}
use Rattle.xs_profile.specs.steps.Table.{table_ticks}
use Rattle.xs_profile.proofs.table.Table.reach.Given as goal

-- modules without ticks change none
abbrev pub invariant-loop-self : goal.invariant-loop-self
invariant-loop-self l = (s : Site) → table_ticks l.self.modules.items s ≡ table_ticks l.initial.self.modules.items s

abbrev pub decreases-loop-self : goal.decreases-loop-self
decreases-loop-self l = (l.number + 1) - vec_len l.self.modules
