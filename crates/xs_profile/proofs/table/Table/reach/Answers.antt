use Rattle.std.proofs.Common.{◌∙◌, ℕ, List, ap}
use Rattle.std.specs.Global.{Vec}
use Rattle.xs_profile.specs.steps.Table.{table_ticks}
use Rattle.xs_profile.proofs.LineLemmas.{table-past}
use Rattle.xs_profile.proofs.table.Table.reach.Goals as goal

pub loop-self-preserved : goal.loop-self-preserved
loop-self-preserved c = λ s.
    ap (λ (ms : List (Vec ℕ)). table_ticks ms s) c.in_ok-push.ensures.items
    ∙ table-past c.loop-self.self.modules.items c.new.result s c.new.ensures.items ∙ c.loop-self.invariant s
