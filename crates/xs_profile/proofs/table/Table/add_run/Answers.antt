use Rattle.std.proofs.lemmas.Result.{on_ok_weaker}
use Rattle.xs_profile.specs.steps.Table.{table_ticks}
use Rattle.xs_profile.proofs.TickLemmas.{some-run}
use Rattle.xs_profile.proofs.table.Table.add_run.Goals as goal

pub returns : goal.returns
returns c =
    on_ok_weaker c.add.result
    (λ each s.
    some-run s c.args.run.site c.args.run.ticks (table_ticks c.args.self.now.modules.items s) (table_ticks c.add.new.self.modules.items s) (each s))
    c.add.ensures
