use Rattle.std.proofs.Common.{ap, Some}
use Rattle.xs_pieces.specs.Tree.{task_at}
use Rattle.xs_pool.proofs.KnownLemmas.{tree-known}
use Rattle.xs_pool.proofs.pool.run_pool.Goals as goal

pub run_known-requires-clause-known : goal.run_known-requires-clause-known
run_known-requires-clause-known g c =
    let r = c.args.crew.now.runner.now in
    λ κs o. tree-known (g.R.Runner.is_own r) (g.R.Runner.place_of r) (g.R.Runner.own r) (g.R.Runner.whole r) c.args.root c.requires.ready

pub run_known-requires-clause-at : goal.run_known-requires-clause-at
run_known-requires-clause-at g c = λ κs o t f. f

pub run_known-requires-clause-root : goal.run_known-requires-clause-root
run_known-requires-clause-root g c =
    λ κs o. (
      c.requires.root,
      (
        ap (task_at (g.R.Runner.own c.args.crew.now.runner.now) (Some c.args.root)) c.requires.place,
        c.requires.ready.root_begins c.args.root c.requires.root c.requires.place,
      ),
    )
