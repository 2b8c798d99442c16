use mir.Syntax.{named}
use Rattle.xs_lookup.proofs.SyncLemmas.{finder_sync}
use Rattle.xs_sheet_pieces.proofs.PieceLemmas.{whole-ran}
use Rattle.xs_sheet_pieces.proofs.runner.SheetPiecesRunner.run_whole.Goals as goal

pub returns-clause-outcome : goal.returns-clause-outcome
returns-clause-outcome c =
    whole-ran c.run_whole.result c.self.inside.runner c.args.self.now c.task.inside.place c.task.inside.task c.args.task.now c.args.limits c.self.view_is
    c.task.view_is c.run_whole.ensures.outcome

pub run_whole-requires-sync-K : goal.run_whole-requires-sync-K
run_whole-requires-sync-K c κs = search (finder_sync (record { mir = named 4; lft = κs.1.1.1.1.0 }))
