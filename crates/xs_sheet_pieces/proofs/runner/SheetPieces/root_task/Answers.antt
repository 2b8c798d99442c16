use mir.Syntax.{named}
use Rattle.xs_lookup.proofs.SyncLemmas.{finder_sync}
use Rattle.xs_sheet_pieces.proofs.runner.SheetPieces.root_task.Goals as goal

pub root_task-requires-sync-K : goal.root_task-requires-sync-K
root_task-requires-sync-K c κs = search (finder_sync (record { mir = named 2; lft = κs.1.1.0 }))
