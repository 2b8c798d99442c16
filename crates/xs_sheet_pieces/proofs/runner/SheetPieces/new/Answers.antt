use mir.Syntax.{named}
use Rattle.xs_lookup.proofs.SyncLemmas.{finder_sync}
use Rattle.xs_sheet_pieces.proofs.runner.SheetPieces.new.Goals as goal

pub new-requires-sync-K : goal.new-requires-sync-K
new-requires-sync-K c κs = search (finder_sync (record { mir = named 1; lft = κs.1.0 }))
