use mir.Syntax.{named}
use Rattle.xs_lookup.proofs.SyncLemmas.{finder_sync}
use Rattle.xs_lookup.proofs.finder.SheetFinderExprEvaluator.evaluate.Goals as goal

pub evaluate-requires-sync-K : goal.evaluate-requires-sync-K
evaluate-requires-sync-K g c κs = λ _. search (finder_sync (record { mir = named 5; lft = κs.1.1.1.1.1.0 }))
