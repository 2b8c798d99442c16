use mir.Syntax.{named}
use Rattle.xs_lookup.proofs.SyncLemmas.{finder_sync}
use Rattle.std.proofs.Common.{ℕ, ◌≤◌, subst}
use Rattle.xs_block.specs.Chain.{most_blocks}
use Rattle.xs_sheet_pieces.proofs.PieceLemmas.{blocks-adopted, free-adopted, piece-ran}
use Rattle.xs_sheet_pieces.proofs.runner.SheetPiecesPieceRunner.run.Goals as goal

pub returns-clause-piece : goal.returns-clause-piece
returns-clause-piece g c =
    piece-ran c.adopt-outcome.result c.run-outcome.result.outcome c.self.inside.runner c.args.self.now c.task.inside.place c.task.inside.task
    c.args.task.now c.args.limits c.new-tasks.result.items c.run-outcome.new.children.items c.args.children.now.items
    c.adopt-outcome.new.children.items (g.T.Total.most c.args.desk.share) (g.T.Total.added c.args.desk.share)
    (g.T.Total.added c.run-outcome.result.total) (g.T.Total.last c.run-outcome.result.total) c.self.view_is c.task.view_is c.new-tasks.ensures.items
    c.adopt-outcome.ensures.same c.adopt-outcome.ensures.placed c.run-outcome.ensures.piece

pub returns-clause-blocks : goal.returns-clause-blocks
returns-clause-blocks g c =
    blocks-adopted c.adopt-outcome.result c.run-outcome.result.outcome c.args.desk.pool c.run-outcome.result.pool c.adopt-outcome.new.pool
    c.adopt-outcome.ensures.same c.adopt-outcome.ensures.kept c.run-outcome.ensures.blocks

pub returns-clause-free : goal.returns-clause-free
returns-clause-free g c =
    free-adopted c.adopt-outcome.result c.run-outcome.result.outcome c.args.desk.pool c.run-outcome.result.pool c.adopt-outcome.new.pool
    (subst (λ (n : ℕ). n ≤ most_blocks) c.free_blocks-free.ensures.free c.free_blocks-free.ensures.most) c.run-outcome.ensures.blocks
    c.run-outcome.ensures.free c.adopt-outcome.ensures.free

pub run-outcome-requires-sync-K : goal.run-outcome-requires-sync-K
run-outcome-requires-sync-K g c κs = λ _. search (finder_sync (record { mir = named 4; lft = κs.1.1.1.1.0 }))
