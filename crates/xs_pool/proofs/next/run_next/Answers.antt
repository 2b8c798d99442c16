use Rattle.std.proofs.Common.{◌++◌, ◌∙◌, ap, sym, map, List}
use Rattle.xs_pieces.specs.declared.piece.Piece.{Piece}
use Rattle.xs_pool.specs.steps.Running.{waiting}
use Rattle.xs_pool.proofs.RunLemmas.{runs-next, runs-over, task-at-index, piece-of}
use Rattle.xs_pool.proofs.next.run_next.Goals as goal

pub returns-then-not-is_done-clause-next : goal.returns-then-not-is_done-clause-next
returns-then-not-is_done-clause-next g c root r =
    let p = c.index.result.now in
    let o = c.in_ok-outcome.outcome in
    runs-over (g.R.Runner.is_own c.args.runner.now) (g.R.Runner.place_of c.args.runner.now) (g.R.Runner.own c.args.runner.now)
    (g.R.Runner.whole c.args.runner.now) c.requires.ready root c.args.limits c.args.index (g.T.Total.added c.args.desk.share)
    (g.T.Total.added c.run-outcome.result.desk.share) (g.T.Total.last c.run-outcome.result.desk.share) c.args.pieces.now.items
    c.set_outcome.new.pieces.items p.task c.run-outcome.new.children.items o r c.requires.within
    (task-at-index c.args.pieces.now.items c.args.index p c.requires.within c.index.ensures) p
    (piece-of (g.R.Runner.own c.args.runner.now p.task) c.args.limits (g.T.Total.most c.args.desk.share) c.args.limits.ticks
    (g.T.Total.added c.args.desk.share) (g.T.Total.added c.run-outcome.result.desk.share) (g.T.Total.last c.run-outcome.result.desk.share)
    c.new-children.result.items c.run-outcome.new.children.items c.run-outcome.result.outcome o c.in_ok-outcome.was c.requires.most
    c.new-children.ensures.items c.run-outcome.ensures.piece)
    (sym c.is_done-is_done.ensures.done ∙ c.if-not-is_done.true) c.set_outcome.ensures.ran

pub returns-clause-next : goal.returns-clause-next
returns-clause-next g c root r =
    let p = c.index.result.now in
    let o = c.in_ok-outcome.outcome in
    runs-next (g.R.Runner.is_own c.args.runner.now) (g.R.Runner.place_of c.args.runner.now) (g.R.Runner.own c.args.runner.now)
    (g.R.Runner.whole c.args.runner.now) c.requires.ready root c.args.limits c.args.index (g.T.Total.added c.args.desk.share)
    (g.T.Total.added c.run-outcome.result.desk.share) (g.T.Total.last c.run-outcome.result.desk.share) c.args.pieces.now.items
    c.push_waiting.new.pieces.items p.task c.run-outcome.new.children.items o r c.requires.within
    (task-at-index c.args.pieces.now.items c.args.index p c.requires.within c.index.ensures) p
    (piece-of (g.R.Runner.own c.args.runner.now p.task) c.args.limits (g.T.Total.most c.args.desk.share) c.args.limits.ticks
    (g.T.Total.added c.args.desk.share) (g.T.Total.added c.run-outcome.result.desk.share) (g.T.Total.last c.run-outcome.result.desk.share)
    c.new-children.result.items c.run-outcome.new.children.items c.run-outcome.result.outcome o c.in_ok-outcome.was c.requires.most
    c.new-children.ensures.items c.run-outcome.ensures.piece)
    (sym c.is_done-is_done.ensures.done ∙ c.if-not-is_done.false)
    (c.in_ok-push_waiting.ensures.pushed
    ∙ ap (λ (x : List (Piece g.row.R-Task.Denot)). x ++ map waiting c.run-outcome.new.children.items) c.set_outcome.ensures.ran)
