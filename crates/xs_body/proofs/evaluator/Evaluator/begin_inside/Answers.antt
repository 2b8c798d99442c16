use Rattle.std.proofs.Common.{◌≡◌, ◌==◌, ◌<◌, length, refl, rules, subst, sym, true}
use Rattle.xs_body.specs.steps.Frames.{Evaluation}
use Rattle.xs_body.proofs.ExitLemmas.{inside-reported}
use Rattle.xs_body.proofs.evaluator.Evaluator.begin_inside.Goals as goal

pub returns-then-has_no_sets-clause-reported : goal.returns-then-has_no_sets-clause-reported
returns-then-has_no_sets-clause-reported g c =
    let start = c.args.start.now in
    let none : (length start.sets == 0) ≡ true = search rules in
    inside-reported start c.args.body.now c.args.site c.args.scope c.args.self.now _ c.put_own.new.self (g.R.Tally.state c.args.recorder.now)
    (g.R.Tally.state c.put_own.new.recorder) c.put_own.result none c.in_ok-push_content.ensures.pushed c.put_own.ensures.same c.put_own.ensures.reported

pub put_own-requires-sync-K : goal.put_own-requires-sync-K
put_own-requires-sync-K g c κs within =
    let node = subst (λ (t : Evaluation). c.args.scope.focus.node < length t.world.tree) (sym c.in_ok-push_content.ensures.pushed) c.requires.node in
    (search rules, ((refl, tt), node))
