use Rattle.std.proofs.Common.{[]}
use Rattle.std.proofs.lemmas.Result.{err_from_is_err_and}
use Rattle.xs_trace.specs.Run.{limited}
use Rattle.xs_body_spec.specs.Trace.{by_rules}
use Rattle.xs_body_spec.specs.World.{applied_nodes}
use Rattle.xs_body.specs.steps.Frames.{bindings_of, last, passes_on}
use Rattle.xs_body.specs.steps.Lists.{nodes_in}
use Rattle.xs_body.proofs.ExitLemmas.{stack-exit}
use Rattle.xs_body.proofs.GrowthLemmas.{passes-grow}
use Rattle.xs_body.proofs.evaluator.Evaluator.begin_apply.Goals as goal

pub returns-in_err-nodes-clause-reported : goal.returns-in_err-nodes-clause-reported
returns-in_err-nodes-clause-reported g c =
    let p = err_from_is_err_and c.from_residual.result c.from_residual.ensures.1 in
    let t = c.args.self.now in
    let bs = bindings_of c.args.passed.now in
    let mode = c.args.applied.now.mode in
    stack-exit (λ l. nodes_in l)
    (limited c.args.site (applied_nodes t.world c.args.applied.now.select c.args.applied.now.sorts c.args.scope.focus (last c.args.scope.seen t.slots))
    (g.R.Tally.state c.args.recorder.now))
    (λ ns m. passes_on bs bs [] (by_rules mode ns) c.args.site c.args.scope t m) _ _ c.from_residual.result _ _
    (λ ns. passes-grow bs bs [] (by_rules mode ns) c.args.site c.args.scope t) p.1 p.2 c.in_err-nodes.ensures.reported
