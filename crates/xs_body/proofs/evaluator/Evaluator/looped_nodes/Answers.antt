use Rattle.std.proofs.lemmas.Result.{err_from_is_err_and}
use Rattle.xs_eval_spec.proofs.StepLemmas.{continues, goes_on}
use Rattle.xs_trace.specs.Run.{limited}
use Rattle.xs_trace.proofs.GrowthLemmas.{passes}
use Rattle.xs_trace.proofs.RunLemmas.{limited-bind, limited-grows}
use Rattle.xs_body_spec.specs.World.{nodes_run, sorted_run}
use Rattle.xs_body.specs.steps.Frames.{last}
use Rattle.xs_body.specs.steps.Lists.{nodes_in}
use Rattle.xs_body.proofs.evaluator.Evaluator.looped_nodes.Goals as goal

pub returns-in_err-nodes-clause-reported : goal.returns-in_err-nodes-clause-reported
returns-in_err-nodes-clause-reported g c =
    let p = err_from_is_err_and c.from_residual.result c.from_residual.ensures.1 in
    let w = c.args.self.now.world in
    let f = c.args.scope.focus in
    let vs = last c.args.scope.seen c.args.self.now.slots in
    let sorts = c.args.sorts.now in
    passes (λ x. x) (λ l. nodes_in l) _ _ (λ ns m. limited c.args.site (sorted_run w sorts f vs ns) m)
    (g.R.Tally.state c.nodes.new.tally) c.from_residual.result _ _
    (limited-bind c.args.site (nodes_run w c.args.select.now f vs) (sorted_run w sorts f vs) (g.R.Tally.state c.args.recorder.now))
    (λ ns. limited-grows c.args.site (sorted_run w sorts f vs ns)) p.1 p.2 c.in_err-nodes.ensures.reported

pub returns-clause-reported : goal.returns-clause-reported
returns-clause-reported g c =
    let w = c.args.self.now.world in
    let f = c.args.scope.focus in
    let vs = last c.args.scope.seen c.args.self.now.slots in
    let sorts = c.args.sorts.now in
    continues (λ l. nodes_in l) _ _ c.sorted.result (g.R.Tally.state c.sorted.new.tally)
    (goes_on c.args.site (nodes_run w c.args.select.now f vs) (sorted_run w sorts f vs) c.in_ok-nodes.nodes
    (g.R.Tally.state c.args.recorder.now) (g.R.Tally.state c.nodes.new.tally) c.in_ok-nodes.ensures.reported) c.sorted.ensures.reported
