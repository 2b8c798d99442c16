use Rattle.std.proofs.Common.{List, ap, sym, ◌∙◌}
use Rattle.std.proofs.lemmas.Result.{err_from_is_err_and}
use Rattle.xs_sheet.specs.declared.body.SortDecl.{SortDecl}
use Rattle.xs_eval_spec.proofs.StepLemmas.{continues, goes_on}
use Rattle.xs_trace.specs.Run.{limited}
use Rattle.xs_trace.proofs.GrowthLemmas.{passes}
use Rattle.xs_trace.proofs.RunLemmas.{limited-bind, limited-grows}
use Rattle.xs_body_spec.specs.World.{nodes_or_children, sorted_run}
use Rattle.xs_body.specs.steps.Frames.{last}
use Rattle.xs_body.specs.steps.Lists.{nodes_in}
use Rattle.xs_body.proofs.evaluator.Evaluator.applied_nodes.Goals as goal

pub returns-in_err-found-clause-reported : goal.returns-in_err-found-clause-reported
returns-in_err-found-clause-reported g c =
    let p = err_from_is_err_and c.from_residual.result c.from_residual.ensures.1 in
    let w = c.args.self.now.world in
    let f = c.args.scope.focus in
    let vs = last c.args.scope.seen c.args.self.now.slots in
    let a = c.args.applied.now in
    passes (λ l. nodes_in l) (λ l. nodes_in l) _ _ (λ ns m. limited c.args.site (sorted_run w a.sorts f vs ns) m)
    (g.R.Tally.state c.nodes_or_children.new.recorder) c.from_residual.result _ _
    (limited-bind c.args.site (nodes_or_children w a.select f vs) (sorted_run w a.sorts f vs) (g.R.Tally.state c.args.recorder.now))
    (λ ns. limited-grows c.args.site (sorted_run w a.sorts f vs ns)) p.1 p.2 c.in_err-found.ensures.reported

pub returns-clause-reported : goal.returns-clause-reported
returns-clause-reported g c =
    let w = c.args.self.now.world in
    let f = c.args.scope.focus in
    let vs = last c.args.scope.seen c.args.self.now.slots in
    let a = c.args.applied.now in
    let m = g.R.Tally.state c.nodes_or_children.new.recorder in
    continues (λ l. nodes_in l) _ _ c.sorted.result (g.R.Tally.state c.sorted.new.tally)
    (goes_on c.args.site (nodes_or_children w a.select f vs) (sorted_run w a.sorts f vs) (nodes_in c.in_ok-found.found)
    (g.R.Tally.state c.args.recorder.now) m c.in_ok-found.ensures.reported
    ∙ ap (λ (ss : List SortDecl). limited c.args.site (sorted_run w ss f vs (nodes_in c.in_ok-found.found)) m) (sym c.as_slice.ensures))
    c.sorted.ensures.reported
