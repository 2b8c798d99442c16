use Rattle.std.proofs.Common.{◌≡◌, List, ap, sym, ◌∙◌}
use Rattle.std.proofs.lemmas.Result.{err_from_is_err_and}
use Rattle.xs_trace.specs.Play.{Goes, and_then}
use Rattle.xs_trace.specs.declared.event.Event.{Event}
use Rattle.xs_trace.proofs.GrowthLemmas.{goes-grows, passes}
use Rattle.xs_tree.specs.Record.{at}
use Rattle.xs_making.specs.Copies.{shallow_copy}
use Rattle.xs_making.specs.Putting.{events_steps}
use Rattle.xs_body.specs.steps.Frames.{Evaluation, copied_begun}
use Rattle.xs_body.proofs.evaluator.Evaluator.begin_copy.Goals as goal

pub returns-in_err-put_shallow_copy-clause-reported : goal.returns-in_err-put_shallow_copy-clause-reported
returns-in_err-put_shallow_copy-clause-reported g c =
    let p = err_from_is_err_and c.from_residual.result c.from_residual.ensures.1 in
    let rs = c.args.self.now.world.tree in
    let n = c.args.scope.focus.node in
    let s = g.R.Tally.state c.args.recorder.now in
    let m = g.R.Tally.state c.put_shallow_copy.new.recorder in
    let t = copied_begun (at rs n).kind c.args.sets.now c.args.body.now c.args.scope c.args.self.now in
    let q : shallow_copy c.self.inside.tree.now c.at-node.result ≡ shallow_copy rs n =
    ap (λ (e : Evaluation). shallow_copy e.world.tree c.at-node.result) c.self.view_is ∙ ap (shallow_copy rs) c.at-node.ensures in
    passes (λ x. x) _ _ (events_steps c.args.site (shallow_copy c.self.inside.tree.now c.at-node.result) s) (λ u m. Goes t m) m
    c.from_residual.result _ _
    (ap (λ (es : List Event). and_then (events_steps c.args.site es s) (λ u m. Goes t m)) (sym q)) (λ u. goes-grows t) p.1 p.2
    c.in_err-put_shallow_copy.ensures.reported
