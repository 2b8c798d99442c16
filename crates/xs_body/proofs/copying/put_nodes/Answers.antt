use Rattle.std.proofs.Common.{◌≡◌, ◌<◌, ◌∷◌, ℕ, All, ap, length, subst, ◌∙◌, rules}
use Rattle.std.proofs.lemmas.List.Elements.{All-tail}
use Rattle.std.proofs.lemmas.Result.{err_from_is_err_and}
use Rattle.xs_trace.specs.Play.{and_then}
use Rattle.xs_trace.proofs.GrowthLemmas.{passes}
use Rattle.xs_making.specs.Copies.{deep_copy}
use Rattle.xs_making.specs.Putting.{events_steps}
use Rattle.xs_body.specs.steps.Making.{nodes_steps}
use Rattle.xs_body.proofs.MakingLemmas.{nodes-grow}
use Rattle.xs_body.proofs.copying.put_nodes.Goals as goal

pub returns-in_err-put_deep_copy-clause-reported : goal.returns-in_err-put_deep_copy-clause-reported
returns-in_err-put_deep_copy-clause-reported g c =
    let p = err_from_is_err_and c.from_residual.result c.from_residual.ensures.1 in
    let site = c.args.site in
    let rs = c.args.tree.now in
    let n = c.in-Some.node.now in
    let others = c.in-Some.others.now in
    let s = g.R.Tally.state c.loop-node.recorder in
    let e : c.loop-node.left.now ≡ (n ∷ others) = search rules in
    passes (λ x. x) (λ x. x) _ (events_steps site (deep_copy rs n) s) (λ u m. nodes_steps rs site others m)
    (g.R.Tally.state c.put_deep_copy.new.recorder) c.from_residual.result _ _
    (c.loop-node.invariant.0.0 ∙ ap (λ ns. nodes_steps rs site ns s) e) (λ u. nodes-grow rs site others) p.1 p.2 c.in_err-put_deep_copy.ensures.reported

pub loop-node-preserved : goal.loop-node-preserved
loop-node-preserved g c =
    let site = c.args.site in
    let rs = c.args.tree.now in
    let n = c.in-Some.node.now in
    let others = c.in-Some.others.now in
    let s = g.R.Tally.state c.loop-node.recorder in
    let e : c.loop-node.left.now ≡ (n ∷ others) = search rules in
    let within : ℕ → Type 0 = λ m. m < length rs in (
      (
        c.loop-node.invariant.0.0 ∙ ap (λ ns. nodes_steps rs site ns s) e
            ∙ ap (λ h. and_then h (λ u m. nodes_steps rs site others m)) c.in_ok-put_deep_copy.ensures.reported,
        c.in_ok-put_deep_copy.ensures.kept ∙ c.loop-node.invariant.0.1,
      ),
      All-tail within n others (subst (All within) e c.loop-node.invariant.1),
    )
