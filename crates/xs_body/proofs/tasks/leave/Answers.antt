use Rattle.std.proofs.Common.{◌≡◌, ◌∷◌, map, ap, sym, ◌∙◌, rules}
use Rattle.std.proofs.lemmas.Result.{err_from_is_err_and}
use Rattle.xs_trace.specs.Mark.{Hole}
use Rattle.xs_trace.specs.Play.{and_then}
use Rattle.xs_trace.proofs.GrowthLemmas.{passes, play-grows}
use Rattle.xs_body_spec.specs.Tasks.{shared}
use Rattle.xs_body.specs.steps.Sharing.{share_of, share_step, shares}
use Rattle.xs_body.proofs.SharingLemmas.{shares-filled, shares-next}
use Rattle.xs_body.proofs.tasks.leave.Goals as goal

pub returns-in_err-shared-clause-reported : goal.returns-in_err-shared-clause-reported
returns-in_err-shared-clause-reported g c =
    let p = err_from_is_err_and c.from_residual.result c.from_residual.ensures.1 in
    let e : c.loop-node.left.now ≡ (c.in-Some.node.now ∷ c.in-Some.behind.now) = search rules in
    let s = g.R.Tally.state c.loop-node.recorder in
    let z = share_of c.loop-node.sharing in
    passes (λ y. share_of y) (λ x. x) _ (share_step c.args.grain z c.in-Some.node.now s) (λ y m. shares c.args.grain y c.in-Some.behind.now m)
    (g.R.Tally.state c.share.new.recorder) c.from_residual.result _ _
    (c.loop-node.invariant.0 ∙ ap (λ ns. shares c.args.grain z ns s) e ∙ shares-next c.args.grain z c.in-Some.node.now c.in-Some.behind.now s)
    (λ y. play-grows (map Hole (shared c.args.grain y.room y.task c.in-Some.behind.now))) p.1 p.2 c.in_err-shared.ensures.reported

pub loop-node-preserved : goal.loop-node-preserved
loop-node-preserved g c =
    let e : c.loop-node.left.now ≡ (c.in-Some.node.now ∷ c.in-Some.behind.now) = search rules in
    let s = g.R.Tally.state c.loop-node.recorder in
    let z = share_of c.loop-node.sharing in
    let y = share_of c.in_ok-shared.shared in
    let m = g.R.Tally.state c.share.new.recorder in
    let own = c.cut-parts.result.0.now in
    let others = c.cut-parts.result.1.now in (
      c.loop-node.invariant.0 ∙ ap (λ ns. shares c.args.grain z ns s) e ∙ shares-next c.args.grain z c.in-Some.node.now c.in-Some.behind.now s
          ∙ ap (λ j. and_then j (λ y m. shares c.args.grain y c.in-Some.behind.now m)) c.in_ok-shared.ensures.reported
          ∙ ap (λ ns. shares c.args.grain y ns m) c.cut-parts.ensures.joined ∙ shares-filled c.args.grain y own others m c.cut-parts.ensures.few
          ∙ ap (λ q. shares c.args.grain q others m) (sym c.in_ok-sharing.ensures),
      c.share.ensures.kept ∙ c.loop-node.invariant.1,
    )
