use Rattle.std.proofs.Common.{◌≡◌, ◌<◌, length, refl, sym, ap, ◌∙◌, subst, rules, true}
use Rattle.std.specs.Option.{IsSome}
use Rattle.std.proofs.lemmas.List.Elements.{All-same}
use Rattle.xs_value.specs.Conversion.{IsIn}
use Rattle.xs_body_spec.specs.declared.focus.Focus.{Focus}
use Rattle.xs_body_spec.specs.World.{World}
use Rattle.xs_body.specs.Inside.{AreValues}
use Rattle.xs_body.specs.declared.frames.Rules.{Rules}
use Rattle.xs_body.specs.steps.Frames.{Evaluation}
use Rattle.std.proofs.lemmas.Result.{err_from_is_err_and}
use Rattle.xs_trace.specs.Play.{and_then, ticked}
use Rattle.xs_trace.proofs.GrowthLemmas.{passes}
use Rattle.std.proofs.Common.{◌+◌, drop, ◌∷◌, []}
use Rattle.xs_body_spec.specs.World.{at_node}
use Rattle.xs_body.specs.steps.Frames.{apply_left, entering_fitting, pushed}
use Rattle.xs_body.specs.steps.Lists.{nodes_in}
use Rattle.xs_body.proofs.GrowthLemmas.{fitting-grows}
use Rattle.xs_body.specs.declared.frames.ApplyLeft.{ApplyLeft}
use Rattle.xs_body.proofs.evaluator.Evaluator.apply_at.Goals as goal

pub returns-in_err-tick-clause-reported : goal.returns-in_err-tick-clause-reported
returns-in_err-tick-clause-reported g c =
    let p = err_from_is_err_and c.from_residual.result c.from_residual.ensures.1 in
    let a = c.args.left.value in
    let t = pushed (apply_left a.rules.mode a.rules.passed a.site a.focus (a.position + 1) (drop (a.next + 1) (nodes_in a.nodes)) ∷ []) c.args.self.now in
    let f = at_node c.args.node a.position a.focus in
    let mode = a.rules.mode in
    let ps = a.rules.passed in
    let s = g.R.Tally.state c.args.recorder.now in
    passes (λ x. x) _ _ (ticked c.deref.result.now.site s) (λ u m. entering_fitting mode ps a.site f t m) (g.R.Tally.state c.tick.new.self)
    c.from_residual.result _ _ (ap (λ (b : ApplyLeft). and_then (ticked b.site s) (λ u m. entering_fitting mode ps a.site f t m)) (sym c.deref.ensures))
    (λ u. fitting-grows mode ps a.site f t) p.1 p.2 c.in_err-tick.ensures.reported

pub enter_fitting-requires-sync-K : goal.enter_fitting-requires-sync-K
enter_fitting-requires-sync-K g c κs within =
    let rs = c.args.self.now.world.tree in
    let e = c.in_ok-push.ensures.pushed in
    let w = ap (λ (t : Evaluation). t.world) e in
    let here = subst (λ (f : Focus). f.node < length rs) (sym c.at_node-focus.ensures) c.requires.node in
    let values = All-same (IsIn rs) c.in_ok-rules.rules.passed.values c.args.left.value.rules.passed.values
    (ap (λ (x : Rules). x.passed.values) c.in_ok-rules.ensures ∙ ap (λ (b : ApplyLeft). b.rules.passed.values) c.deref-4.ensures)
    c.requires.left.passed in (
      search rules,
      (
        (refl, tt),
        subst (λ (v : World). (IsSome v.grain → g.R.Recorder.takes_holes ≡ true)
            × ((c.at_node-focus.result.node < length v.tree) × AreValues v.tree c.in_ok-rules.rules.passed.values))
            (sym w)
            (c.requires.holes, (here, values)),
      ),
    )
