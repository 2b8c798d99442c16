use Rattle.std.proofs.lemmas.Result.{err_from_is_err_and}
use Rattle.xs_trace.specs.Play.{and_then, ticked}
use Rattle.std.proofs.Common.{◌≡◌, ◌<◌, ◌+◌, drop, length, ◌∷◌, [], ap, refl, sym, subst, rules, true}
use Rattle.std.specs.Option.{IsSome}
use Rattle.xs_body_spec.specs.declared.focus.Focus.{Focus}
use Rattle.xs_body_spec.specs.World.{World}
use Rattle.xs_body.specs.declared.frames.Scope.{Scope}
use Rattle.xs_body.specs.steps.Frames.{Evaluation}
use Rattle.xs_trace.proofs.GrowthLemmas.{passes}
use Rattle.xs_body_spec.specs.World.{at_node}
use Rattle.xs_body.specs.steps.Frames.{each_left, instrs_of, over, pushed, rest_begun}
use Rattle.xs_body.proofs.GrowthLemmas.{rest-grows}
use Rattle.xs_body.specs.steps.Lists.{nodes_in}
use Rattle.xs_body.specs.declared.frames.EachLeft.{EachLeft}
use Rattle.xs_body.proofs.evaluator.Evaluator.do_at.Goals as goal

pub returns-in_err-tick-clause-reported : goal.returns-in_err-tick-clause-reported
returns-in_err-tick-clause-reported g c =
    let p = err_from_is_err_and c.from_residual.result c.from_residual.ensures.1 in
    let a = c.args.left.value in
    let t = pushed (each_left a.body.now a.site a.scope (a.position + 1) (drop (a.next + 1) (nodes_in a.nodes)) ∷ []) c.args.self.now in
    let is = instrs_of a.body.now in
    let here = over (at_node c.args.node a.position a.scope.focus) a.scope in
    let s = g.R.Tally.state c.args.recorder.now in
    passes (λ x. x) _ _ (ticked c.deref-5.result.now.site s) (λ u m. rest_begun is here t m) (g.R.Tally.state c.tick.new.self) c.from_residual.result _ _
    (ap (λ (e : EachLeft). and_then (ticked e.site s) (λ u m. rest_begun is here t m)) (sym c.deref-5.ensures)) (λ u. rest-grows is here t) p.1 p.2
    c.in_err-tick.ensures.reported

pub begin_body-requires-sync-K : goal.begin_body-requires-sync-K
begin_body-requires-sync-K g c κs within =
    let rs = c.args.self.now.world.tree in
    let w = ap (λ (t : Evaluation). t.world) c.in_ok-push.ensures.pushed in
    let here = subst (λ (f : Focus). f.node < length rs) (sym c.at_node-focus.ensures) c.requires.node in
    let inside = subst (λ (x : Scope). x.focus.node < length rs) (sym c.over-scope.ensures) here in (
      search rules,
      (
        (refl, tt),
        subst (λ (v : World). (IsSome v.grain → g.R.Recorder.takes_holes ≡ true) × (c.over-scope.result.focus.node < length v.tree)) (sym w)
            (c.requires.holes, inside),
      ),
    )
