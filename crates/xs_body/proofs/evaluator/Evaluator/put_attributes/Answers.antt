use Rattle.std.proofs.Common.{◌≡◌, ◌<◌, ◌∷◌, ap, length, refl, subst, sym, ◌∙◌, rules}
use Rattle.std.proofs.lemmas.Result.{err_from_is_err_and}
use Rattle.xs_trace.specs.Play.{and_then}
use Rattle.xs_trace.proofs.GrowthLemmas.{passes}
use Rattle.xs_body.specs.steps.Frames.{Evaluation, last}
use Rattle.xs_body.specs.steps.Making.{attribute_steps, attributes_steps}
use Rattle.xs_body.proofs.MakingLemmas.{attributes-grow}
use Rattle.xs_body.proofs.evaluator.Evaluator.put_attributes.Goals as goal

pub put_literal-requires-sync-K : goal.put_literal-requires-sync-K
put_literal-requires-sync-K g c κs within =
    let node = subst (λ (t : Evaluation). c.args.all.scope.focus.node < length t.world.tree) (sym c.loop-attribute.invariant.1.1) c.requires.node in
    (search rules, ((refl, tt), node))

pub returns-in_err-put_literal-clause-reported : goal.returns-in_err-put_literal-clause-reported
returns-in_err-put_literal-clause-reported g c =
    let p = err_from_is_err_and c.from_residual.result c.from_residual.ensures.1 in
    let e : c.loop-attribute.left.now ≡ (c.in-Some.attribute.now ∷ c.in-Some.others.now) = search rules in
    let s = g.R.Tally.state c.loop-attribute.recorder in
    let t = c.loop-attribute.self in
    let f = c.args.all.scope.focus in
    let n = c.args.all.scope.seen in
    let site = c.args.all.site in
    passes (λ x. x) (λ x. x) _ (attribute_steps t.world site f (last n t.slots) c.in-Some.attribute.now s)
    (λ u m. attributes_steps t.world site f (last n t.slots) c.in-Some.others.now m) (g.R.Tally.state c.put_literal.new.recorder) c.from_residual.result _ _
    (c.loop-attribute.invariant.0
    ∙ ap (λ (v : Evaluation). attributes_steps v.world site f (last n v.slots) c.loop-attribute.left.now s) (sym c.loop-attribute.invariant.1.1)
    ∙ ap (λ xs. attributes_steps t.world site f (last n t.slots) xs s) e)
    (λ u. attributes-grow t.world site f (last n t.slots) c.in-Some.others.now) p.1 p.2 c.in_err-put_literal.ensures.reported

pub loop-attribute-preserved : goal.loop-attribute-preserved
loop-attribute-preserved g c =
    let e : c.loop-attribute.left.now ≡ (c.in-Some.attribute.now ∷ c.in-Some.others.now) = search rules in
    let s = g.R.Tally.state c.loop-attribute.recorder in
    let m = g.R.Tally.state c.put_literal.new.recorder in
    let t = c.loop-attribute.self in
    let q = c.loop-attribute.invariant.1.1 in
    let f = c.args.all.scope.focus in
    let n = c.args.all.scope.seen in
    let site = c.args.all.site in
    let others = c.in-Some.others.now in (
      c.loop-attribute.invariant.0
          ∙ ap (λ (v : Evaluation). attributes_steps v.world site f (last n v.slots) c.loop-attribute.left.now s) (sym q)
          ∙ ap (λ xs. attributes_steps t.world site f (last n t.slots) xs s) e
          ∙ ap (λ j. and_then j (λ u k. attributes_steps t.world site f (last n t.slots) others k)) c.in_ok-put_literal.ensures.reported
          ∙ ap (λ (v : Evaluation). attributes_steps v.world site f (last n v.slots) others m) q,
      (c.put_literal.ensures.kept ∙ c.loop-attribute.invariant.1.0, c.put_literal.ensures.same ∙ q),
    )
