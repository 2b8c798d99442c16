use Rattle.std.proofs.Common.{refl, rules, subst, sym}
use Rattle.xs_body.specs.Inside.{IsParams}
use Rattle.xs_body.specs.declared.frames.ParamsLeft.{ParamsLeft}
use Rattle.xs_body.proofs.evaluator.Evaluator.next_param.Goals as goal

pub bind_param-requires-sync-K : goal.bind_param-requires-sync-K
bind_param-requires-sync-K g c κs within =
    let rs = c.args.self.now.world.tree in
    let before = subst (λ (p : ParamsLeft). IsParams rs p) (sym c.deref_mut.ensures.value) c.requires.left in
    (search rules, ((refl, tt), record { node = before.node; passed = before.passed }))
