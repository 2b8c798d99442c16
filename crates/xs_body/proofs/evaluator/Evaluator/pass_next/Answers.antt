use Rattle.std.proofs.Common.{refl, rules, subst, sym}
use Rattle.xs_body.specs.Inside.{IsPassing}
use Rattle.xs_body.specs.declared.frames.Passing.{Passing}
use Rattle.xs_body.proofs.evaluator.Evaluator.pass_next.Goals as goal

pub call-requires-sync-K : goal.call-requires-sync-K
call-requires-sync-K g c κs within =
    let rs = c.args.self.now.world.tree in
    let inside = subst (λ (p : Passing). IsPassing rs p) (sym c.into_inner.ensures) c.requires.passing in
    (search rules, ((refl, tt), (c.requires.holes, inside)))

pub pass-requires-sync-K : goal.pass-requires-sync-K
pass-requires-sync-K g c κs within =
    let rs = c.args.self.now.world.tree in
    let before = subst (λ (p : Passing). IsPassing rs p) (sym c.deref_mut.ensures.value) c.requires.passing in
    (search rules, ((refl, tt), (c.requires.holes, record { node = before.node; values = before.values; callee = before.callee })))
