use Rattle.std.proofs.Common.{◌++◌, ◌∷◌, [], refl, rules, subst, sym}
use Rattle.std.proofs.lemmas.List.Elements.{All-push, All-same}
use Rattle.xs_value.specs.Conversion.{IsIn}
use Rattle.xs_body.specs.Inside.{IsPassing}
use Rattle.xs_body.specs.declared.frames.Passing.{Passing}
use Rattle.xs_body.proofs.evaluator.Evaluator.push_value.Goals as goal

pub pass_on-requires-sync-K : goal.pass_on-requires-sync-K
pass_on-requires-sync-K g c κs within =
    let rs = c.args.self.now.world.tree in
    let before = subst (λ (p : Passing). IsPassing rs p) (sym c.deref_mut.ensures.value) c.requires.passing in
    let old = c.deref_mut.result.now.values.items in
    let values = All-same (IsIn rs) c.push.new.self.items (old ++ c.args.value ∷ []) c.in_ok-push.ensures.items
    (All-push (IsIn rs) old c.args.value before.values c.requires.value) in
    (search rules, ((refl, tt), (c.requires.holes, record { node = before.node; values = values; callee = before.callee })))
