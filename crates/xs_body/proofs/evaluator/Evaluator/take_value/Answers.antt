use Rattle.std.proofs.Common.{refl, rules, subst, sym}
use Rattle.xs_value.specs.declared.value.Value.{Value}
use Rattle.xs_value.specs.Conversion.{IsIn}
use Rattle.xs_body.proofs.evaluator.Evaluator.take_value.Goals as goal

pub push_value-requires-sync-K : goal.push_value-requires-sync-K
push_value-requires-sync-K g c κs within =
    let rs = c.args.self.now.world.tree in
    let inside = subst (λ (v : Value). IsIn rs v) (sym c.in_ok-value.ensures) tt in
    (search rules, ((refl, tt), (c.requires.holes, (inside, c.requires.passing))))
