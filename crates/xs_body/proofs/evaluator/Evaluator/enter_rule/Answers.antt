use Rattle.std.proofs.Common.{◌<◌, length, refl, sym, subst, rules}
use Rattle.xs_body_spec.specs.declared.focus.Focus.{Focus}
use Rattle.xs_body.proofs.evaluator.Evaluator.enter_rule.Goals as goal

pub enter_template-requires-sync-K : goal.enter_template-requires-sync-K
enter_template-requires-sync-K g c κs within =
    let here = subst (λ (f : Focus). f.node < length c.args.self.now.world.tree) (sym c.by_rule-focus.ensures) c.requires.node in
    (search rules, ((refl, tt), (c.requires.holes, (here, c.requires.passed))))
