use Rattle.std.proofs.Common.{◌<◌, length, refl, sym, subst, rules}
use Rattle.xs_body_spec.specs.declared.focus.Focus.{Focus}
use Rattle.xs_body.proofs.evaluator.Evaluator.enter_fitting.Goals as goal

pub enter_rule-requires-sync-K : goal.enter_rule-requires-sync-K
enter_rule-requires-sync-K g c κs within =
    let here = subst (λ (f : Focus). f.node < length c.args.self.now.world.tree) (sym c.in_template-focus.ensures) c.requires.node in
    (search rules, ((refl, tt), (c.requires.holes, (here, c.requires.passed))))
