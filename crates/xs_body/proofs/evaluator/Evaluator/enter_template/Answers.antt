use Rattle.std.proofs.Common.{refl, rules}
use Rattle.xs_body.proofs.evaluator.Evaluator.enter_template.Goals as goal

pub enter_params-requires-sync-K : goal.enter_params-requires-sync-K
enter_params-requires-sync-K g c κs within = (search rules, ((refl, tt), (c.requires.holes, (c.requires.node, c.requires.passed))))
