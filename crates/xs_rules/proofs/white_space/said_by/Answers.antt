use Rattle.std.proofs.Common.{◌∙◌}
use Rattle.xs_rules.proofs.AttributeLemmas.{nothing-said}
use Rattle.xs_rules.proofs.white_space.said_by.Goals as goal

pub returns-in_default : goal.returns-in_default
returns-in_default c = nothing-said c.args.tree.now c.len-count.ensures.tree c.args.node (λ e. c.in_default.not-Element (c.kind.ensures.kind ∙ e))
