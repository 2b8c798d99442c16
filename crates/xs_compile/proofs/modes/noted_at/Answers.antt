use Rattle.std.proofs.Common.{◌∙◌}
use Rattle.xs_compile.proofs.ModeLemmas.{no-mode}
use Rattle.xs_compile.proofs.modes.noted_at.Goals as goal

pub returns-in_default : goal.returns-in_default
returns-in_default c = no-mode c.args.tree.now c.len-count.ensures.tree c.args.n (λ e. c.in_default.not-Element (c.kind.ensures.kind ∙ e))
