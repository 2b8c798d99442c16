use Rattle.xs_eval.proofs.SignLemmas.{negated-even, negated-odd}
use Rattle.std.proofs.Common.{◌∙◌}
use Rattle.xs_eval.proofs.operators.negated_by.Goals as goal

pub returns-then-signs-eq0 : goal.returns-then-signs-eq0
returns-then-signs-eq0 c = negated-even c.args.signs c.args.number c.if-signs-eq0.true

pub returns-else-signs-eq0 : goal.returns-else-signs-eq0
returns-else-signs-eq0 c = c.neg.ensures ∙ negated-odd c.args.signs c.args.number c.if-signs-eq0.false
