use Rattle.std.proofs.Common.{◌∙◌, sym}
use Rattle.xs_result_lines.specs.steps.Pending.{lent}
use Rattle.xs_result_lines.proofs.OrderedLemmas.{before_is, keep_all}
use Rattle.xs_result_lines.proofs.ordered.binds_own_spaces.Goals as goal

pub returns-clause-before : goal.returns-clause-before
returns-clause-before c =
    λ h. before_is c.args.name.now (lent c.args.added.now) c.prefix.result.now c.uri.result.now c.prefix.ensures.text c.uri.ensures.text
    (sym c.are_ordered.ensures ∙ c.if-not-are_ordered.false) (sym c.has_space.ensures ∙ c.if-not-has_space.false)

pub returns-clause-own : goal.returns-clause-own
returns-clause-own c =
    λ h. keep_all (lent c.args.added.now) (lent c.args.added.now) (sym c.are_ordered.ensures ∙ c.if-not-are_ordered.false)
    (sym c.keep_among.ensures ∙ h)
