use Rattle.std.proofs.Common.{◌≡◌, IfOk, reverse, subst, sym}
use Rattle.xs_result_lines.specs.steps.InForce.{is_plain_tag}
use Rattle.xs_result_lines.specs.steps.Pending.{lent}
use Rattle.xs_result_lines.proofs.OpenLemmas.{scope_still}
use Rattle.xs_result_lines.proofs.PendingLemmas.{if_plain}
use Rattle.xs_result_lines.proofs.writer.PyxWriter.is_plain_lent.Goals as goal

pub returns-in-Some-clause-plain : goal.returns-in-Some-clause-plain
returns-in-Some-clause-plain c =
    if_plain c.is_plain_lent.result _
    (subst (λ around. IfOk c.is_plain_lent.result (λ holds. holds ≡ is_plain_tag around c.args.name.now (lent c.args.added.now)))
    (sym (scope_still c.args.self.now (reverse c.self.inside.elements.items) c.self.inside.scope c.in-Some.scope c.in-Some.is c.self.view_is
    c.self.invariant))
    c.is_plain_lent.ensures)
