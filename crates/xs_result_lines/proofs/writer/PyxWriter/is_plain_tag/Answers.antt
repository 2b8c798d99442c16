use Rattle.std.proofs.Common.{◌≡◌, IfOk, reverse, subst, sym}
use Rattle.xs_result_lines.specs.steps.InForce.{is_plain_tag}
use Rattle.xs_result_lines.proofs.OpenLemmas.{scope_still}
use Rattle.xs_result_lines.proofs.writer.PyxWriter.is_plain_tag.Goals as goal

pub returns-in-Some : goal.returns-in-Some
returns-in-Some c =
    subst (λ around. IfOk c.is_plain_tag.result (λ holds. holds ≡ is_plain_tag around c.args.name.now c.args.behind.now))
    (sym (scope_still c.args.self.now (reverse c.self.inside.elements.items) c.self.inside.scope c.in-Some.scope c.in-Some.is c.self.view_is
    c.self.invariant))
    c.is_plain_tag.ensures
