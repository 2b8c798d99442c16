use Rattle.std.proofs.Common.{◌≡◌, IfOk, reverse, subst, sym}
use Rattle.xs_result_lines.specs.Bindings.{declared, spaces_in}
use Rattle.xs_result_lines.specs.steps.Open.{bindings_of}
use Rattle.xs_result_lines.specs.steps.Pending.{lent}
use Rattle.xs_result_lines.proofs.OpenLemmas.{scope_still}
use Rattle.xs_result_lines.proofs.writer.PyxWriter.new_spaces.Goals as goal

pub returns-in-Some : goal.returns-in-Some
returns-in-Some c =
    subst (λ around. IfOk c.new_spaces.result (λ all. bindings_of all.items ≡ declared around (spaces_in (lent c.args.added.now))))
    (sym (scope_still c.args.self.now (reverse c.self.inside.elements.items) c.self.inside.scope c.in-Some.scope c.in-Some.is c.self.view_is
    c.self.invariant))
    c.new_spaces.ensures
