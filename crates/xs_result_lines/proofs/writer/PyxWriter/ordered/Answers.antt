use Rattle.std.proofs.Common.{◌≡◌, ◌∙◌, ap, subst, sym, true}
use Rattle.xs_result_lines.specs.Bindings.{declared}
use Rattle.xs_result_lines.specs.Lines.{scope_of}
use Rattle.xs_result_lines.specs.steps.Bound.{keep_own}
use Rattle.xs_result_lines.specs.steps.Pending.{lent}
use Rattle.xs_result_lines.proofs.writer.PyxWriter.ordered.Goals as goal

pub returns-clause-declares : goal.returns-clause-declares
returns-clause-declares c =
    c.in_ok-new_spaces.ensures
    ∙ ap (declared (scope_of c.args.self.now)) (sym (c.binds_own_spaces.ensures.before c.if-not-binds_own_spaces.false))

pub returns-clause-own : goal.returns-clause-own
returns-clause-own c =
    subst (λ m. keep_own m (lent c.args.added.now) ≡ true) (sym (c.binds_own_spaces.ensures.before c.if-not-binds_own_spaces.false))
    (c.binds_own_spaces.ensures.own c.if-not-binds_own_spaces.false)
