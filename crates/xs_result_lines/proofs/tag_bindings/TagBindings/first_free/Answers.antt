use Rattle.std.proofs.Common.{◌∙◌, ap, arith, length, sym}
use Rattle.xs_result_lines.specs.Bindings.{binds}
use Rattle.xs_result_lines.proofs.TableLemmas.{bound_below, first-is}
use Rattle.xs_result_lines.proofs.tag_bindings.TagBindings.first_free.Goals as goal

pub returns-then-not-branch-clause-first : goal.returns-then-not-branch-clause-first
returns-then-not-branch-clause-first c =
    first-is c.args.self.now c.len-tries.result c.loop-number.number (c.len-tries.ensures.len ∙ ap length c.self.view_is)
    (omega (arith, c.loop-number-test.true)) c.loop-number.invariant
    (λ h. ap (binds c.args.self.now) (sym c.in_ok-prefix.ensures) ∙ sym c.in_ok-binds.ensures ∙ c.if-not-branch.true)

pub returns-clause-first : goal.returns-clause-first
returns-clause-first c =
    first-is c.args.self.now c.len-tries.result c.len-tries.result (c.len-tries.ensures.len ∙ ap length c.self.view_is) (omega arith)
    (bound_below c.args.self.now c.loop-number.number c.len-tries.result c.loop-number-test.false c.loop-number.invariant)
    (λ h. absurd (omega (arith, h)))
