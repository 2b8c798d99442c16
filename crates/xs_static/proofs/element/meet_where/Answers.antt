use Rattle.std.proofs.Common.{Bool, ap, sym, ◌∙◌}
use Rattle.xs_static.specs.steps.Least.{fault_where, least_of}
use Rattle.xs_static.proofs.element.meet_where.Goals as goal

pub returns-then-holds : goal.returns-then-holds
unfolding least_of
returns-then-holds c =
    c.meet.ensures
    ∙ ap (λ (b : Bool). least_of c.args.least.now.fault (fault_where b c.args.module c.args.line 37)) (sym c.if-holds.true)

pub returns-else-holds : goal.returns-else-holds
unfolding least_of
returns-else-holds c = ap (λ (b : Bool). least_of c.args.least.now.fault (fault_where b c.args.module c.args.line 37)) (sym c.if-holds.false)
