use Rattle.std.proofs.Common.{◌-◌, subst, sym}
use Rattle.xs_core.specs.Facts.{facts_of}
use Rattle.xs_core.specs.Good.{IsGood}
use Rattle.xs_core.specs.Machine.{State}
use Rattle.xs_core.proofs.GoodLemmas.{good-opening}
use Rattle.xs_core.proofs.machine.Core.new.Goals as goal

pub invariant_of-result : goal.invariant_of-result
invariant_of-result c = (
  subst (λ (s : State). IsGood (facts_of c.in_ok-new.field-0) c.args.budget s) (sym c.in_ok-new-2.ensures.opening)
      (good-opening (facts_of c.in_ok-new.field-0) c.args.budget (c.args.workers - 1)),
  c.in_ok-new.ensures.few c.requires.few,
)
