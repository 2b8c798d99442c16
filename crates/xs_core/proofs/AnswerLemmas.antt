-- What is changed by the function of a step answers by the relation of it, and a good state stays good.
use Rattle.std.proofs.Common.{◌≡◌, ℕ, Option, Some, None, Bool, true, false, Result, Ok, Err, refl, sym, subst}
use Rattle.xs_core.specs.declared.step.Step.{Step}
use Rattle.xs_core.specs.Machine.{Facts, State, IsStep}
use Rattle.xs_core.specs.Good.{IsGood}
use Rattle.xs_core.specs.Answer.{Answers}
use Rattle.xs_core.specs.steps.Parts.{IsChanged, Changes}
use Rattle.xs_core.specs.steps.Stepped.{stepped}
use Rattle.xs_core.proofs.GoodLemmas.{good-step}
use Rattle.xs_core.proofs.StepLemmas.{step-from, stepped-from}

none-some : (o : Option State) (n : State) → o ≡ None → o ≡ Some n → ⊥
none-some None n e k = cc
none-some (Some m) n e k = cc

answers-by : (E : Type 0) (f : Facts) (b : ℕ) (s n : State) (step : Step) (c : Bool) (o : Option State) → stepped f b step s ≡ o → IsChanged o c s n
    → Answers {E = E} f b s step (Ok c) n
answers-by E f b s n step true None e i = absurd (cc)
answers-by E f b s n step false None e i = (i.1, λ m k. none-some (stepped f b step s) m e (stepped-from f b s m step k))
answers-by E f b s n step true (Some m) e i = subst (λ (z : State). IsStep f b s step z) (sym i.1) (step-from f b s m step e)
answers-by E f b s n step false (Some m) e i = absurd (cc)

pub answers-from : {E : Type 0} → (f : Facts) (b : ℕ) (s n : State) (step : Step) (r : Result Bool E) → Changes (stepped f b step s) r s n
    → Answers f b s step r n
answers-from {E} f b s n step (Ok c) i = answers-by E f b s n step c (stepped f b step s) refl i
answers-from {E} f b s n step (Err e) i = i

pub good-by : (f : Facts) (b : ℕ) (s n : State) (step : Step) (c : Bool) (o : Option State) → IsGood f b s → stepped f b step s ≡ o → IsChanged o c s n
    → IsGood f b n
good-by f b s n step c None g e i = subst (λ (z : State). IsGood f b z) (sym i.1) g
good-by f b s n step c (Some m) g e i = subst (λ (z : State). IsGood f b z) (sym i.1) (good-step f b s m step g (step-from f b s m step e))

pub good-from : {E : Type 0} → (f : Facts) (b : ℕ) (s n : State) (step : Step) (r : Result Bool E) → IsGood f b s
    → Changes (stepped f b step s) r s n → IsGood f b n
good-from f b s n step (Ok c) g i = good-by f b s n step c (stepped f b step s) g refl i
good-from f b s n step (Err e) g i = subst (λ (z : State). IsGood f b z) (sym i) g
