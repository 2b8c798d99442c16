-- What is true of every run of the machine.
use Rattle.std.specs.Prelude.{◌≡◌, ◌<◌, ◌≤◌, ◌+◌, ℕ, List, [], ◌∷◌, length}
use Rattle.xs_core.specs.declared.step.Step.{Step}
use Rattle.xs_core.specs.declared.step.Step.TheVariants.{Take, Steal, Miss, Give, Spend, Finish, Discard}
use Rattle.xs_core.specs.Machine.{Place, Facts, State, IsStep, opening}
use Rattle.xs_core.specs.Good.{held, is_place, IsGood}

-- steps that the machine allows one after another, and the state to which they lead
pub data Runs (f : Facts) (budget : ℕ) : State → List Step → State → Type 0 where
  ended : (s : State) → Runs f budget s [] s
  goes_on : (s m n : State) (step : Step) (steps : List Step)
      → IsStep f budget s step m → Runs f budget m steps n
      → Runs f budget s (step ∷ steps) n

-- from the start the machine comes to good states alone
abbrev pub ReachesGood : Type 0
ReachesGood = (f : Facts) (budget others : ℕ) (steps : List Step) (s : State) → Runs f budget (opening others) steps s → IsGood f budget s

-- the start is good, and each step leads from a good state to a good state
pub record StaysGood : Type 0 where
  pub opening : (f : Facts) (budget others : ℕ) → IsGood f budget (opening others)
  pub step : (f : Facts) (budget : ℕ) (s n : State) (step : Step) → IsGood f budget s → IsStep f budget s step n → IsGood f budget n

-- in a good state each place is in one part at most, once
abbrev pub OnePart : Type 0
OnePart = (f : Facts) (budget : ℕ) (s : State) → IsGood f budget s → (p : Place) → held (is_place p) s ≤ 1

-- a step leads to one state
abbrev pub OneState : Type 0
OneState = (f : Facts) (budget : ℕ) (s m n : State) (step : Step) → IsStep f budget s step m → IsStep f budget s step n → m ≡ n

-- the workers that a step names are below a number
abbrev pub AreBelow : ℕ → Step → Type 0
AreBelow n (Take w) = w < n
AreBelow n (Steal t v) = (t < n) × (v < n)
AreBelow n (Miss t v) = (t < n) × (v < n)
AreBelow n (Give w) = w < n
AreBelow n (Spend w i) = w < n
AreBelow n (Finish w) = w < n
AreBelow n (Discard w) = w < n

-- a step names workers that are there, and their number stays what it is at the start
pub record WorkersStay : Type 0 where
  pub opening : (others : ℕ) → length (opening others).workers ≡ others + 1
  pub below : (f : Facts) (budget : ℕ) (s n : State) (step : Step) → IsStep f budget s step n → AreBelow (length s.workers) step
  pub stay : (f : Facts) (budget : ℕ) (s n : State) (step : Step) → IsStep f budget s step n → length n.workers ≡ length s.workers
