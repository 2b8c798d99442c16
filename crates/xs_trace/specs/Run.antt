-- Evaluations that know no limit: how many ticks they take, and how they end.
use Rattle.std.specs.Prelude.{◌≡◌, ℕ, ◌+◌, List, [], ◌∷◌, ◌++◌}
use Rattle.xs_trace.specs.Mark.{Trace, Stop, Need, ticks}
use Rattle.xs_trace.specs.Cut.{Fault, Needs}
use Rattle.xs_trace.specs.State.{State}
use Rattle.xs_trace.specs.Play.{Step, Goes, stops, and_then, ticked, ticked_by, play}
use Rattle.xs_trace.specs.declared.fault.Fault.{Fault as RunFault}
use Rattle.xs_trace.specs.declared.item.Site.{Site}

-- a value, a fault, or the need of a global variable that has no value yet
pub data Answer (A : Type 0) : Type 0 where
  Gives : (value : A) → Answer A
  Faults : (fault : RunFault) → Answer A
  Lacks : (global : ℕ) → Answer A

pub record Run (A : Type 0) : Type 0 where
  pub cost : ℕ
  pub end : Answer A

-- a run that takes n ticks more
abbrev pub costs : {A : Type 0} → ℕ → Run A → Run A
costs n r = record { cost = n + r.cost; end = r.end }

abbrev pub give : {A : Type 0} → A → Run A
give x = record { cost = 0; end = Gives x }

abbrev pub fail : {A : Type 0} → RunFault → Run A
fail f = record { cost = 0; end = Faults f }

abbrev pub lack : {A : Type 0} → ℕ → Run A
lack g = record { cost = 0; end = Lacks g }

-- one tick more
abbrev pub tick : {A : Type 0} → Run A → Run A
tick r = costs 1 r

-- goes on with a value after n ticks, or ends there
abbrev pub go_on : {A B : Type 0} → ℕ → Answer A → (A → Run B) → Run B
go_on n (Gives x) f = costs n (f x)
go_on n (Faults f) h = record { cost = n; end = Faults f }
go_on n (Lacks g) h = record { cost = n; end = Lacks g }

infixl 10 ◌>>=◌
abbrev pub ◌>>=◌ : {A B : Type 0} → Run A → (A → Run B) → Run B
r >>= f = go_on r.cost r.end f

-- A run for each item of a list, in order, each from what the one before it gave. What comes last is the value; the first that
-- has another end ends it.
abbrev pub fold : {A B : Type 0} → (B → A → Run B) → B → List A → Run B
fold f b [] = give b
fold f b (a ∷ rest) = f b a >>= (λ c. fold f c rest)

-- an answer at an instruction
abbrev pub answered : {H : Type 0} → {A : Type 0} → Site → Answer A → State H → Step H A
answered p (Gives x) s = Goes x s
answered p (Faults f) s = stops (Fault f p) s
answered p (Lacks g) s = stops (Needs g p) s

-- a run at an instruction, as a recorder gets it under its limits
abbrev pub limited : {H : Type 0} → {A : Type 0} → Site → Run A → State H → Step H A
limited p r s = and_then (ticked_by r.cost p s) (λ u m. answered p r.end m)

-- what follows an answer
abbrev pub on_answer : {H : Type 0} → {A : Type 0} → Site → Answer A → (A → Trace H) → Trace H
on_answer p (Gives x) f = f x
on_answer p (Faults n) f = Stop n p ∷ []
on_answer p (Lacks g) f = Need g p ∷ []

-- the trace of a run at an instruction, and of what follows its value
abbrev pub evaluated : {H : Type 0} → {A : Type 0} → Site → Run A → (A → Trace H) → Trace H
evaluated p r f = ticks p r.cost (on_answer p r.end f)

-- A run under limits: what gives a value takes no ticks, one tick comes before the rest, and what is bound goes on from
-- the state that its first part left.
pub record LimitedLaws (H A B : Type 0) : Type 0 where
  pub gives : (p : Site) (x : A) (s : State H) → limited p (give x) s ≡ Goes x s
  pub fails : (p : Site) (f : RunFault) (s : State H) → limited {A = A} p (fail f) s ≡ stops (Fault f p) s
  pub lacks : (p : Site) (g : ℕ) (s : State H) → limited {A = A} p (lack g) s ≡ stops (Needs g p) s
  pub ticks : (p : Site) (r : Run A) (s : State H) → limited p (tick r) s ≡ and_then (ticked p s) (λ u m. limited p r m)
  pub more : (p : Site) (n : ℕ) (r : Run A) (s : State H) → limited p (costs n r) s ≡ and_then (ticked_by n p s) (λ u m. limited p r m)
  pub binds : (p : Site) (r : Run A) (f : A → Run B) (s : State H) → limited p (r >>= f) s ≡ and_then (limited p r s) (λ x m. limited p (f x) m)
  pub reports : (p : Site) (r : Run A) (f : A → Trace H) (s : State H) → play (evaluated p r f) s ≡ and_then (limited p r s) (λ x m. play (f x) m)

-- A fold under limits, item by item; of two lists in turn, the second goes on from what the first gave.
pub record FoldLaws (H A B : Type 0) : Type 0 where
  pub empty : (p : Site) (f : B → A → Run B) (b : B) (s : State H) → limited p (fold f b []) s ≡ Goes b s
  pub next : (p : Site) (f : B → A → Run B) (b : B) (a : A) (rest : List A) (s : State H) →
      limited p (fold f b (a ∷ rest)) s ≡ and_then (limited p (f b a) s) (λ c m. limited p (fold f c rest) m)
  pub joins : (f : B → A → Run B) (b : B) (rest cs : List A) → fold f b (rest ++ cs) ≡ (fold f b rest >>= (λ c. fold f c cs))
