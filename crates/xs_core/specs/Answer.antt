-- What contracts see of a machine in memory, and what its calls answer.
use Rattle.std.specs.Prelude.{◌≡◌, ◌++◌, ◌-◌, [], ◌∷◌, ℕ, List, map, Option, Some, None, Bool, true, false, Result, Ok, Err}
use Rattle.std.specs.List.{flat_map}
use Rattle.xs_core.specs.declared.piece.PieceFacts.{PieceFacts}
use Rattle.xs_core.specs.declared.piece.Progress.{Progress}
use Rattle.xs_core.specs.declared.step.Step.{Step}
use Rattle.xs_core.specs.Machine.{Place, Facts, State, IsStep, opening}
use Rattle.xs_core.specs.Facts.{find_facts}

-- a machine: its facts, its budget, and the state in which it is
pub record Machine : Type 0 where
  pub facts : List PieceFacts
  pub budget : ℕ
  pub state : State

-- a new machine knows of each place what the given facts say of it, and it is at the start
pub record IsNew (given : List PieceFacts) (workers most : ℕ) (m : Machine) : Type 0 where
  pub facts : (p : Place) → find_facts m.facts p ≡ find_facts given p
  pub budget : m.budget ≡ most
  pub state : m.state ≡ opening (workers - 1)

-- Whether the machine allowed a step: then it has taken it. Else nothing has changed, and no state is one step on. Out of memory,
-- nothing has changed.
abbrev pub Answers : {E : Type 0} → Facts → ℕ → State → Step → Result Bool E → State → Type 0
Answers f budget s step (Ok true) n = IsStep f budget s step n
Answers f budget s step (Ok false) n = (n ≡ s) × ((m : State) → ¬ IsStep f budget s step m)
Answers f budget s step (Err e) n = n ≡ s

-- the place in a hand, if there is one
abbrev pub place_in : Option Progress → List Place
place_in None = []
place_in (Some h) = h.place ∷ []

-- the places that are in a part of the state: of each worker its deque and its hand, what is finished, what was dropped
abbrev pub places_in : State → List Place
places_in s = flat_map (λ w. w.deque ++ place_in w.hand) s.workers ++ (s.finished ++ map (λ h. h.place) s.dropped)
