-- The machine of pieces and workers: its states, and the steps that it allows.
use Rattle.std.specs.Prelude.{◌≡◌, ℕ, zero, suc, ◌+◌, ◌-◌, ◌<◌, ◌≤◌, List, [], ◌∷◌, ◌++◌, Option, Some, None, slice_get, set}
use Rattle.xs_core.specs.declared.piece.Progress.{Progress}
use Rattle.xs_core.specs.declared.step.Step.{Step}
use Rattle.xs_core.specs.declared.step.Step.TheVariants.{Take, Steal, Miss, Give, Spend, Finish, Discard}

-- where a piece is: the root has the empty list, and the child k of a piece has that piece's place, followed by k
abbrev pub Place : Type 0
Place = List ℕ

-- how many ticks the piece at a place takes, and how many holes it has
pub record Facts : Type 0 where
  pub ticks : Place → ℕ
  pub holes : Place → ℕ

-- a worker has places that wait in its deque, and perhaps a piece in its hand; it takes the last place itself, and others take the first
pub record Worker : Type 0 where
  pub deque : List Place
  pub hand : Option Progress

-- the workers, the places that are finished, the pieces that were dropped, and how many ticks were spent
pub record State : Type 0 where
  pub workers : List Worker
  pub finished : List Place
  pub dropped : List Progress
  pub total : ℕ

-- a worker with this deque and this hand
abbrev pub worker : List Place → Option Progress → Worker
worker ps hand = record { deque = ps; hand = hand }

-- a piece that was just taken: nothing is spent on it, and it has given no child
abbrev pub fresh : Place → Progress
fresh p = record { place = p; spent = 0; given = 0 }

-- the number of the child that a piece gives next: the last of those that it has not given
abbrev pub next_child : Facts → Progress → ℕ
next_child f h = f.holes h.place - (h.given + 1)

-- so many workers that have nothing
abbrev pub idle : ℕ → List Worker
idle zero = []
idle (suc n) = worker [] None ∷ idle n

-- the start: the first worker has the root's place in its deque, and so many other workers have nothing
abbrev pub opening : ℕ → State
opening others = record { workers = worker ([] ∷ []) None ∷ idle others; finished = []; dropped = []; total = 0 }

-- the worker of this number has this deque and this hand
abbrev pub Has : State → ℕ → List Place → Option Progress → Type 0
Has s w ps hand = slice_get s.workers w ≡ Some (worker ps hand)

-- the same state, where that worker has this deque and this hand
abbrev pub with : ℕ → List Place → Option Progress → State → State
with w ps hand s = record { workers = set s.workers w (worker ps hand); finished = s.finished; dropped = s.dropped; total = s.total }

-- with another total
abbrev pub with_total : ℕ → State → State
with_total n s = record { workers = s.workers; finished = s.finished; dropped = s.dropped; total = n }

-- with one more finished place
abbrev pub with_finished : Place → State → State
with_finished p s = record { workers = s.workers; finished = s.finished ++ p ∷ []; dropped = s.dropped; total = s.total }

-- with one more dropped piece
abbrev pub with_dropped : Progress → State → State
with_dropped h s = record { workers = s.workers; finished = s.finished; dropped = s.dropped ++ h ∷ []; total = s.total }

-- The steps that the machine allows in a state, each with the state to which it leads.
pub data IsStep (f : Facts) (budget : ℕ) (s : State) : Step → State → Type 0 where
  -- an empty hand takes the last place of its own deque
  takes : (w : ℕ) (p : Place) (ps : List Place)
      → Has s w (ps ++ p ∷ []) None
      → IsStep f budget s (Take w) (with w ps (Some (fresh p)) s)
  -- a worker that has nothing takes the first place of another one's deque
  steals : (t v : ℕ) (p : Place) (ps : List Place) (hand : Option Progress)
      → ¬ t ≡ v → Has s t [] None → Has s v (p ∷ ps) hand
      → IsStep f budget s (Steal t v) (with t [] (Some (fresh p)) (with v ps hand s))
  -- or finds it empty; its own need not be empty
  misses : (t v : ℕ) (ps : List Place) (hand : Option Progress)
      → ¬ t ≡ v → Has s t ps None → Has s v [] hand
      → IsStep f budget s (Miss t v) s
  -- a piece that has given fewer children than it has holes gives its next child to the end of the deque
  gives : (w : ℕ) (ps : List Place) (h : Progress)
      → Has s w ps (Some h) → h.given < f.holes h.place
      → IsStep f budget s (Give w) (with w (ps ++ (h.place ++ next_child f h ∷ []) ∷ []) (Some (record h { given = h.given + 1 })) s)
  -- ticks are spent, at most as many as the piece takes
  spends : (w n : ℕ) (ps : List Place) (h : Progress)
      → Has s w ps (Some h) → h.spent + n ≤ f.ticks h.place
      → IsStep f budget s (Spend w n) (with_total (s.total + n) (with w ps (Some (record h { spent = h.spent + n })) s))
  -- a piece is finished that has spent all its ticks and given all its children
  finishes : (w : ℕ) (ps : List Place) (h : Progress)
      → Has s w ps (Some h) → h.spent ≡ f.ticks h.place → h.given ≡ f.holes h.place
      → IsStep f budget s (Finish w) (with_finished h.place (with w ps None s))
  -- where the total is above the budget, a worker drops the piece in its hand
  drops : (w : ℕ) (ps : List Place) (h : Progress)
      → budget < s.total → Has s w ps (Some h)
      → IsStep f budget s (Discard w) (with_dropped h (with w ps None s))
  -- or, with an empty hand, the first place of its deque
  drops_first : (w : ℕ) (p : Place) (ps : List Place)
      → budget < s.total → Has s w (p ∷ ps) None
      → IsStep f budget s (Discard w) (with_dropped (fresh p) (with w ps None s))
