-- What the calls below `apply` answer, by what the machine as a function gives.
use Rattle.std.specs.Prelude.{◌≡◌, ◌∷◌, [], ℕ, List, Option, Some, None, Bool, true, false, Result, Ok, Err, is_none}
use Rattle.xs_core.specs.declared.piece.Progress.{Progress}
use Rattle.xs_core.specs.Machine.{Place, Worker, State, worker, with}

-- the state of these parts
abbrev pub parts : List Worker → List Place → List Progress → ℕ → State
parts ws fs ds n = record { workers = ws; finished = fs; dropped = ds; total = n }

-- a thing that was changed where it could be, and is as it was where it could not
abbrev pub IsChanged : {X : Type 0} → Option X → Bool → X → X → Type 0
IsChanged None b old new = (b ≡ false) × (new ≡ old)
IsChanged (Some x) b old new = (b ≡ true) × (new ≡ x)

-- the same, where memory may run out
abbrev pub Changes : {X E : Type 0} → Option X → Result Bool E → X → X → Type 0
Changes o (Ok b) old new = IsChanged o b old new
Changes o (Err e) old new = new ≡ old

-- a piece that a worker lets go, with what is left of the worker
abbrev pub IsLetGo : Option (Progress × Worker) → Option Progress → Worker → Worker → Type 0
IsLetGo None r old new = (r ≡ None) × (new ≡ old)
IsLetGo (Some gone) r old new = (r ≡ Some gone.0) × (new ≡ gone.1)

-- a piece that is done leaves the hand
abbrev pub lifted : List Place → Option Progress → Option (Progress × Worker)
lifted ps None = None
lifted ps (Some h) = Some (h, worker ps None)

-- the hand, where its piece has given so many children
abbrev pub with_given : ℕ → Option Progress → Option Progress
with_given n None = None
with_given n (Some h) = Some (record h { given = n })

-- or has spent so many ticks
abbrev pub with_spent : ℕ → Option Progress → Option Progress
with_spent n None = None
with_spent n (Some h) = Some (record h { spent = n })

-- the first place of a list, and those after it
abbrev pub IsFirst : List Place → Option Place → List Place → Type 0
IsFirst ps None rest = (ps ≡ []) × (rest ≡ [])
IsFirst ps (Some p) rest = ps ≡ p ∷ rest

-- the first place of a worker's deque, where there is one, was taken out of it
abbrev pub IsPoppedBy : ℕ → Worker → State → Option Place → State → Type 0
IsPoppedBy w x s None n = (x.deque ≡ []) × (n ≡ s)
IsPoppedBy w x s (Some p) n = (ps : List Place) × (x.deque ≡ p ∷ ps) × (n ≡ with w ps x.hand s)

abbrev pub IsPopped : ℕ → Option Worker → State → Option Place → State → Type 0
IsPopped w None s r n = (r ≡ None) × (n ≡ s)
IsPopped w (Some x) s r n = IsPoppedBy w x s r n

-- whether a worker is there and its hand is empty; and its deque too
abbrev pub is_free_at : Option Worker → Bool
is_free_at None = false
is_free_at (Some x) = is_none x.hand

abbrev pub has_nothing : Option Progress → List Place → Bool
has_nothing (Some h) ps = false
has_nothing None (p ∷ ps) = false
has_nothing None [] = true

abbrev pub is_idle_at : Option Worker → Bool
is_idle_at None = false
is_idle_at (Some x) = has_nothing x.hand x.deque

-- whether no place is there
abbrev pub is_empty : List Place → Bool
is_empty [] = true
is_empty (p ∷ ps) = false

abbrev pub is_empty_at : Option Worker → Bool
is_empty_at None = false
is_empty_at (Some x) = is_empty x.deque
