-- Good states: what is true of the machine after every step.
use Rattle.std.specs.Prelude.{◌≡◌, ◌<◌, ◌≤◌, ◌+◌, ◌++◌, ◌∷◌, [], ◌==◌, ℕ, zero, suc, List, length, Option, Some, None, if◌then◌else◌}
use Rattle.xs_core.specs.declared.piece.Progress.{Progress}
use Rattle.xs_core.specs.Machine.{Place, Facts, Worker, State}

-- the sum of the weights of all items
abbrev pub total : {X : Type 0} → (X → ℕ) → List X → ℕ
total f [] = 0
total f (x ∷ xs) = f x + total f xs

-- the weight of the piece in a hand, 0 where it is empty
abbrev pub of_hand : (Progress → ℕ) → Option Progress → ℕ
of_hand f None = 0
of_hand f (Some h) = f h

-- the weights of the first n children of a place
abbrev pub children : (Place → ℕ) → Place → ℕ → ℕ
children weight p zero = 0
children weight p (suc n) = children weight p n + weight (p ++ n ∷ [])

-- the weights of the last n of the first h children of a place
abbrev pub last_children : (Place → ℕ) → Place → (h n : ℕ) → ℕ
last_children weight p zero n = 0
last_children weight p (suc h) zero = 0
last_children weight p (suc h) (suc n) = weight (p ++ h ∷ []) + last_children weight p h n

-- the weights of the children that a piece has given: the last of those that it has
abbrev pub given_by : (Place → ℕ) → Facts → Progress → ℕ
given_by weight f h = last_children weight h.place (f.holes h.place) h.given

-- the weights of the places that a worker has
abbrev pub places_of : (Place → ℕ) → Worker → ℕ
places_of weight w = total weight w.deque + of_hand (λ h. weight h.place) w.hand

-- the weights of the children that the piece in its hand has given
abbrev pub children_of : (Place → ℕ) → Facts → Worker → ℕ
children_of weight f w = of_hand (given_by weight f) w.hand

-- the weights of all places that are in a part of the state: a deque, a hand, finished or dropped
abbrev pub held : (Place → ℕ) → State → ℕ
held weight s = total (places_of weight) s.workers + (total weight s.finished + total (λ h. weight h.place) s.dropped)

-- the weights of the root and of all children that were given; a finished piece has given one for each of its holes
abbrev pub born : (Place → ℕ) → Facts → State → ℕ
born weight f s =
    weight [] + (total (children_of weight f) s.workers + (total (λ p. children weight p (f.holes p)) s.finished + total (given_by weight f) s.dropped))

-- all ticks that were spent; a finished piece has spent all of its own
abbrev pub spending : Facts → State → ℕ
spending f s = total (λ w. of_hand (λ h. h.spent) w.hand) s.workers + (total f.ticks s.finished + total (λ h. h.spent) s.dropped)

-- a piece has spent and given no more than its facts allow
pub record IsWithin (f : Facts) (h : Progress) : Type 0 where
  pub spent : h.spent ≤ f.ticks h.place
  pub given : h.given ≤ f.holes h.place

-- so has the piece in a hand, if there is one
abbrev pub HandWithin : Facts → Option Progress → Type 0
HandWithin f None = Unit {0}
HandWithin f (Some h) = IsWithin f h

-- so have the pieces in all hands
abbrev pub HandsWithin : Facts → List Worker → Type 0
HandsWithin f [] = Unit {0}
HandsWithin f (w ∷ ws) = HandWithin f w.hand × HandsWithin f ws

-- so has each piece of a list
abbrev pub PiecesWithin : Facts → List Progress → Type 0
PiecesWithin f [] = Unit {0}
PiecesWithin f (h ∷ hs) = IsWithin f h × PiecesWithin f hs

-- A good state. The places in its parts are the root and the children that were given, as often: both weigh the same,
-- whatever the weights are. The total is what was spent, and something is dropped only where that is above the budget.
pub record IsGood (f : Facts) (budget : ℕ) (s : State) : Type 0 where
  pub counted : (weight : Place → ℕ) → held weight s ≡ born weight f s
  pub hands : HandsWithin f s.workers
  pub dropped : PiecesWithin f s.dropped
  pub summed : s.total ≡ spending f s
  pub above : 0 < length s.dropped → budget < s.total

-- 1 at one place, and 0 at all others: so weighed, the parts say how often they have that place
abbrev pub is_place : Place → Place → ℕ
is_place [] [] = 1
is_place [] (b ∷ q) = 0
is_place (a ∷ p) [] = 0
is_place (a ∷ p) (b ∷ q) = if a == b then is_place p q else 0
