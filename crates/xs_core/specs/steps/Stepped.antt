-- The same machine as a function, as its code goes.
use Rattle.std.specs.Prelude.{◌+◌, ◌++◌, ◌∷◌, [], ◌==◌, ℕ, List, slice_get, Option, Some, None, nat_lt, nat_le, if◌then◌else◌}
use Rattle.xs_core.specs.declared.piece.Progress.{Progress}
use Rattle.xs_core.specs.declared.step.Step.{Step}
use Rattle.xs_core.specs.declared.step.Step.TheVariants.{Take, Steal, Miss, Give, Spend, Finish, Discard}
use Rattle.xs_core.specs.Machine.{Place, Facts, Worker, State, worker, fresh, next_child, with, with_total, with_finished, with_dropped}

-- of one worker, where there is one
abbrev pub at_worker : Option Worker → (Worker → Option State) → Option State
at_worker None go = None
at_worker (Some x) go = go x

-- the state with a worker that has changed, where it could
abbrev pub put : ℕ → State → Option Worker → Option State
put w s None = None
put w s (Some x) = Some (with w x.deque x.hand s)

-- with more ticks in the total
abbrev pub put_total : ℕ → Option State → Option State
put_total n None = None
put_total n (Some s) = Some (with_total (s.total + n) s)

-- the last of a place and those after it, with all before that
abbrev pub last_from : Place → List Place → List Place × Place
last_from p [] = ([], p)
last_from p (q ∷ ps) = (p ∷ (last_from q ps).0, (last_from q ps).1)

-- a worker that takes the last place of its deque
abbrev pub took : Option Progress → List Place → Option Worker
took (Some h) ps = None
took None [] = None
took None (p ∷ ps) = Some (worker (last_from p ps).0 (Some (fresh (last_from p ps).1)))

-- that gives the last child that its piece has not given
abbrev pub gave : Facts → Option Progress → List Place → Option Worker
gave f None ps = None
gave f (Some h) ps =
    if nat_lt h.given (f.holes h.place) then Some (worker (ps ++ (h.place ++ next_child f h ∷ []) ∷ []) (Some (record h { given = h.given + 1 }))) else None

-- that spends ticks on its piece
abbrev pub spent : Facts → ℕ → Option Progress → List Place → Option Worker
spent f n None ps = None
spent f n (Some h) ps = if nat_le (h.spent + n) (f.ticks h.place) then Some (worker ps (Some (record h { spent = h.spent + n }))) else None

-- the piece in the hand, where it is done
abbrev pub done : Facts → Option Progress → Option Progress
done f None = None
done f (Some h) = if h.spent == f.ticks h.place then (if h.given == f.holes h.place then Some h else None) else None

-- what a worker drops, and what is left of it
abbrev pub let_go : Option Progress → List Place → Option (Progress × Worker)
let_go (Some h) ps = Some (h, worker ps None)
let_go None [] = None
let_go None (p ∷ ps) = Some (fresh p, worker ps None)

-- the state where a piece that is done has left the hand
abbrev pub put_finished : ℕ → List Place → State → Option Progress → Option State
put_finished w ps s None = None
put_finished w ps s (Some h) = Some (with_finished h.place (with w ps None s))

-- the state where a piece was dropped
abbrev pub put_dropped : ℕ → State → Option (Progress × Worker) → Option State
put_dropped w s None = None
put_dropped w s (Some gone) = Some (with_dropped gone.0 (with w gone.1.deque gone.1.hand s))

-- the state where the first place of one deque went to the hand of a worker that had nothing
abbrev pub stolen : (t v : ℕ) → State → Option Progress → List Place → (hand : Option Progress) → List Place → Option State
stolen t v s (Some h) ds hand ps = None
stolen t v s None (d ∷ ds) hand ps = None
stolen t v s None [] hand [] = None
stolen t v s None [] hand (p ∷ ps) = Some (with t [] (Some (fresh p)) (with v ps hand s))

-- the same state, where a worker with an empty hand found a deque empty
abbrev pub missed : State → Option Progress → List Place → Option State
missed s (Some h) ps = None
missed s None (p ∷ ps) = None
missed s None [] = Some s

-- The state after a step, where the machine allows it.
abbrev pub stepped : Facts → (budget : ℕ) → Step → State → Option State
stepped f budget (Take w) s = at_worker (slice_get s.workers w) (λ x. put w s (took x.hand x.deque))
stepped f budget (Steal t v) s =
    if t == v then None else at_worker (slice_get s.workers t) (λ x. at_worker (slice_get s.workers v) (λ y. stolen t v s x.hand x.deque y.hand y.deque))
stepped f budget (Miss t v) s =
    if t == v then None else at_worker (slice_get s.workers t) (λ x. at_worker (slice_get s.workers v) (λ y. missed s x.hand y.deque))
stepped f budget (Give w) s = at_worker (slice_get s.workers w) (λ x. put w s (gave f x.hand x.deque))
stepped f budget (Spend w n) s = at_worker (slice_get s.workers w) (λ x. put_total n (put w s (spent f n x.hand x.deque)))
stepped f budget (Finish w) s = at_worker (slice_get s.workers w) (λ x. put_finished w x.deque s (done f x.hand))
stepped f budget (Discard w) s = if nat_lt budget s.total then at_worker (slice_get s.workers w) (λ x. put_dropped w s (let_go x.hand x.deque)) else None
