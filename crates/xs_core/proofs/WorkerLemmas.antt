-- The workers that a step names are there, and their number stays.
use Rattle.std.proofs.Common.{◌≡◌, ◌+◌, ◌∷◌, ◌++◌, [], ℕ, zero, suc, length, set, Some, None, refl, ◌∙◌, arith}
use Rattle.std.proofs.lemmas.List.{length-set}
use Rattle.std.proofs.lemmas.Option.{slice_get_within}
use Rattle.xs_core.specs.declared.step.Step.{Step}
use Rattle.xs_core.specs.Machine.{Facts, State, IsStep, worker, fresh, next_child, idle, opening}
use Rattle.xs_core.specs.Machine.IsStep.{takes, steals, misses, gives, spends, finishes, drops, drops_first}
use Rattle.xs_core.specs.Laws.{AreBelow, WorkersStay}

below : (f : Facts) (b : ℕ) (s n : State) (step : Step) → IsStep f b s step n → AreBelow (length s.workers) step
below f b s n step (takes w p ps at) = slice_get_within s.workers w (worker (ps ++ p ∷ []) None) at
below f b s n step (steals t v p ps hand ne thief victim) =
    (slice_get_within s.workers t (worker [] None) thief, slice_get_within s.workers v (worker (p ∷ ps) hand) victim)
below f b s n step (misses t v ps hand ne thief victim) =
    (slice_get_within s.workers t (worker ps None) thief, slice_get_within s.workers v (worker [] hand) victim)
below f b s n step (gives w ps h at fewer) = slice_get_within s.workers w (worker ps (Some h)) at
below f b s n step (spends w i ps h at most) = slice_get_within s.workers w (worker ps (Some h)) at
below f b s n step (finishes w ps h at ticks holes) = slice_get_within s.workers w (worker ps (Some h)) at
below f b s n step (drops w ps h over at) = slice_get_within s.workers w (worker ps (Some h)) at
below f b s n step (drops_first w p ps over at) = slice_get_within s.workers w (worker (p ∷ ps) None) at

stay : (f : Facts) (b : ℕ) (s n : State) (step : Step) → IsStep f b s step n → length n.workers ≡ length s.workers
stay f b s n step (takes w p ps at) = length-set s.workers w (worker ps (Some (fresh p)))
stay f b s n step (steals t v p ps hand ne thief victim) =
    length-set (set s.workers v (worker ps hand)) t (worker [] (Some (fresh p))) ∙ length-set s.workers v (worker ps hand)
stay f b s n step (misses t v ps hand ne thief victim) = refl
stay f b s n step (gives w ps h at fewer) =
    length-set s.workers w (worker (ps ++ (h.place ++ next_child f h ∷ []) ∷ []) (Some (record h { given = h.given + 1 })))
stay f b s n step (spends w i ps h at most) = length-set s.workers w (worker ps (Some (record h { spent = h.spent + i })))
stay f b s n step (finishes w ps h at ticks holes) = length-set s.workers w (worker ps None)
stay f b s n step (drops w ps h over at) = length-set s.workers w (worker ps None)
stay f b s n step (drops_first w p ps over at) = length-set s.workers w (worker ps None)

idle-length : (n : ℕ) → length (idle n) ≡ n
idle-length zero = refl
idle-length (suc n) = let a = idle-length n in omega arith

opened : (others : ℕ) → length (opening others).workers ≡ others + 1
opened others = let a = idle-length others in omega arith

pub workers-stay : WorkersStay
workers-stay = record { opening = opened; below = below; stay = stay }
