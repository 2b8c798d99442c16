-- The places to which holes lead of what each piece does, cut at limits.
use Rattle.std.proofs.Common.{◌≡◌, ◌<◌, ◌+◌, ◌++◌, ◌∙◌, inl, inr, ℕ, zero, suc, List, [], ◌∷◌, length, Option, Some, None, sym, ap, subst, arith}
use Rattle.std.specs.List.{slice_get}
use Rattle.xs_pieces.specs.Tree.{task_at}
use Rattle.xs_body_spec.specs.Tasks.{Task}
use Rattle.xs_body_spec.specs.Trace.{task_trace}
use Rattle.xs_body_spec.specs.World.{World}
use Rattle.xs_trace.specs.Cut.{cut, cut_from, nowhere}
use Rattle.xs_trace.specs.Fill.{tasks_of}
use Rattle.xs_trace.specs.Mark.{Tick, Put, Say, Stop, Need, Hole, Trace}
use Rattle.xs_trace.specs.declared.item.Limits.{Limits}
use Rattle.xs_trace.specs.declared.item.Site.{Site}
use Rattle.xs_reply.specs.Places.{tree_places}
use Rattle.xs_reply.proofs.PlaceLemmas.{Has, InChild, in-child}

-- a hole that passes is one of the trace
hole-passed : (x : Trace Task) (s : Site) (b : ℕ) (m : Option ℕ) (k : ℕ) (c : Task) → slice_get (tasks_of (cut_from x s b m).passed) k ≡ Some c →
    slice_get (tasks_of x) k ≡ Some c
hole-passed [] s b m k c e = absurd (cc)
hole-passed (Tick t ∷ x) s zero m k c e = absurd (cc)
hole-passed (Tick t ∷ x) s (suc b) m k c e = hole-passed x t b m k c e
hole-passed (Put v ∷ x) s b None k c e = hole-passed x s b None k c e
hole-passed (Put v ∷ x) s b (Some zero) k c e = absurd (cc)
hole-passed (Put v ∷ x) s b (Some (suc m)) k c e = hole-passed x s b (Some m) k c e
hole-passed (Say t ∷ x) s b m k c e = hole-passed x s b m k c e
hole-passed (Stop f t ∷ x) s b m k c e = absurd (cc)
hole-passed (Need g t ∷ x) s b m k c e = absurd (cc)
hole-passed (Hole d ∷ x) s b m zero c e = e
hole-passed (Hole d ∷ x) s b m (suc k) c e = hole-passed x s b m k c e

within-length : (ts : List Task) (k : ℕ) (c : Task) → slice_get ts k ≡ Some c → k < length ts
within-length [] k c e = absurd (cc)
within-length (t ∷ ts) zero c e = omega arith
within-length (t ∷ ts) (suc k) c e = let l = within-length ts k c e in omega (arith, l)

no-place : (q : List ℕ) (k : ℕ) (r : List ℕ) → [] ≡ q ++ (k ∷ r) → ⊥
no-place [] k r e = cc
no-place (j ∷ q) k r e = cc

module _ (w : World) (l : Limits) where
  abbrev pub passes : Task → Trace Task
  passes t = (cut (task_trace w t) l.ticks l.events).passed

  abbrev pub holes_of : Option Task → ℕ
  holes_of None = 0
  holes_of (Some t) = length (tasks_of (passes t))

  -- a number below the first of a place
  first-hole : (t : Task) (k : ℕ) (r : List ℕ) (n : ℕ) → InChild (tree_places passes n) 0 (tasks_of (passes t)) (k ∷ r) → k < length (tasks_of (passes t))
  first-hole t k r n i =
      let e : k ∷ r ≡ (0 + i.number) ∷ i.rest = i.is in
      let first : k ≡ 0 + i.number = cc in
      let same : k ≡ i.number = omega (arith, first) in
      let l = within-length (tasks_of (passes t)) i.number i.task i.at in
      omega (arith, same, l)

  pub reach : (n : ℕ) (t : Task) (q : List ℕ) (k : ℕ) (r p : List ℕ) → p ≡ q ++ (k ∷ r) → Has p (tree_places passes n t) →
      k < holes_of (task_at (task_trace w) (Some t) q)
  unfolding tree_places
  reach zero t q k r p e h = absurd h
  reach (suc n) t q k r p e (inl i) = absurd (no-place q k r (sym i ∙ e))
  reach (suc n) t [] k r p e (inr h) =
      first-hole t k r n (subst (InChild (tree_places passes n) 0 (tasks_of (passes t))) e (in-child (tree_places passes n) 0 (tasks_of (passes t)) p h))
  reach (suc n) t (j ∷ q) k r p e (inr h) =
      let i = in-child (tree_places passes n) 0 (tasks_of (passes t)) p h in
      let both : (0 + i.number) ∷ i.rest ≡ j ∷ (q ++ (k ∷ r)) = sym i.is ∙ e in
      let first : 0 + i.number ≡ j = cc in
      let same : i.number ≡ j = omega (arith, first) in
      let left : i.rest ≡ q ++ (k ∷ r) = cc in
      let below = reach n i.task q k r i.rest left i.has in
      let at : slice_get (tasks_of (task_trace w t)) j ≡ Some i.task =
      ap (slice_get (tasks_of (task_trace w t))) (sym same)
      ∙ hole-passed (task_trace w t) nowhere l.ticks l.events i.number i.task i.at in
      subst (λ (o : Option Task). k < holes_of (task_at (task_trace w) o q)) (sym at) below
