-- The tree of a task whose pieces know their places is the tree of the task: claims and reached places.
use Rattle.std.proofs.Common.{◌≡◌, ◌<◌, ◌+◌, ◌∙◌, ℕ, zero, suc, List, [], ◌∷◌, length, Option, Some, None, refl, sym, ap, subst, arith}
use Rattle.std.specs.List.{slice_get}
use Rattle.std.specs.Prelude.{option_map}
use Rattle.xs_assemble.specs.Claims.{AreAll, AreOfTree, claimed_ticks, IsReached}
use Rattle.xs_core.specs.Good.{total}
use Rattle.xs_pieces.specs.Collection.{holes_in, ticks_in}
use Rattle.xs_pieces.specs.Tree.{Falls, task_at}
use Rattle.xs_body_spec.proofs.RankLemmas.{tasks-fall}
use Rattle.xs_body_spec.specs.Ranks.{rank_of}
use Rattle.xs_body_spec.specs.Tasks.{Task}
use Rattle.xs_body_spec.specs.Trace.{task_trace}
use Rattle.xs_body_spec.specs.World.{World}
use Rattle.xs_task_laws.specs.Placed.{Placed, own, placed_from}
use Rattle.xs_trace.specs.Cut.{cut_from, nowhere}
use Rattle.xs_trace.specs.Fill.{tasks_of}
use Rattle.xs_trace.specs.Mark.{Tick, Put, Say, Stop, Need, Hole, Trace, tick_count}
use Rattle.xs_trace.specs.declared.item.Limits.{Limits}
use Rattle.xs_trace.specs.declared.item.Site.{Site}
use Rattle.xs_core.specs.declared.place.Claim.{Claim}
use Rattle.xs_reply.specs.Headline.{AreSome, claimed_places}
use Rattle.xs_reply.specs.Places.{task_places, tree_places}
use Rattle.xs_reply.proofs.ClaimLemmas.{claim-there, claims-ordered, contains-has}
use Rattle.xs_reply.proofs.PlaceLemmas.{Has, InOrder, all-of, place-there, some-of, there-is, tree-ordered}
use Rattle.xs_reply.proofs.ReachLemmas.{holes_of, passes, reach}

abbrev unplaced : Option Placed → Option Task
unplaced o = option_map (λ (t : Placed). t.task) o

hole-unplaced : (p : List ℕ) (n : ℕ) (x : Trace Task) (k : ℕ) → unplaced (slice_get (tasks_of (placed_from p n x)) k) ≡ slice_get (tasks_of x) k
hole-unplaced p n [] k = refl
hole-unplaced p n (Tick s ∷ x) k = hole-unplaced p n x k
hole-unplaced p n (Put e ∷ x) k = hole-unplaced p n x k
hole-unplaced p n (Say t ∷ x) k = hole-unplaced p n x k
hole-unplaced p n (Stop f s ∷ x) k = hole-unplaced p n x k
hole-unplaced p n (Need g s ∷ x) k = hole-unplaced p n x k
hole-unplaced p n (Hole c ∷ x) zero = refl
hole-unplaced p n (Hole c ∷ x) (suc k) = hole-unplaced p (suc n) x k

unplaced-at : (w : World) (o : Option Placed) (p : List ℕ) → unplaced (task_at (own w) o p) ≡ task_at (task_trace w) (unplaced o) p
unplaced-at w o [] = refl
unplaced-at w None (k ∷ p) = refl
unplaced-at w (Some t) (k ∷ p) =
    unplaced-at w (slice_get (tasks_of (own w t)) k) p
    ∙ ap (λ (o : Option Task). task_at (task_trace w) o p) (hole-unplaced t.place 0 (task_trace w t.task) k)

placed-there : (w : World) (root : Placed) (p : List ℕ) (t : Task) (o : Option Placed) → task_at (own w) (Some root) p ≡ o →
    task_at (task_trace w) (Some root.task) p ≡ Some t → (s : Placed) × (task_at (own w) (Some root) p ≡ Some s)
placed-there w root p t (Some s) is e = (s, is)
placed-there w root p t None is e =
    let no : None ≡ Some t = sym (ap unplaced is) ∙ unplaced-at w (Some root) p ∙ e in absurd (cc)

-- ---- claims of the places that are expected

falls : (w : World) → Falls (rank_of w) (task_trace w)
falls w = λ t. tasks-fall w t

module _ (w : World) (root : Placed) (count : ℕ) (cs : List Claim) (a : AreOfTree (own w) root count cs) where
  expected-there : (q : List ℕ) → Has q (claimed_places cs) → Has q (task_places w root.task)
  expected-there q h =
      let t = claim-there (own w) root cs a.there q h in
      place-there (rank_of w) (task_trace w) (falls w) (suc (rank_of w root.task)) root.task t.0.task q (omega arith)
      (sym (unplaced-at w (Some root) q) ∙ ap unplaced t.1)

  expected-ordered : InOrder (task_places w root.task)
  expected-ordered = tree-ordered (task_trace w) (suc (rank_of w root.task)) root.task

  pub are-some : AreSome (claimed_places cs) (task_places w root.task)
  are-some = some-of (task_places w root.task) (claimed_places cs) (claims-ordered (own w) root count cs a) expected-ordered expected-there

  pub are-same : AreAll (own w) root cs → claimed_places cs ≡ task_places w root.task
  are-same all =
      all-of (claimed_places cs) (task_places w root.task) are-some expected-ordered
      (λ q h.
      let s = there-is (task_trace w) (suc (rank_of w root.task)) root.task q h in
      let t = placed-there w root q s.0 (task_at (own w) (Some root) q) refl s.1 in
      contains-has (claimed_places cs) q (all q t.0 t.1))

-- ---- cut at limits

-- what passes of a trace with places has as many holes
holes-passed : (p : List ℕ) (n : ℕ) (x : Trace Task) (s : Site) (b : ℕ) (m : Option ℕ) →
    length (tasks_of (cut_from (placed_from p n x) s b m).passed) ≡ length (tasks_of (cut_from x s b m).passed)
holes-passed p n [] s b m = refl
holes-passed p n (Tick t ∷ x) s zero m = refl
holes-passed p n (Tick t ∷ x) s (suc b) m = holes-passed p n x t b m
holes-passed p n (Put e ∷ x) s b None = holes-passed p n x s b None
holes-passed p n (Put e ∷ x) s b (Some zero) = refl
holes-passed p n (Put e ∷ x) s b (Some (suc m)) = holes-passed p n x s b (Some m)
holes-passed p n (Say t ∷ x) s b m = holes-passed p n x s b m
holes-passed p n (Stop f t ∷ x) s b m = refl
holes-passed p n (Need g t ∷ x) s b m = refl
holes-passed p n (Hole c ∷ x) s b m = ap suc (holes-passed p (suc n) x s b m)

-- and as many ticks
ticks-passed : (p : List ℕ) (n : ℕ) (x : Trace Task) (s : Site) (b : ℕ) (m : Option ℕ) →
    tick_count (cut_from (placed_from p n x) s b m).passed ≡ tick_count (cut_from x s b m).passed
ticks-passed p n [] s b m = refl
ticks-passed p n (Tick t ∷ x) s zero m = refl
ticks-passed p n (Tick t ∷ x) s (suc b) m = ap suc (ticks-passed p n x t b m)
ticks-passed p n (Put e ∷ x) s b None = ticks-passed p n x s b None
ticks-passed p n (Put e ∷ x) s b (Some zero) = refl
ticks-passed p n (Put e ∷ x) s b (Some (suc m)) = ticks-passed p n x s b (Some m)
ticks-passed p n (Say t ∷ x) s b m = ticks-passed p n x s b m
ticks-passed p n (Stop f t ∷ x) s b m = refl
ticks-passed p n (Need g t ∷ x) s b m = refl
ticks-passed p n (Hole c ∷ x) s b m = ticks-passed p (suc n) x s b m

module _ (w : World) (l : Limits) where
  holes-same : (o : Option Placed) → holes_of w l (unplaced o) ≡ holes_in (own w) l o
  holes-same None = refl
  holes-same (Some s) = sym (holes-passed s.place 0 (task_trace w s.task) nowhere l.ticks l.events)

  pub is-reached : (root : Placed) (p : List ℕ) → Has p (tree_places (passes w l) (suc (rank_of w root.task)) root.task) → IsReached (own w) root l p
  is-reached root p h = λ q k r e.
      subst (λ n. k < n) (ap (holes_of w l) (sym (unplaced-at w (Some root) q)) ∙ holes-same (task_at (own w) (Some root) q))
      (reach w l (suc (rank_of w root.task)) root.task q k r p e h)

  ticks-same : (o : Option Placed) → ticks_in (own w) l o ≡ ticks_in (task_trace w) l (unplaced o)
  ticks-same None = refl
  ticks-same (Some s) = ticks-passed s.place 0 (task_trace w s.task) nowhere l.ticks l.events

  -- claimed pieces take the ticks of their tasks
  pub claims-same : (root : Placed) (cs : List Claim) →
      claimed_ticks (own w) root l cs ≡ total (λ p. ticks_in (task_trace w) l (task_at (task_trace w) (Some root.task) p)) (claimed_places cs)
  claims-same root [] = refl
  claims-same root (c ∷ cs) =
      let a = ticks-same (task_at (own w) (Some root) c.place) ∙ ap (ticks_in (task_trace w) l) (unplaced-at w (Some root) c.place) in
      let b = claims-same root cs in
      omega (arith, a, b)
