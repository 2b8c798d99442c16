-- The tree of pieces of a stylesheet can be run in pieces.
use Rattle.std.proofs.Common.{◌≡◌, ℕ, suc, ◌<◌, List, [], ◌∷◌, ◌++◌, Some, None, refl, sym, ap, ◌∙◌}
use Rattle.std.specs.List.{All}
use Rattle.std.specs.Option.{IsSome}
use Rattle.xs_trace.specs.Fill.{fill, HolesAre}
use Rattle.xs_trace.specs.Mark.{Tick, Put, Say, Stop, Need, Hole, Trace, ◌⨾◌, NeedsNothing}
use Rattle.xs_trace.specs.declared.item.Site.{Site}
use Rattle.xs_pieces.specs.Ready.{IsReady}
use Rattle.xs_pieces.specs.Tree.{ArePlaced, BeginsWithTick, Falls}
use Rattle.xs_body_spec.specs.declared.focus.Focus.{Focus}
use Rattle.xs_body_spec.specs.Ranks.{HasNodes, rank_of}
use Rattle.xs_body_spec.specs.Ranks.{BeginsWithTick as BeginsWithTick'}
use Rattle.xs_body_spec.specs.Tasks.{Task}
use Rattle.xs_body_spec.specs.Trace.{calls_at, each, job_trace, task_trace}
use Rattle.xs_body_spec.specs.World.{World, with_grain}
use Rattle.xs_body_spec.proofs.FullLemmas.{tasks-begin}
use Rattle.xs_body_spec.proofs.GrainLemmas.{task-filled}
use Rattle.xs_body_spec.proofs.NeedLemmas.{settled-needs, task-needs}
use Rattle.xs_body_spec.proofs.RankLemmas.{tasks-fall}
use Rattle.xs_body_spec.specs.Inside.{IsTaskIn, IsWorld}
use Rattle.xs_task_laws.proofs.StayLemmas.{task_stays}
use Rattle.xs_task_laws.specs.Placed.{IsOwn, Placed, at_place, marks, own, placed_from, whole}

-- ---- traces with places
-- what is so of the tasks of holes is so of them with their places
holes-placed : (P : Task → Type 0) (Q : Placed → Type 0) → ((q : List ℕ) (c : Task) → P c → Q (at_place q c)) → (p : List ℕ) (n : ℕ) (x : Trace Task) →
    HolesAre P x → HolesAre Q (placed_from p n x)
holes-placed P Q f p n [] h = tt
holes-placed P Q f p n (Tick s ∷ x) h = holes-placed P Q f p n x h
holes-placed P Q f p n (Put e ∷ x) h = holes-placed P Q f p n x h
holes-placed P Q f p n (Say t ∷ x) h = holes-placed P Q f p n x h
holes-placed P Q f p n (Stop k s ∷ x) h = holes-placed P Q f p n x h
holes-placed P Q f p n (Need g s ∷ x) h = holes-placed P Q f p n x h
holes-placed P Q f p n (Hole c ∷ x) h = (f (p ++ n ∷ []) c h.0, holes-placed P Q f p (suc n) x h.1)

are-placed : (p : List ℕ) (n : ℕ) (x : Trace Task) → ArePlaced (λ (t : Placed). t.place) p n (placed_from p n x)
are-placed p n [] = tt
are-placed p n (Tick s ∷ x) = are-placed p n x
are-placed p n (Put e ∷ x) = are-placed p n x
are-placed p n (Say t ∷ x) = are-placed p n x
are-placed p n (Stop f s ∷ x) = are-placed p n x
are-placed p n (Need g s ∷ x) = are-placed p n x
are-placed p n (Hole c ∷ x) = (refl, are-placed p (suc n) x)

needs-placed : (p : List ℕ) (n : ℕ) (x : Trace Task) → NeedsNothing x → NeedsNothing (placed_from p n x)
needs-placed p n [] h = tt
needs-placed p n (Tick s ∷ x) h = needs-placed p n x h
needs-placed p n (Put e ∷ x) h = needs-placed p n x h
needs-placed p n (Say t ∷ x) h = needs-placed p n x h
needs-placed p n (Stop f s ∷ x) h = needs-placed p n x h
needs-placed p n (Need g s ∷ x) h = h
needs-placed p n (Hole c ∷ x) h = needs-placed p (suc n) x h

-- a run over nodes begins with a tick
each-begins : (p : List ℕ) (s : Site) (body : Focus → Trace Task) (f : Focus) (i : ℕ) (ns : List ℕ) → HasNodes ns →
    BeginsWithTick (placed_from p 0 (each s body f i ns))
each-begins p s body f i [] h = absurd h
each-begins p s body f i (n ∷ ns) h = tt

own-begins : (w : World) (t : Placed) → HasNodes t.task.nodes → BeginsWithTick (own w t)
own-begins w t h =
    let body : Focus → Trace Task = job_trace t.task.job w (calls_at w t.task.focus) t.task.site in
    each-begins t.place t.task.site body t.task.focus t.task.first t.task.nodes h

-- ---- without holes
no-marks : (x : Trace Task) → HolesAre (λ c. ⊥) (marks x)
no-marks [] = tt
no-marks (Tick s ∷ x) = no-marks x
no-marks (Put e ∷ x) = no-marks x
no-marks (Say t ∷ x) = no-marks x
no-marks (Stop f s ∷ x) = no-marks x
no-marks (Need g s ∷ x) = no-marks x
no-marks (Hole c ∷ x) = no-marks x

marks-then : (x y : Trace Task) → marks (x ⨾ y) ≡ marks x ⨾ marks y
marks-then [] y = refl
marks-then (Tick s ∷ x) y = ap (λ z. Tick s ∷ z) (marks-then x y)
marks-then (Put e ∷ x) y = ap (λ z. Put e ∷ z) (marks-then x y)
marks-then (Say t ∷ x) y = ap (λ z. Say t ∷ z) (marks-then x y)
marks-then (Stop f s ∷ x) y = refl
marks-then (Need g s ∷ x) y = refl
marks-then (Hole c ∷ x) y = marks-then x y

marks-fill : (w : World) (p : List ℕ) (n : ℕ) (x : Trace Task) → marks (fill (task_trace (with_grain None w)) x) ≡ fill (whole w) (placed_from p n x)
marks-fill w p n [] = refl
marks-fill w p n (Tick s ∷ x) = ap (λ z. Tick s ∷ z) (marks-fill w p n x)
marks-fill w p n (Put e ∷ x) = ap (λ z. Put e ∷ z) (marks-fill w p n x)
marks-fill w p n (Say t ∷ x) = ap (λ z. Say t ∷ z) (marks-fill w p n x)
marks-fill w p n (Stop f s ∷ x) = ap (λ z. Stop f s ∷ z) (marks-fill w p n x)
marks-fill w p n (Need g s ∷ x) = ap (λ z. Need g s ∷ z) (marks-fill w p n x)
marks-fill w p n (Hole c ∷ x) =
    let f : Task → Trace Task = task_trace (with_grain None w) in
    marks-then (f c) (fill f x) ∙ ap (λ z. marks (f c) ⨾ z) (marks-fill w p (suc n) x)

whole-fills : (w : World) (t : Placed) → whole w t ≡ fill (whole w) (own w t)
whole-fills w t = sym (ap marks (task-filled w t.task)) ∙ marks-fill w t.place 0 (task_trace w t.task)

-- ---- the tree
pub stay-inside : (w : World) (t : Task) → IsWorld w → IsTaskIn w.tree t → HolesAre (IsTaskIn w.tree) (task_trace w t)
stay-inside w t world inside = task_stays w (record { globals = world.globals; tables = world.tables }) t inside

-- what holds of the tasks of holes by two laws
both-hold : (P Q : Task → Type 0) (x : Trace Task) → HolesAre P x → HolesAre Q x → HolesAre (λ c. P c × Q c) x
both-hold P Q [] h k = tt
both-hold P Q (Tick s ∷ x) h k = both-hold P Q x h k
both-hold P Q (Put e ∷ x) h k = both-hold P Q x h k
both-hold P Q (Say t ∷ x) h k = both-hold P Q x h k
both-hold P Q (Stop f s ∷ x) h k = both-hold P Q x h k
both-hold P Q (Need g s ∷ x) h k = both-hold P Q x h k
both-hold P Q (Hole c ∷ x) h k = ((h.0, k.0), both-hold P Q x h.1 k.1)

own-holes : (w : World) (t : Placed) → IsWorld w → (w.grain ≡ Some 0 → ⊥) → IsOwn w t → HolesAre (IsOwn w) (own w t)
own-holes w t world some o =
    let P : Task → Type 0 = λ c. HasNodes c.nodes × BeginsWithTick' (task_trace w c) in
    let Q : Task → Type 0 = λ c. IsTaskIn w.tree c in
    holes-placed (λ c. P c × Q c) (IsOwn w) (λ p c h. record { nodes = h.0.0; inside = h.1 }) t.place 0 (task_trace w t.task)
    (both-hold P Q (task_trace w t.task) (tasks-begin w t.task some) (stay-inside w t.task world o.inside))

pub is-ready : (w : World) → IsWorld w → All IsSome w.globals → (w.grain ≡ Some 0 → ⊥) → IsReady (IsOwn w) (λ t. t.place) (own w) (whole w)
is-ready w world all some = record {
  inside = λ t o. own-holes w t world some o;
  placed = λ t o. are-placed t.place 0 (task_trace w t.task);
  root_begins = λ t o e. own-begins w t o.nodes;
  begins = λ t o. holes-placed _ (λ (c : Placed). BeginsWithTick (own w c)) (λ p c h. own-begins w (at_place p c) h.0) t.place 0
      (task_trace w t.task) (tasks-begin w t.task some);
  needs_nothing = λ t o. needs-placed t.place 0 (task_trace w t.task) (settled-needs w.globals (task_trace w t.task) all (task-needs w t.task));
  fills = whole-fills w;
  no_hole = λ t. no-marks (task_trace (with_grain None w) t.task);
}

pub falls : (w : World) → Falls (λ (t : Placed). rank_of w t.task) (own w)
falls w t =
    holes-placed _ (λ (c : Placed). rank_of w c.task < rank_of w t.task) (λ p c h. h) t.place 0 (task_trace w t.task) (tasks-fall w t.task)
