-- What is left to tasks, filled in, is what is done without a grain; and captured content leaves nothing.
use Rattle.std.proofs.Common.{◌≡◌, ℕ, zero, suc, ◌+◌, ◌-◌, length, List, [], ◌∷◌, ◌++◌, map, Option, Some, None, Bool, true, false, cond, refl, sym, ap, ◌∙◌}
use Rattle.std.proofs.Common.{append_assoc, append-nil, arith}
use Rattle.xs_sheet.specs.declared.body.Body.{Body}
use Rattle.xs_trace.specs.Fill.{fill, tasks_of}
use Rattle.xs_trace.specs.Mark.{Tick, Put, Say, Stop, Need, Hole, Trace, ◌⨾◌, without_puts, events_of, captured}
use Rattle.xs_trace.specs.declared.event.Event.{Event}
use Rattle.xs_trace.specs.declared.fault.Fault.{Fault}
use Rattle.xs_trace.specs.declared.item.Site.{Site}
use Rattle.xs_trace.proofs.CutLemmas.{then-assoc, then-nil}
use Rattle.xs_trace.proofs.FillLemmas.{fill-laws}
use Rattle.xs_value.specs.declared.value.Value.{Value}
use Rattle.xs_body_spec.specs.declared.focus.Focus.{Focus}
use Rattle.xs_body_spec.specs.World.{World, at_node, captured_in, with_grain}
use Rattle.xs_body_spec.specs.Tasks.{Job, Task, with_node, task_behind, shared, below}
use Rattle.xs_body_spec.specs.Trace.{each, spread_by, spread, body_trace, calls_at, job_trace, task_trace}
use Rattle.xs_body_spec.proofs.HoleLemmas.{HasNoHole, none-then, none-captured, none-tasks}
use Rattle.xs_body_spec.proofs.SideLemmas.{IsKept, body-keeps, calls-keep, task-keeps}

none-filled : (f : Task → Trace Task) (x : Trace Task) → HasNoHole x → fill f x ≡ x
none-filled f [] h = refl
none-filled f (Tick p ∷ x) h = ap (λ y. Tick p ∷ y) (none-filled f x h)
none-filled f (Put e ∷ x) h = ap (λ y. Put e ∷ y) (none-filled f x h)
none-filled f (Say t ∷ x) h = ap (λ y. Say t ∷ y) (none-filled f x h)
none-filled f (Stop n p ∷ x) h = ap (λ y. Stop n p ∷ y) (none-filled f x h)
none-filled f (Need g p ∷ x) h = ap (λ y. Need g p ∷ y) (none-filled f x h)
none-filled f (Hole t ∷ x) h = absurd h

-- runs over nodes in two parts
each-joined : (p : Site) (x : Focus → Trace Task) (f : Focus) (i : ℕ) (ms ns : List ℕ) →
    each p x f i (ms ++ ns) ≡ each p x f i ms ⨾ each p x f (i + length ms) ns
each-joined p x f i [] ns = let e : i ≡ i + 0 = omega arith in ap (λ k. each p x f k ns) e
each-joined p x f i (m ∷ ms) ns =
    let e : (i + 1) + length ms ≡ i + length (m ∷ ms) = omega arith in
    let first : Trace Task = x (at_node m i f) in
    let others : Trace Task = each p x f (i + 1) ms in
    ap (λ z. Tick p ∷ (first ⨾ z)) (each-joined p x f (i + 1) ms ns)
    ∙ ap (λ z. Tick p ∷ z) (sym (then-assoc first others (each p x f ((i + 1) + length ms) ns)))
    ∙ ap (λ k. Tick p ∷ ((first ⨾ others) ⨾ each p x f k ns)) e

each-same : (p : Site) (x v : Focus → Trace Task) (f : Focus) → ((n i : ℕ) → x (at_node n i f) ≡ v (at_node n i f)) → (i : ℕ) (ns : List ℕ) →
    each p x f i ns ≡ each p v f i ns
each-same p x v f e i [] = refl
each-same p x v f e i (n ∷ ns) =
    ap (λ z. Tick p ∷ (z ⨾ each p x f (i + 1) ns)) (e n i)
    ∙ ap (λ z. Tick p ∷ (v (at_node n i f) ⨾ z)) (each-same p x v f e (i + 1) ns)

-- the tasks of a run, one after another
module _ (v : World) where
  abbrev Filling : Task → Trace Task
  Filling t = task_trace v t

  abbrev Over : Task → List ℕ → Trace Task
  Over t ns = each t.site (job_trace t.job v (calls_at v t.focus) t.site) t.focus t.first ns

  shared-filled : (grain room : ℕ) (t : Task) (ns : List ℕ) → fill Filling (map Hole (shared grain room t ns)) ≡ Over t (t.nodes ++ ns)
  shared-filled grain room t [] = then-nil (Filling t) ∙ ap (λ ns. Over t ns) (sym (append-nil t.nodes))
  shared-filled grain zero t (n ∷ ns) =
      ap (λ z. Filling t ⨾ z) (shared-filled grain (grain - 1) (task_behind t n) ns)
      ∙ sym (each-joined t.site (job_trace t.job v (calls_at v t.focus) t.site) t.focus t.first t.nodes (n ∷ ns))
  shared-filled grain (suc room) t (n ∷ ns) = shared-filled grain room (with_node t n) ns ∙ ap (λ ms. Over t ms) (append_assoc t.nodes (n ∷ []) ns)

-- a trace whose holes are filled; in captured content there are none
abbrev Fills : (Task → Trace Task) → Bool → Trace Task → Trace Task → Type 0
Fills f false x v = fill f x ≡ v
Fills f true x v = (x ≡ v) × HasNoHole x

module _ (f : Task → Trace Task) where
  nothing-fills : (b : Bool) → Fills f b [] []
  nothing-fills true = (refl, tt)
  nothing-fills false = refl

  joins-fill : (b : Bool) (x v y z : Trace Task) → Fills f b x v → Fills f b y z → Fills f b (x ⨾ y) (v ⨾ z)
  joins-fill true x v y z e o = (ap (λ t. t ⨾ y) e.0 ∙ ap (λ t. v ⨾ t) o.0, none-then x y e.1 o.1)
  joins-fill false x v y z e o = (fill-laws Task Task).joins f x y ∙ ap (λ t. t ⨾ fill f y) e ∙ ap (λ t. v ⨾ t) o

  ticks-fill : (b : Bool) (p : Site) (x v : Trace Task) → Fills f b x v → Fills f b (Tick p ∷ x) (Tick p ∷ v)
  ticks-fill true p x v e = (ap (λ t. Tick p ∷ t) e.0, e.1)
  ticks-fill false p x v e = ap (λ t. Tick p ∷ t) e

  puts-fill : (b : Bool) (e : Event) → Fills f b (Put e ∷ []) (Put e ∷ [])
  puts-fill true e = (refl, tt)
  puts-fill false e = refl

  says-fill : (b : Bool) (t : List ℕ) → Fills f b (Say t ∷ []) (Say t ∷ [])
  says-fill true t = (refl, tt)
  says-fill false t = refl

  stops-fill : (b : Bool) (n : Fault) (p : Site) → Fills f b (Stop n p ∷ []) (Stop n p ∷ [])
  stops-fill true n p = (refl, tt)
  stops-fill false n p = refl

  needs-fill : (b : Bool) (g : ℕ) (p : Site) → Fills f b (Need g p ∷ []) (Need g p ∷ [])
  needs-fill true g p = (refl, tt)
  needs-fill false g p = refl

  captures-fill : (b : Bool) (x v : Trace Task) (h k : List Event → Trace Task) → Fills f true x v → ((es : List Event) → Fills f b (h es) (k es)) →
      Fills f b (captured x h) (captured v k)
  captures-fill true x v h k e o =
      let q : Fills f true (h (events_of x)) (k (events_of x)) = o (events_of x) in
      (ap (λ t. without_puts x ⨾ t) q.0 ∙ ap (λ t. captured t k) e.0, none-then (without_puts x) (h (events_of x)) (none-captured x e.1) q.1)
  captures-fill false x v h k e o =
      (fill-laws Task Task).joins f (without_puts x) (h (events_of x))
      ∙ ap (λ t. t ⨾ fill f (h (events_of x))) (none-filled f (without_puts x) (none-captured x e.1))
      ∙ ap (λ t. without_puts x ⨾ t) (o (events_of x))
      ∙ ap (λ t. captured t k) e.0

  each-fills : (b : Bool) (p : Site) (x v : Focus → Trace Task) (g : Focus) → ((n i : ℕ) → Fills f b (x (at_node n i g)) (v (at_node n i g))) →
      (i : ℕ) (ns : List ℕ) → Fills f b (each p x g i ns) (each p v g i ns)
  each-fills b p x v g e i [] = nothing-fills b
  each-fills b p x v g e i (n ∷ ns) =
      ticks-fill b p (x (at_node n i g) ⨾ each p x g (i + 1) ns) (v (at_node n i g) ⨾ each p v g (i + 1) ns)
      (joins-fill b (x (at_node n i g)) (v (at_node n i g)) (each p x g (i + 1) ns) (each p v g (i + 1) ns) (e n i) (each-fills b p x v g e (i + 1) ns))

  any-fills : (b : Bool) (x v : Trace Task) → Fills f b x v → fill f x ≡ v
  any-fills true x v e = none-filled f x e.1 ∙ e.0
  any-fills false x v e = e

-- runs that are left to tasks
module _ (w : World) where
  abbrev Alone : World
  Alone = with_grain None w

  spreads-fill : (job : Job) (p : Site) (g : Focus) (ns : List ℕ) (x v : Focus → Trace Task) →
      ((n i : ℕ) → Fills (Filling Alone) g.is_captured (x (at_node n i g)) (v (at_node n i g))) →
      ((n i : ℕ) → v (at_node n i g) ≡ job_trace job Alone (calls_at Alone g) p (at_node n i g)) →
      Fills (Filling Alone) g.is_captured (spread w job p x g ns) (spread Alone job p v g ns)
  spreads-fill job p g ns x v e same = by_capture g.is_captured e
    where
      by_grain : (o : Option ℕ) → ((n i : ℕ) → fill (Filling Alone) (x (at_node n i g)) ≡ v (at_node n i g)) →
          fill (Filling Alone) (spread_by o job p x g ns) ≡ each p v g 1 ns
      by_grain None a = each-fills (Filling Alone) false p x v g a 1 ns
      by_grain (Some grain) a =
          shared-filled Alone grain grain (record { job = job; site = p; focus = g; first = 1; nodes = [] }) ns
          ∙ sym (each-same p v (job_trace job Alone (calls_at Alone g) p) g same 1 ns)

      by_capture : (b : Bool) → ((n i : ℕ) → Fills (Filling Alone) b (x (at_node n i g)) (v (at_node n i g))) →
          Fills (Filling Alone) b (spread_by (cond b None (below (length ns) w.grain)) job p x g ns) (spread_by (cond b None None) job p v g ns)
      by_capture true a = each-fills (Filling Alone) true p x v g a 1 ns
      by_capture false a = by_grain (below (length ns) w.grain) a

  kept : IsKept w None w.index (Fills (Filling Alone))
  kept = record {
    nothing = nothing-fills (Filling Alone);
    joins = joins-fill (Filling Alone);
    ticks = ticks-fill (Filling Alone);
    puts = puts-fill (Filling Alone);
    says = says-fill (Filling Alone);
    stops = stops-fill (Filling Alone);
    needs = λ b g p e. needs-fill (Filling Alone) b g p;
    captures = captures-fill (Filling Alone);
    spreads = spreads-fill;
  }

  pub task-filled : (t : Task) → fill (Filling Alone) (task_trace w t) ≡ task_trace Alone t
  task-filled t =
      any-fills (Filling Alone) t.focus.is_captured (task_trace w t) (task_trace Alone t) (task-keeps w None w.index (Fills (Filling Alone)) kept t)

  pub captured-leaves : (body : Body) (f : Focus) (vs : List Value) → tasks_of (body_trace body w (calls_at w f) (captured_in f) vs) ≡ []
  captured-leaves body f vs =
      let keeps : Fills (Filling Alone) true (body_trace body w (calls_at w f) (captured_in f) vs)
      (body_trace body Alone (calls_at Alone f) (captured_in f) vs)
      = body-keeps w None w.index (Fills (Filling Alone)) kept body (captured_in f) (calls-keep w None w.index (Fills (Filling Alone)) kept f) vs in
      none-tasks (body_trace body w (calls_at w f) (captured_in f) vs) keeps.1
