-- Traces without holes.
use Rattle.std.proofs.Common.{◌≡◌, ℕ, zero, suc, ◌+◌, length, List, [], ◌∷◌, ◌++◌, Option, Some, None, Bool, true, false, cond, refl}
use Rattle.xs_trace.specs.Cut.{cut_from}
use Rattle.xs_trace.specs.Fill.{numbered, tasks_of}
use Rattle.xs_trace.specs.Mark.{Tick, Put, Say, Stop, Need, Hole, Trace, ◌⨾◌, events_of, without_puts}
use Rattle.xs_trace.specs.declared.item.Site.{Site}
use Rattle.xs_body_spec.specs.declared.focus.Focus.{Focus}
use Rattle.xs_body_spec.specs.World.{World, at_node, with_grain}
use Rattle.xs_body_spec.specs.Tasks.{Job, Task, below}
use Rattle.xs_body_spec.specs.Trace.{each, spread_by, task_trace}
use Rattle.xs_body_spec.proofs.SideLemmas.{IsKept, task-keeps}

-- no hole is in it
abbrev pub HasNoHole : {H : Type 0} → Trace H → Type 0
HasNoHole [] = Unit {0}
HasNoHole (Tick p ∷ x) = HasNoHole x
HasNoHole (Put e ∷ x) = HasNoHole x
HasNoHole (Say t ∷ x) = HasNoHole x
HasNoHole (Stop n p ∷ x) = HasNoHole x
HasNoHole (Need g p ∷ x) = HasNoHole x
HasNoHole (Hole k ∷ x) = ⊥

pub none-then : {H : Type 0} (x y : Trace H) → HasNoHole x → HasNoHole y → HasNoHole (x ⨾ y)
none-then [] y h k = k
none-then (Tick p ∷ x) y h k = none-then x y h k
none-then (Put e ∷ x) y h k = none-then x y h k
none-then (Say t ∷ x) y h k = none-then x y h k
none-then (Stop n p ∷ x) y h k = h
none-then (Need g p ∷ x) y h k = h
none-then (Hole t ∷ x) y h k = absurd h

pub none-captured : {H : Type 0} (x : Trace H) → HasNoHole x → HasNoHole (without_puts x)
none-captured [] h = tt
none-captured (Tick p ∷ x) h = none-captured x h
none-captured (Put e ∷ x) h = none-captured x h
none-captured (Say t ∷ x) h = none-captured x h
none-captured (Stop n p ∷ x) h = none-captured x h
none-captured (Need g p ∷ x) h = none-captured x h
none-captured (Hole t ∷ x) h = absurd h

pub none-tasks : {H : Type 0} (x : Trace H) → HasNoHole x → tasks_of x ≡ []
none-tasks [] h = refl
none-tasks (Tick p ∷ x) h = none-tasks x h
none-tasks (Put e ∷ x) h = none-tasks x h
none-tasks (Say t ∷ x) h = none-tasks x h
none-tasks (Stop n p ∷ x) h = none-tasks x h
none-tasks (Need g p ∷ x) h = none-tasks x h
none-tasks (Hole t ∷ x) h = absurd h

pub none-cut : {H : Type 0} (x : Trace H) → HasNoHole x → (at : Site) (b : ℕ) (m : Option ℕ) → HasNoHole (cut_from x at b m).passed
none-cut [] h at b m = tt
none-cut (Tick p ∷ x) h at zero m = tt
none-cut (Tick p ∷ x) h at (suc b) m = none-cut x h p b m
none-cut (Put e ∷ x) h at b None = none-cut x h at b None
none-cut (Put e ∷ x) h at b (Some zero) = tt
none-cut (Put e ∷ x) h at b (Some (suc m)) = none-cut x h at b (Some m)
none-cut (Say t ∷ x) h at b m = none-cut x h at b m
none-cut (Stop n p ∷ x) h at b m = tt
none-cut (Need g p ∷ x) h at b m = tt
none-cut (Hole t ∷ x) h at b m = absurd h

pub none-numbered : {H : Type 0} (n : ℕ) (x : Trace H) → HasNoHole x → HasNoHole (numbered n x)
none-numbered n [] h = tt
none-numbered n (Tick p ∷ x) h = none-numbered n x h
none-numbered n (Put e ∷ x) h = none-numbered n x h
none-numbered n (Say t ∷ x) h = none-numbered n x h
none-numbered n (Stop f p ∷ x) h = none-numbered n x h
none-numbered n (Need g p ∷ x) h = none-numbered n x h
none-numbered n (Hole t ∷ x) h = absurd h

-- of marks one after another
pub none-first : {H : Type 0} (x y : Trace H) → HasNoHole (x ++ y) → HasNoHole x
none-first [] y h = tt
none-first (Tick p ∷ x) y h = none-first x y h
none-first (Put e ∷ x) y h = none-first x y h
none-first (Say t ∷ x) y h = none-first x y h
none-first (Stop f p ∷ x) y h = none-first x y h
none-first (Need g p ∷ x) y h = none-first x y h
none-first (Hole t ∷ x) y h = absurd h

pub none-last : {H : Type 0} (x y : Trace H) → HasNoHole (x ++ y) → HasNoHole y
none-last [] y h = h
none-last (Tick p ∷ x) y h = none-last x y h
none-last (Put e ∷ x) y h = none-last x y h
none-last (Say t ∷ x) y h = none-last x y h
none-last (Stop f p ∷ x) y h = none-last x y h
none-last (Need g p ∷ x) y h = none-last x y h
none-last (Hole t ∷ x) y h = absurd h

-- ---- what a stylesheet does without a grain

none-each : (p : Site) (x : Focus → Trace Task) (f : Focus) → ((n i : ℕ) → HasNoHole (x (at_node n i f))) → (i : ℕ) (ns : List ℕ) →
    HasNoHole (each p x f i ns)
none-each p x f e i [] = tt
none-each p x f e i (n ∷ ns) = none-then (x (at_node n i f)) (each p x f (i + 1) ns) (e n i) (none-each p x f e (i + 1) ns)

none-spread : (b : Bool) (job : Job) (p : Site) (x : Focus → Trace Task) (f : Focus) (ns : List ℕ) → ((n i : ℕ) → HasNoHole (x (at_node n i f))) →
    HasNoHole (spread_by (cond b None (below (length ns) None)) job p x f ns)
none-spread true job p x f ns e = none-each p x f e 1 ns
none-spread false job p x f ns e = none-each p x f e 1 ns

-- the first of the two alone
abbrev First : Bool → Trace Task → Trace Task → Type 0
First b x v = HasNoHole x

module _ (w : World) where
  abbrev Alone : World
  Alone = with_grain None w

  kept : IsKept Alone None w.index First
  kept = record {
    nothing = λ b. tt;
    joins = λ b x v y z e o. none-then x y e o;
    ticks = λ b p x v e. e;
    puts = λ b e. tt;
    says = λ b t. tt;
    stops = λ b n p. tt;
    needs = λ b g p e. tt;
    captures = λ b x v h k e o. none-then (without_puts x) (h (events_of x)) (none-captured x e) (o (events_of x));
    spreads = λ job p f ns x v e same. none-spread f.is_captured job p x f ns e;
  }

  pub task-alone : (t : Task) → HasNoHole (task_trace Alone t)
  task-alone t = task-keeps Alone None w.index First kept t
