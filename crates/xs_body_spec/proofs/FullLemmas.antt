-- A task that is left has nodes, and begins with a tick.
use Rattle.std.proofs.Common.{◌≡◌, ℕ, zero, suc, ◌+◌, ◌-◌, length, List, [], ◌∷◌, ◌++◌, map, nat_le, Option, Some, None, Bool, true, false, cond, refl, sym, ◌∙◌, arith}
use Rattle.std.proofs.lemmas.Bool.{true≢false}
use Rattle.std.proofs.lemmas.Bool.Decides.{nat_tests}
use Rattle.xs_trace.specs.Fill.{HolesAre}
use Rattle.xs_trace.specs.Mark.{Tick, Put, Say, Stop, Need, Hole, Trace, ◌⨾◌, events_of, without_puts}
use Rattle.xs_trace.specs.declared.item.Site.{Site}
use Rattle.xs_body_spec.specs.declared.focus.Focus.{Focus}
use Rattle.xs_body_spec.specs.World.{World, at_node}
use Rattle.xs_body_spec.specs.Tasks.{Job, Task, below, shared, task_behind, tasks_for, with_node}
use Rattle.xs_body_spec.specs.Trace.{calls_at, each, job_trace, spread_by, task_trace}
use Rattle.xs_body_spec.specs.Ranks.{BeginsWithTick, HasNodes}
use Rattle.xs_body_spec.proofs.SideLemmas.{IsKept, task-keeps}

-- ---- what is so of all holes
pub holes-then : (P : Task → Type 0) (x y : Trace Task) → HolesAre P x → HolesAre P y → HolesAre P (x ⨾ y)
holes-then P [] y h k = k
holes-then P (Tick p ∷ x) y h k = holes-then P x y h k
holes-then P (Put e ∷ x) y h k = holes-then P x y h k
holes-then P (Say t ∷ x) y h k = holes-then P x y h k
holes-then P (Stop f p ∷ x) y h k = h
holes-then P (Need g p ∷ x) y h k = h
holes-then P (Hole t ∷ x) y h k = (h.0, holes-then P x y h.1 k)

pub holes-captured : (P : Task → Type 0) (x : Trace Task) → HolesAre P x → HolesAre P (without_puts x)
holes-captured P [] h = tt
holes-captured P (Tick p ∷ x) h = holes-captured P x h
holes-captured P (Put e ∷ x) h = holes-captured P x h
holes-captured P (Say t ∷ x) h = holes-captured P x h
holes-captured P (Stop f p ∷ x) h = holes-captured P x h
holes-captured P (Need g p ∷ x) h = holes-captured P x h
holes-captured P (Hole t ∷ x) h = (h.0, holes-captured P x h.1)

pub holes-more : (P Q : Task → Type 0) → ((t : Task) → P t → Q t) → (x : Trace Task) → HolesAre P x → HolesAre Q x
holes-more P Q f [] h = tt
holes-more P Q f (Tick p ∷ x) h = holes-more P Q f x h
holes-more P Q f (Put e ∷ x) h = holes-more P Q f x h
holes-more P Q f (Say t ∷ x) h = holes-more P Q f x h
holes-more P Q f (Stop n p ∷ x) h = holes-more P Q f x h
holes-more P Q f (Need g p ∷ x) h = holes-more P Q f x h
holes-more P Q f (Hole t ∷ x) h = (f t h.0, holes-more P Q f x h.1)

pub holes-each : (P : Task → Type 0) (p : Site) (x : Focus → Trace Task) (f : Focus) → ((n i : ℕ) → HolesAre P (x (at_node n i f))) →
    (i : ℕ) (ns : List ℕ) → HolesAre P (each p x f i ns)
holes-each P p x f e i [] = tt
holes-each P p x f e i (n ∷ ns) = holes-then P (x (at_node n i f)) (each p x f (i + 1) ns) (e n i) (holes-each P p x f e (i + 1) ns)

-- ---- tasks of a run
abbrev IsFull : Task → Type 0
IsFull t = HasNodes t.nodes

has-more : (ns : List ℕ) (n : ℕ) → HasNodes (ns ++ n ∷ [])
has-more [] n = tt
has-more (m ∷ ns) n = tt

shared-full : (grain room : ℕ) (t : Task) (ns : List ℕ) → HasNodes t.nodes → HolesAre IsFull (map Hole (shared grain room t ns))
shared-full grain room t [] h = (h, tt)
shared-full grain zero t (n ∷ ns) h = (h, shared-full grain (grain - 1) (task_behind t n) ns tt)
shared-full grain (suc room) t (n ∷ ns) h = shared-full grain room (with_node t n) ns (has-more t.nodes n)

tasks-full : (grain : ℕ) (job : Job) (p : Site) (f : Focus) (ns : List ℕ) → (Some grain ≡ Some 0 → ⊥) → nat_le (length ns) grain ≡ false →
    HolesAre IsFull (map Hole (tasks_for grain job p f ns))
tasks-full zero job p f ns h q = absurd (h refl)
tasks-full (suc room) job p f [] h q = let e : nat_le 0 (suc room) ≡ true = grind (arith, nat_tests) in absurd (true≢false (sym e ∙ q))
tasks-full (suc room) job p f (n ∷ ns) h q = shared-full (suc room) room _ ns tt

each-begins : (p : Site) (x : Focus → Trace Task) (f : Focus) (i : ℕ) (ns : List ℕ) → HasNodes ns → BeginsWithTick (each p x f i ns)
each-begins p x f i [] h = h
each-begins p x f i (n ∷ ns) h = tt

module _ (w : World) (g : w.grain ≡ Some 0 → ⊥) where
  abbrev Full : Bool → Trace Task → Trace Task → Type 0
  Full b x v = HolesAre IsFull x

  spread-full : (b : Bool) (o : Option ℕ) → (o ≡ Some 0 → ⊥) → (job : Job) (p : Site) (f : Focus) (ns : List ℕ) (x : Focus → Trace Task) →
      ((n i : ℕ) → HolesAre IsFull (x (at_node n i f))) → HolesAre IsFull (spread_by (cond b None (below (length ns) o)) job p x f ns)
  spread-full true o h job p f ns x e = holes-each IsFull p x f e 1 ns
  spread-full false None h job p f ns x e = holes-each IsFull p x f e 1 ns
  spread-full false (Some grain) h job p f ns x e = by_size (nat_le (length ns) grain) refl
    where
      by_size : (q : Bool) → nat_le (length ns) grain ≡ q → HolesAre IsFull (spread_by (cond q None (Some grain)) job p x f ns)
      by_size true q = holes-each IsFull p x f e 1 ns
      by_size false q = tasks-full grain job p f ns h q

  kept : IsKept w w.grain w.index Full
  kept = record {
    nothing = λ b. tt;
    joins = λ b x v y z e o. holes-then IsFull x y e o;
    ticks = λ b p x v e. e;
    puts = λ b e. tt;
    says = λ b t. tt;
    stops = λ b n p. tt;
    needs = λ b n p e. tt;
    captures = λ b x v h k e o. holes-then IsFull (without_puts x) (h (events_of x)) (holes-captured IsFull x e) (o (events_of x));
    spreads = λ job p f ns x v e same. spread-full f.is_captured w.grain g job p f ns x e;
  }

  begins : (t : Task) → HasNodes t.nodes → BeginsWithTick (task_trace w t)
  begins t h = each-begins t.site (job_trace t.job w (calls_at w t.focus) t.site) t.focus t.first t.nodes h

  pub full-begins : (t : Task) → HolesAre (λ c. HasNodes c.nodes × BeginsWithTick (task_trace w c)) (task_trace w t)
  full-begins t =
      holes-more IsFull (λ c. HasNodes c.nodes × BeginsWithTick (task_trace w c)) (λ c h. (h, begins c h)) (task_trace w t)
      (task-keeps w w.grain w.index Full kept t)

pub tasks-begin : (w : World) (t : Task) → (w.grain ≡ Some 0 → ⊥) →
    HolesAre (λ c. HasNodes c.nodes × BeginsWithTick (task_trace w c)) (task_trace w t)
tasks-begin w t g = full-begins w g t
