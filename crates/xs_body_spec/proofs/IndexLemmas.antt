-- Nothing that a stylesheet does depends on the index by which its attribute sets are found.
use Rattle.std.proofs.Common.{◌≡◌, ℕ, ◌+◌, ◌-◌, length, List, [], ◌∷◌, slice_get, Option, Some, None, Bool, refl, sym, ap, subst, ◌∙◌}
use Rattle.xs_sheet.specs.declared.body.Content.{Content}
use Rattle.xs_sheet.specs.declared.body.Content.TheVariants.{Empty, Select, Body as Fragment}
use Rattle.xs_sheet.specs.declared.declarations.Global.{Global}
use Rattle.xs_trace.specs.Cut.{Cut, End, Whole, Fault, Needs, Spent, cut}
use Rattle.xs_trace.specs.Kept.{spot}
use Rattle.xs_trace.specs.Mark.{Tick, Trace, ◌⨾◌, without_puts, events_of, captured}
use Rattle.xs_trace.specs.declared.fault.Fault.TheVariants as fault
use Rattle.xs_trace.specs.declared.item.Site.{Site}
use Rattle.xs_value.specs.declared.value.Value.{Value}
use Rattle.xs_value.specs.declared.value.Value.TheVariants.{Piece}
use Rattle.xs_attribute_sets.specs.declared.index.SetIndex.{SetIndex}
use Rattle.xs_body_spec.specs.declared.focus.Focus.{Focus}
use Rattle.xs_body_spec.specs.World.{World, at_node, with_index}
use Rattle.xs_body_spec.specs.Tasks.{Job, Task, grain_over}
use Rattle.xs_body_spec.specs.Trace.{each, spread_by, fragment_of, task_trace}
use Rattle.xs_body_spec.specs.Globals.{Table, Settled, settled, ended, Settles, AllSettle, SettlesAll, tried, with_globals, with_passed, with_value}
use Rattle.xs_body_spec.specs.Globals.{attempt_trace, attempt_value, content_value, global_focus}
use Rattle.xs_body_spec.specs.Globals as settles
use Rattle.xs_body_spec.proofs.SideLemmas.{IsKept, body-keeps, content-keeps, calls-keep, task-keeps}

abbrev Same : Bool → Trace Task → Trace Task → Type 0
Same b x v = x ≡ v

same-joined : (x v y z : Trace Task) → x ≡ v → y ≡ z → x ⨾ y ≡ v ⨾ z
same-joined x v y z e o = ap (λ t. t ⨾ y) e ∙ ap (λ t. v ⨾ t) o

same-each : (p : Site) (x v : Focus → Trace Task) (f : Focus) → ((n i : ℕ) → x (at_node n i f) ≡ v (at_node n i f)) → (i : ℕ) (ns : List ℕ) →
    each p x f i ns ≡ each p v f i ns
same-each p x v f e i [] = refl
same-each p x v f e i (n ∷ ns) =
    ap (λ t. Tick p ∷ t) (same-joined (x (at_node n i f)) (v (at_node n i f)) (each p x f (i + 1) ns) (each p v f (i + 1) ns) (e n i)
    (same-each p x v f e (i + 1) ns))

same-spread : (o : Option ℕ) (job : Job) (p : Site) (x v : Focus → Trace Task) (f : Focus) (ns : List ℕ) →
    ((n i : ℕ) → x (at_node n i f) ≡ v (at_node n i f)) → spread_by o job p x f ns ≡ spread_by o job p v f ns
same-spread None job p x v f ns e = same-each p x v f e 1 ns
same-spread (Some grain) job p x v f ns e = refl

module _ (w : World) (index : SetIndex) where
  abbrev V : World
  V = with_index index w

  kept : IsKept w w.grain index Same
  kept = record {
    nothing = λ b. refl;
    joins = λ b x v y z e o. same-joined x v y z e o;
    ticks = λ b p x v e. ap (λ t. Tick p ∷ t) e;
    puts = λ b e. refl;
    says = λ b t. refl;
    stops = λ b n p. refl;
    needs = λ b g p e. refl;
    captures = λ b x v h k e o. ap (λ t. captured t h) e ∙ ap (λ t. without_puts v ⨾ t) (o (events_of v));
    spreads = λ job p f ns x v e same. same-spread (grain_over w f (length ns)) job p x v f ns e;
  }

  pub task-same : (t : Task) → task_trace V t ≡ task_trace w t
  task-same t = sym (task-keeps w w.grain index Same kept t)

  pub attempt-same : (g : Option Global) → attempt_trace V g ≡ attempt_trace w g
  attempt-same None = refl
  attempt-same (Some g) =
      sym (content-keeps w w.grain index Same kept g.binding.content g.binding.site (global_focus w) (calls-keep w w.grain index Same kept (global_focus w)) []
      (λ u k v. []) (λ v. refl))

  content-same : (content : Content) → content_value V content ≡ content_value w content
  content-same Empty = refl
  content-same (Select e) = refl
  content-same (Fragment body) =
      ap (λ x. Piece (fragment_of (events_of x)))
      (sym (body-keeps w w.grain index Same kept body (global_focus w) (calls-keep w w.grain index Same kept (global_focus w)) []))

  pub value-same : (g : Option Global) → attempt_value V g ≡ attempt_value w g
  value-same None = refl
  value-same (Some g) = content-same g.binding.content

-- settling
module _ (w : World) (index : SetIndex) (budget : ℕ) where
  abbrev U : World
  U = with_index index w

  tried-same : (t : Table) (g : ℕ) → tried w budget t g ≡ tried U budget t g
  tried-same t g =
      ap (λ x. cut x (budget - t.ticks) None) (sym (attempt-same (with_globals w t.values) index (slice_get w.sheet.globals g)))

  with-same : (t : Table) (g : ℕ) → with_value U g (with_passed (tried U budget t g) t) ≡ with_value w g (with_passed (tried w budget t g) t)
  with-same t g =
      ap (λ (c : Cut Task). with_value U g (with_passed c t)) (sym (tried-same t g))
      ∙ ap (λ (v : Value). settles.valued g v (with_passed (tried w budget t g) t))
      (value-same (with_globals w t.values) index (slice_get w.sheet.globals g))

  passed-same : (t : Table) (g : ℕ) → with_passed (tried U budget t g) t ≡ with_passed (tried w budget t g) t
  passed-same t g = ap (λ (c : Cut Task). with_passed c t) (sym (tried-same t g))

  end-same : (t : Table) (g : ℕ) (e : End) → (tried w budget t g).end ≡ e → (tried U budget t g).end ≡ e
  end-same t g e q = ap (λ (c : Cut Task). c.end) (sym (tried-same t g)) ∙ q

  settles-same : {under : List ℕ} {g : ℕ} {t : Table} {r : Settled} → Settles w budget under g t r → Settles U budget under g t r
  settles-same {under = under} {g = g} {t = t} (settles.whole e) =
      subst (λ (u : Table). Settles U budget under g t (settled u)) (with-same t g) (settles.whole (end-same t g Whole e))
  settles-same {under = under} {g = g} {t = t} (settles.faults {f = f} {p = p} e) =
      subst (λ (u : Table). Settles U budget under g t (ended u (spot f p))) (passed-same t g) (settles.faults (end-same t g (Fault f p) e))
  settles-same {under = under} {g = g} {t = t} (settles.spends {p = p} e) =
      subst (λ (u : Table). Settles U budget under g t (ended u (spot fault.Budget p))) (passed-same t g) (settles.spends (end-same t g (Spent p) e))
  settles-same {under = under} {g = g} {t = t} (settles.circular {h = h} {p = p} e n) =
      subst (λ (u : Table). Settles U budget under g t (ended u (spot fault.Circular p))) (passed-same t g) (settles.circular (end-same t g (Needs h p) e) n)
  settles-same {g = g} {t = t} (settles.needs {h = h} {p = p} e n k m) =
      settles.needs (end-same t g (Needs h p) e) n (settles-same k) (settles-same m)
  settles-same {g = g} {t = t} (settles.stops {h = h} {p = p} e n k) = settles.stops (end-same t g (Needs h p) e) n (settles-same k)

  all-same : {gs : List ℕ} {t : Table} {r : Settled} → AllSettle w budget gs t r → AllSettle U budget gs t r
  all-same settles.none = settles.none
  all-same (settles.skips n k) = settles.skips n (all-same k)
  all-same (settles.next l k m) = settles.next l (settles-same k) (all-same m)
  all-same (settles.stop l k) = settles.stop l (settles-same k)

  pub settling-same : (given : List (List ℕ × List ℕ)) (r : Settled) → SettlesAll w given budget r → SettlesAll U given budget r
  settling-same given r s = record { order = s.order; in_order = s.in_order; settle = all-same s.settle }
