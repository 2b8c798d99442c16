-- Attempts at globals, and how they are settled (XSLT 1.0, 11.4).
use Rattle.std.specs.Prelude.{◌≡◌, ℕ, ◌+◌, ◌-◌, ◌==◌, ◌||◌, ◌&&◌, List, [], ◌∷◌, ◌++◌, map, slice_get, slice_set, Option, Some, None, option_map, Bool}
use Rattle.std.specs.Prelude.{true, false, if◌then◌else◌}
use Rattle.std.specs.List.Sorted.{IsPermutation, IsSorted}
use Rattle.std.specs.Ordering.{nat_cmp, ordering_then}
use Rattle.std.specs.Str.{bytes_eq}
use Rattle.std.specs.declared.cmp.Ordering.{Ordering}
use Rattle.xs_sheet.specs.declared.body.Binding.{Binding}
use Rattle.xs_sheet.specs.declared.body.Content.{Content}
use Rattle.xs_sheet.specs.declared.body.Content.TheVariants.{Empty, Select, Body as Fragment}
use Rattle.xs_sheet.specs.declared.declarations.Global.{Global}
use Rattle.xs_sheet.specs.declared.sheet.Sheet.{Sheet}
use Rattle.xs_trace.specs.Cut.{Cut, Whole, Fault, Needs, Spent, cut}
use Rattle.xs_trace.specs.Kept.{spot}
use Rattle.xs_trace.specs.Mark.{Trace, events_of, messages_of, tick_count}
use Rattle.xs_trace.specs.Run.{Answer, Gives, Faults, Lacks}
use Rattle.xs_trace.specs.Label.{Label}
use Rattle.xs_trace.specs.declared.fault.Fault.{Fault as RunFault}
use Rattle.xs_trace.specs.declared.fault.Fault.TheVariants as fault
use Rattle.xs_trace.specs.declared.item.Site.{Site}
use Rattle.xs_trace.specs.declared.item.Spot.{Spot}
use Rattle.xs_value.specs.declared.value.Value.{Value}
use Rattle.xs_value.specs.declared.value.Value.TheVariants.{Chars as String, Piece}
use Rattle.xs_body_spec.specs.declared.focus.Focus.{Focus}
use Rattle.xs_body_spec.specs.World.{World, all_set_levels, alone_at, captured_in, value_run}
use Rattle.xs_body_spec.specs.Tasks.{Task}
use Rattle.xs_body_spec.specs.Trace.{body_trace, calls_at, content_trace, fragment_of, most_depth}

-- the root is the current node, no rule is current, and nothing is left to tasks
abbrev pub global_focus : World → Focus
global_focus w = captured_in (alone_at 0 most_depth (all_set_levels w))

-- what the content of a binding does; the binding itself takes no tick
abbrev pub binding_trace : World → Binding → Trace Task
binding_trace w b = content_trace b.content b.site w (calls_at w (global_focus w)) (global_focus w) [] (λ v. [])

-- and its value, where that comes to its end
abbrev pub value_in : Answer Value → Value
value_in (Gives v) = v
value_in (Faults f) = String []
value_in (Lacks g) = String []

abbrev pub content_value : World → Content → Value
content_value w Empty = String []
content_value w (Select e) = value_in (value_run w e (global_focus w) []).end
content_value w (Fragment body) = Piece (fragment_of (events_of (body_trace body w (calls_at w (global_focus w)) (global_focus w) [])))

abbrev pub attempt_trace : World → Option Global → Trace Task
attempt_trace w None = []
attempt_trace w (Some g) = binding_trace w g.binding

abbrev pub attempt_value : World → Option Global → Value
attempt_value w None = String []
attempt_value w (Some g) = content_value w g.binding.content

-- an attempt at a global, cut at a number of ticks
abbrev pub attempt_cut : World → (global limit : ℕ) → Cut Task
attempt_cut w global limit = cut (attempt_trace w (slice_get w.sheet.globals global)) limit None

-- ---- settling

-- The values so far; what was said and taken for them, in the order in which they were settled; and how many attempts were thrown away.
pub record Table : Type 0 where
  pub values : List (Option Value)
  pub says : List (List ℕ)
  pub ticks : ℕ
  pub thrown : ℕ

-- it goes on from a table, or the run has ended there: in a fault, or at a tick past the budget, which is the fault Budget
pub data Settled : Type 0 where
  settled : Table → Settled
  ended : Table → Spot → Settled

abbrev pub with_globals : World → List (Option Value) → World
with_globals w vs = record w { globals = vs }

-- an attempt at a global over the values so far, cut at what is left of the budget
abbrev pub tried : World → (budget : ℕ) → Table → ℕ → Cut Task
tried w budget t g = attempt_cut (with_globals w t.values) g (budget - t.ticks)

-- what passed the cut of an attempt is kept
abbrev pub added : List (List ℕ) → ℕ → Table → Table
added says ticks t = record t { says = t.says ++ says; ticks = t.ticks + ticks }

abbrev pub with_passed : Cut Task → Table → Table
with_passed c t = added (messages_of c.passed) (tick_count c.passed) t

-- the value of a global is kept
abbrev pub valued : ℕ → Value → Table → Table
valued g v t = record t { values = slice_set t.values g (Some v) }

abbrev pub with_value : World → ℕ → Table → Table
with_value w g t = valued g (attempt_value (with_globals w t.values) (slice_get w.sheet.globals g)) t

-- nothing of an attempt is kept
abbrev pub once_more : Table → Table
once_more t = record t { thrown = t.thrown + 1 }

-- whether a global is among those under attempt
abbrev pub is_under : List ℕ → ℕ → Bool
is_under [] h = false
is_under (g ∷ gs) h = (g == h) || is_under gs h

-- A global is settled, with those under attempt above which it stands. An attempt that needs another global leaves
-- nothing; that one is settled first, and then the attempt is made again.
pub data Settles (w : World) (budget : ℕ) : (under : List ℕ) (g : ℕ) → Table → Settled → Type 0 where
  whole : {under : List ℕ} {g : ℕ} {t : Table} → (tried w budget t g).end ≡ Whole →
      Settles w budget under g t (settled (with_value w g (with_passed (tried w budget t g) t)))
  faults : {under : List ℕ} {g : ℕ} {t : Table} {f : RunFault} {p : Site} → (tried w budget t g).end ≡ Fault f p →
      Settles w budget under g t (ended (with_passed (tried w budget t g) t) (spot f p))
  spends : {under : List ℕ} {g : ℕ} {t : Table} {p : Site} → (tried w budget t g).end ≡ Spent p →
      Settles w budget under g t (ended (with_passed (tried w budget t g) t) (spot fault.Budget p))
  circular : {under : List ℕ} {g : ℕ} {t : Table} {h : ℕ} {p : Site} → (tried w budget t g).end ≡ Needs h p → is_under (g ∷ under) h ≡ true →
      Settles w budget under g t (ended (with_passed (tried w budget t g) t) (spot fault.Circular p))
  needs : {under : List ℕ} {g : ℕ} {t u : Table} {h : ℕ} {p : Site} {r : Settled} → (tried w budget t g).end ≡ Needs h p → is_under (g ∷ under) h ≡ false →
      Settles w budget (g ∷ under) h (once_more t) (settled u) → Settles w budget under g u r → Settles w budget under g t r
  stops : {under : List ℕ} {g : ℕ} {t u : Table} {h : ℕ} {p : Site} {s : Spot} → (tried w budget t g).end ≡ Needs h p → is_under (g ∷ under) h ≡ false →
      Settles w budget (g ∷ under) h (once_more t) (ended u s) → Settles w budget under g t (ended u s)

-- some globals in turn, except those that have values already
abbrev pub IsUnsettled : Table → ℕ → Type 0
IsUnsettled t g = slice_get t.values g ≡ Some None

pub data AllSettle (w : World) (budget : ℕ) : List ℕ → Table → Settled → Type 0 where
  none : {t : Table} → AllSettle w budget [] t (settled t)
  skips : {g : ℕ} {gs : List ℕ} {t : Table} {r : Settled} → (IsUnsettled t g → ⊥) → AllSettle w budget gs t r → AllSettle w budget (g ∷ gs) t r
  next : {g : ℕ} {gs : List ℕ} {t u : Table} {r : Settled} → IsUnsettled t g → Settles w budget [] g t (settled u) → AllSettle w budget gs u r →
      AllSettle w budget (g ∷ gs) t r
  stop : {g : ℕ} {gs : List ℕ} {t u : Table} {s : Spot} → IsUnsettled t g → Settles w budget [] g t (ended u s) → AllSettle w budget (g ∷ gs) t (ended u s)

-- ---- all globals of a stylesheet

-- the text that is given for a name in no namespace
abbrev pub text_given : List (List ℕ × List ℕ) → Label → Option (List ℕ)
text_given [] name = None
text_given (x ∷ xs) name = if bytes_eq name.uri [] && bytes_eq name.local x.0 then Some x.1 else text_given xs name

-- A parameter of the stylesheet has the string that is given for it, for no ticks (11.4).
abbrev pub value_given : List (List ℕ × List ℕ) → Global → Option Value
value_given given g = if g.param then option_map String (text_given given g.binding.name) else None

abbrev pub at_first : Sheet → List (List ℕ × List ℕ) → Table
at_first sheet given = record { values = map (value_given given) sheet.globals; says = []; ticks = 0; thrown = 0 }

-- each global's module, line and number, and their order
abbrev pub placed : ℕ → List Global → List (ℕ × ℕ × ℕ)
placed n [] = []
placed n (g ∷ gs) = (g.binding.site.«module», g.binding.site.line, n) ∷ placed (n + 1) gs

abbrev pub by_place : ℕ × ℕ × ℕ → ℕ × ℕ × ℕ → Ordering
by_place x y = ordering_then (ordering_then (nat_cmp x.0 y.0) (nat_cmp x.1 y.1)) (nat_cmp x.2 y.2)

-- the numbers of the globals, by modules and lines
pub record IsInOrder (globals : List Global) (order : List ℕ) : Type 0 where
  pub places : List (ℕ × ℕ × ℕ)
  pub all : IsPermutation (placed 0 globals) places
  pub sorted : IsSorted by_place places
  pub numbers : order ≡ map (λ p. p.2) places

-- all globals in their order
pub record SettlesAll (w : World) (given : List (List ℕ × List ℕ)) (budget : ℕ) (r : Settled) : Type 0 where
  pub order : List ℕ
  pub in_order : IsInOrder w.sheet.globals order
  pub settle : AllSettle w budget order (at_first w.sheet given) r
