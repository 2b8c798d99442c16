-- A store of events and messages alone, under limits.
use Rattle.std.proofs.Common.{◌≡◌, ◌<◌, ◌≤◌, ℕ, zero, suc, ◌-◌, List, [], ◌∷◌, ◌++◌, Option, Some, Bool, true, false, cond, nat_le, refl, sym, ap}
use Rattle.std.proofs.Common.{◌∙◌, append-nil, arith}
use Rattle.std.proofs.lemmas.Bool.{true≢false}
use Rattle.std.proofs.lemmas.Bool.Decides.{nat_tests}
use Rattle.xs_trace.specs.Mark.{Trace, ticks, untimed}
use Rattle.xs_trace.specs.Kept.{item_marks, marks_of}
use Rattle.xs_trace.specs.State.{State, Shared, Untimed, allows, stands, after_tick, after_ticks}
use Rattle.xs_trace.specs.Cut.{Spent, Full, less}
use Rattle.xs_trace.specs.Play.{Reported, Ends, goes, stops, put, put_in, ticked, ticked_by}
use Rattle.xs_record.specs.Store.{Store, at_ticks, marked, is_open, put_into, briefly_to, stood}
use Rattle.xs_trace.specs.declared.event.Event.{Event}
use Rattle.xs_trace.specs.declared.item.Item.{Item}
use Rattle.xs_trace.specs.declared.item.Site.{Site}
use Rattle.xs_record.proofs.StoreLemmas.{marks-pushed}

-- ---- the store

abbrev Holds : {H : Type 0} → Trace H → List (List Event) → Site → Store H
Holds t cs p = record { reported = t; captures = cs; at = p }

pub plain_pushed : {H : Type 0} (is js : List Item) (cs : List (List Event)) (at : Site) (i : Item) (s : Store H) → Holds (marks_of is) cs at ≡ s →
    js ≡ is ++ i ∷ [] → Holds (marks_of js) cs at ≡ marked (item_marks i) s
plain_pushed is js cs at i s v e = ap (λ t. Holds t cs at) (ap marks_of e ∙ marks-pushed is i) ∙ ap (marked (item_marks i)) v

pub at_moved : (n : ℕ) (p at : Site) → 0 < n → p ≡ at_ticks n p at
at_moved zero p at h = absurd (omega (arith, h))
at_moved (suc n) p at h = refl

pub at_still : (n : ℕ) (p at : Site) → n ≤ 0 → at ≡ at_ticks n p at
at_still zero p at h = refl
at_still (suc n) p at h = absurd (omega (arith, h))

-- ---- ticks

no-ticks : {H : Type 0} (p : Site) (n : ℕ) → untimed {H = H} (ticks p n []) ≡ []
no-ticks p zero = refl
no-ticks p (suc n) = no-ticks p n

as-before : {H : Type 0} (p : Site) (n : ℕ) (t : Trace H) → t ++ untimed (ticks p n []) ≡ t
as-before p n t = ap (λ x. t ++ x) (no-ticks p n) ∙ append-nil t

stands-so : (n : ℕ) (p at : Site) → stands n p (Some at) ≡ Some (at_ticks n p at)
stands-so zero p at = refl
stands-so (suc n) p at = refl

fits : (n left : ℕ) → n ≤ left → nat_le n left ≡ true
fits n left h = grind (arith, nat_tests, h)

is-past : (n left : ℕ) → left < n → nat_le n left ≡ false
is-past n left h = grind (arith, nat_tests, h)

abbrev In : {H : Type 0} → Trace H → List (List Event) → Option Site → Option ℕ → Option ℕ → Shared → State H
In t cs at room left h = record { reported = Untimed t; captures = cs; at = at; room = room; left = left; shared = h }

pub brief_ticks : {H : Type 0} (p : Site) (n : ℕ) (s k : Store H) (room : Option ℕ) (left after : ℕ) (h : Shared) → n ≤ left → after ≡ left - n →
    k ≡ stood p n s → ticked_by n p (briefly_to room left h s) ≡ goes (briefly_to room after h k)
brief_ticks p n s k room left after h q e d =
    ap
    (λ b. cond b (goes (after_ticks n p (briefly_to room left h s)))
    (Ends (Spent p) (Untimed (s.reported ++ untimed (ticks p left []))) (Some 0) h))
    (fits n left q)
    ∙ ap (λ t. goes (In t s.captures (stands n p (Some s.at)) room (Some (left - n)) h)) (as-before p n s.reported)
    ∙ ap (λ a. goes (In s.reported s.captures a room (Some (left - n)) h)) (stands-so n p s.at)
    ∙ ap (λ l. goes (briefly_to room l h (stood p n s))) (sym e) ∙ ap (λ m. goes (briefly_to room after h m)) (sym d)

pub brief_short : {H : Type 0} (p : Site) (n : ℕ) (s k : Store H) (room : Option ℕ) (left : ℕ) (h : Shared) → left < n → k ≡ stood p left s →
    ticked_by n p (briefly_to room left h s) ≡ stops (Spent p) (briefly_to room 0 h k)
brief_short p n s k room left h q d =
    ap
    (λ b. cond b (goes (after_ticks n p (briefly_to room left h s)))
    (Ends (Spent p) (Untimed (s.reported ++ untimed (ticks p left []))) (Some 0) h))
    (is-past n left q)
    ∙ ap (λ t. Ends (Spent p) (Untimed t) (Some 0) h) (as-before p left s.reported) ∙ ap (λ (m : Store _). Ends (Spent p) (Untimed m.reported) (Some 0) h)
    (sym d)

pub brief_tick : {H : Type 0} (p : Site) (s k : Store H) (room : Option ℕ) (left after : ℕ) (h : Shared) → 1 ≤ left → after ≡ left - 1 → k ≡ stood p 1 s →
    ticked p (briefly_to room left h s) ≡ goes (briefly_to room after h k)
brief_tick p s k room left after h q e d =
    ap (λ b. cond b (goes (after_tick p (briefly_to room left h s))) (Ends (Spent p) (Untimed s.reported) (Some 0) h)) (fits 1 left q)
    ∙ ap (λ t. goes (In t s.captures (Some p) room (Some (left - 1)) h)) (append-nil s.reported)
    ∙ ap (λ l. goes (briefly_to room l h (stood p 1 s))) (sym e) ∙ ap (λ m. goes (briefly_to room after h m)) (sym d)

pub brief_spent : {H : Type 0} (p : Site) (s : Store H) (room : Option ℕ) (left : ℕ) (h : Shared) → left ≡ 0 →
    ticked p (briefly_to room left h s) ≡ stops (Spent p) (briefly_to room left h s)
brief_spent p s room left h e = at left e
  where
    at : (n : ℕ) → n ≡ 0 → ticked p (briefly_to room n h s) ≡ stops (Spent p) (briefly_to room n h s)
    at zero q = refl
    at (suc n) q = absurd (omega (arith, q))

-- ---- an event that is put, under a limit

abbrev Puts : {H : Type 0} → List (List Event) → Bool → Event → Option ℕ → ℕ → Shared → Store H → Reported H
Puts [] b e room left h s = cond b (goes (briefly_to (less room 1) left h (put_into [] e s))) (stops (Full s.at) (briefly_to room left h s))
Puts (c ∷ cs) b e room left h s = goes (briefly_to room left h (put_into (c ∷ cs) e s))

puts : {H : Type 0} (cs : List (List Event)) (e : Event) (room : Option ℕ) (left : ℕ) (h : Shared) (s : Store H) →
    put_in cs e (briefly_to room left h s) ≡ Puts cs (allows room 1) e room left h s
puts [] e room left h s = refl
puts (c ∷ cs) e room left h s = refl

puts-by : {H : Type 0} (cs : List (List Event)) (b : Bool) (e : Event) (room : Option ℕ) (left : ℕ) (h : Shared) (s : Store H) → is_open cs ≡ false →
    Puts cs b e room left h s ≡ cond b (goes (briefly_to (less room 1) left h (put_into cs e s))) (stops (Full s.at) (briefly_to room left h s))
puts-by [] b e room left h s o = refl
puts-by (c ∷ cs) b e room left h s o = absurd (true≢false o)

pub brief_captured : {H : Type 0} (e : Event) (s k : Store H) (room : Option ℕ) (left : ℕ) (h : Shared) → is_open s.captures ≡ true →
    k ≡ put_into s.captures e s → put e (briefly_to room left h s) ≡ goes (briefly_to room left h k)
brief_captured e s k room left h o d = captured s.captures o ∙ ap (λ m. goes (briefly_to room left h m)) (sym d)
  where
    captured : (cs : List (List Event)) → is_open cs ≡ true → put_in cs e (briefly_to room left h s) ≡ goes (briefly_to room left h (put_into cs e s))
    captured [] q = absurd (true≢false (sym q))
    captured (c ∷ cs) q = refl

pub brief_put : {H : Type 0} (e : Event) (s k : Store H) (room after : Option ℕ) (left : ℕ) (h : Shared) → is_open s.captures ≡ false →
    allows room 1 ≡ true → after ≡ less room 1 → k ≡ put_into s.captures e s → put e (briefly_to room left h s) ≡ goes (briefly_to after left h k)
brief_put e s k room after left h o a f d =
    puts s.captures e room left h s ∙ puts-by s.captures (allows room 1) e room left h s o
    ∙ ap (λ b. cond b (goes (briefly_to (less room 1) left h (put_into s.captures e s))) (stops (Full s.at) (briefly_to room left h s))) a
    ∙ ap (λ m. goes (briefly_to (less room 1) left h m)) (sym d) ∙ ap (λ r. goes (briefly_to r left h k)) (sym f)

pub brief_full : {H : Type 0} (e : Event) (s : Store H) (room after : Option ℕ) (at : Site) (left : ℕ) (h : Shared) → is_open s.captures ≡ false →
    allows room 1 ≡ false → after ≡ room → at ≡ s.at → put e (briefly_to room left h s) ≡ stops (Full at) (briefly_to after left h s)
brief_full e s room after at left h o a f d =
    puts s.captures e room left h s ∙ puts-by s.captures (allows room 1) e room left h s o
    ∙ ap (λ b. cond b (goes (briefly_to (less room 1) left h (put_into s.captures e s))) (stops (Full s.at) (briefly_to room left h s))) a
    ∙ ap (λ r. stops (Full s.at) (briefly_to r left h s)) (sym f) ∙ ap (λ p. stops (Full p) (briefly_to after left h s)) (sym d)
