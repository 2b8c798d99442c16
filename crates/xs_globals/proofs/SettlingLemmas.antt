-- Globals that are settled one after another, from attempt to attempt.
use Rattle.std.proofs.Common.{◌≡◌, ◌<◌, ◌≤◌, ◌+◌, ◌*◌, ◌-◌, ◌==◌, ◌||◌, inl, inr, ℕ, zero, suc, length, List, [], ◌∷◌, ◌++◌, get_or, slice_get, slice_set}
use Rattle.std.proofs.Common.{Result, Ok, Err, IfOk, Option, Some, None, Bool, true, false, reverse, refl, sym, ap, subst, ◌∙◌, arith, length-append}
use Rattle.std.specs.List.{All}
use Rattle.std.proofs.lemmas.List.{length-set, reverse-append}
use Rattle.std.proofs.lemmas.Bool.{true≢false}
use Rattle.std.proofs.lemmas.Bool.Decides.{nat_tests}
use Rattle.std.proofs.lemmas.List.Sums.{sum_by-set}
use Rattle.std.proofs.lemmas.Option.{get_or_from_slice_get, slice_get_within}
use Rattle.xs_sheet.specs.declared.declarations.Global.{Global}
use Rattle.xs_trace.specs.Cut.{End, Whole, Fault, Needs, Spent, Full, nowhere}
use Rattle.xs_trace.specs.Mark.{tick_count}
use Rattle.xs_trace.specs.declared.item.Site.{Site}
use Rattle.xs_trace.specs.declared.item.Spot.{Spot}
use Rattle.xs_trace.proofs.CutLemmas.{cut-longest}
use Rattle.xs_trace.proofs.KeptLemmas.{some_same}
use Rattle.xs_value.specs.declared.value.Value.{Value}
use Rattle.xs_eval_spec.specs.Conditions.{IsInIf}
use Rattle.xs_body_spec.specs.World.{World}
use Rattle.xs_body_spec.specs.Globals.{Table, Settled, settled, ended, tried, with_globals, with_passed, with_value, once_more, is_under, Settles, AllSettle}
use Rattle.xs_body_spec.specs.Globals.{attempt_trace, attempt_value}
use Rattle.xs_body_spec.specs.Globals as settles
use Rattle.xs_globals.specs.steps.Settling.{Continues, EndsSo, GoesOn, IsGoing, IsFlagged, IsTurn, IsUnderWay, Unwinds, left_over, unmarked}
use Rattle.xs_globals.specs.Results.{settled_by}
use Rattle.xs_globals.specs.declared.settled.Turn.{Turn}
use Rattle.xs_globals.specs.declared.settled.Turn.TheVariants as turn
use Rattle.xs_body_spec.proofs.NeedLemmas.{attempt-needs, cut-needs}

module _ (w : World) (budget : ℕ) where
  pub opens : (g : ℕ) (t : Table) (r : Settled) → Unwinds w budget (g ∷ []) t r → Settles w budget [] g t r
  opens g t r (inl x) = subst (λ q. Settles w budget [] g t q) (sym x.1.1) x.1.0
  opens g t r (inr x) = subst (λ q. Settles w budget [] g t q) (sym x.1.1.1) x.1.1.0

  pub pops : (g : ℕ) (gs : List ℕ) (t u : Table) (r : Settled) → (tried w budget t g).end ≡ Whole →
      u ≡ with_value w g (with_passed (tried w budget t g) t) → Unwinds w budget gs u r → Unwinds w budget (g ∷ gs) t r
  pops g gs t u r e q x = inl (u, (subst (λ (v : Table). Settles w budget gs g t (settled v)) (sym q) (settles.whole e), x))

  again : (g h : ℕ) (gs : List ℕ) (p : Site) (t u : Table) (r : Settled) → (tried w budget t g).end ≡ Needs h p → is_under (g ∷ gs) h ≡ false →
      Settles w budget (g ∷ gs) h (once_more t) (settled u) → Unwinds w budget (g ∷ gs) u r → Unwinds w budget (g ∷ gs) t r
  again g h gs p t u r e n k (inl y) = inl (y.0, (settles.needs e n k y.1.0, y.1.1))
  again g h gs p t u r e n k (inr y) = inr (y.0, (y.1.0, (settles.needs e n k y.1.1.0, y.1.1.1)))

  pushes-once : (g h : ℕ) (gs : List ℕ) (p : Site) (t : Table) (r : Settled) → (tried w budget t g).end ≡ Needs h p → is_under (g ∷ gs) h ≡ false →
      Unwinds w budget (h ∷ g ∷ gs) (once_more t) r → Unwinds w budget (g ∷ gs) t r
  pushes-once g h gs p t r e n (inl x) = again g h gs p t x.0 r e n x.1.0 x.1.1
  pushes-once g h gs p t r e n (inr x) = inr (x.0, (x.1.0, (settles.stops e n x.1.1.0, x.1.1.1)))

  pub pushes : (g h : ℕ) (gs : List ℕ) (p : Site) (t u : Table) (r : Settled) → (tried w budget t g).end ≡ Needs h p → is_under (g ∷ gs) h ≡ false →
      u ≡ once_more t → Unwinds w budget (h ∷ g ∷ gs) u r → Unwinds w budget (g ∷ gs) t r
  pushes g h gs p t u r e n q x = pushes-once g h gs p t r e n (subst (λ (v : Table). Unwinds w budget (h ∷ g ∷ gs) v r) q x)

  -- a need is of a global that is there without a value
  pub needed : (t : Table) (g h : ℕ) (p : Site) → (tried w budget t g).end ≡ Needs h p → slice_get t.values h ≡ Some None
  needed t g h p e =
      let o : Option Global = slice_get w.sheet.globals g in
      cut-needs t.values (attempt_trace (with_globals w t.values) o) (attempt-needs (with_globals w t.values) o) nowhere (budget - t.ticks) None h p e

  -- an attempt with which the run has ended
  ends-by : (begun : List Bool) (g : ℕ) (gs : List ℕ) (t : Table) (s : Spot) → IsFlagged begun (g ∷ gs) t.values → (e : End) → (tried w budget t g).end ≡ e →
      EndsSo begun e s → Settles w budget gs g t (ended (with_passed (tried w budget t g) t) s)
  ends-by begun g gs t s m Whole q k = absurd k
  ends-by begun g gs t s m (Fault f p) q k =
      subst (λ (i : Spot). Settles w budget gs g t (ended (with_passed (tried w budget t g) t) i)) (sym k) (settles.faults q)
  ends-by begun g gs t s m (Needs h p) q k =
      let under : is_under (g ∷ gs) h ≡ true = some_same (sym (m h (needed t g h p q)) ∙ k.0) in
      subst (λ (i : Spot). Settles w budget gs g t (ended (with_passed (tried w budget t g) t) i)) (sym k.1) (settles.circular q under)
  ends-by begun g gs t s m (Spent p) q k =
      subst (λ (i : Spot). Settles w budget gs g t (ended (with_passed (tried w budget t g) t) i)) (sym k) (settles.spends q)
  ends-by begun g gs t s m (Full p) q k = absurd k

  pub ends : (begun : List Bool) (g : ℕ) (gs : List ℕ) (t u : Table) (s : Spot) → IsFlagged begun (g ∷ gs) t.values → EndsSo begun (tried w budget t g).end s →
      u ≡ with_passed (tried w budget t g) t → Unwinds w budget (g ∷ gs) t (ended u s)
  ends begun g gs t u s m k q =
      inr (u, (s, (subst (λ (v : Table). Settles w budget gs g t (ended v s)) (sym q) (ends-by begun g gs t s m (tried w budget t g).end refl k), refl)))

-- ---- marks

is_there : Option Bool → Bool
is_there None = false
is_there (Some b) = true

set-at : (bs : List Bool) (i : ℕ) (x : Bool) → slice_get bs i ≡ Some x → slice_get (slice_set bs i true) i ≡ Some true
unfolding is_there
set-at [] i x e = absurd (true≢false (sym (ap is_there e)))
set-at (b ∷ bs) zero x e = refl
set-at (b ∷ bs) (suc i) x e = set-at bs i x e

pub set-other : {A : Type 0} (xs : List A) (i j : ℕ) (v : A) → (j ≡ i → ⊥) → slice_get (slice_set xs i v) j ≡ slice_get xs j
set-other [] i j v n = refl
set-other (x ∷ xs) zero zero v n = absurd (n refl)
set-other (x ∷ xs) zero (suc j) v n = refl
set-other (x ∷ xs) (suc i) zero v n = refl
set-other (x ∷ xs) (suc i) (suc j) v n = set-other xs i j v (λ e. n (ap suc e))

-- a global that has a value is not without one
abbrev pub is_lacking : Option (Option Value) → Bool
is_lacking None = false
is_lacking (Some None) = true
is_lacking (Some (Some v)) = false

pub filled : (vs : List (Option Value)) (g : ℕ) (v : Value) → slice_get (slice_set vs g (Some v)) g ≡ Some None → ⊥
filled [] g v e = true≢false (sym (ap is_lacking e))
filled (x ∷ vs) zero v e = true≢false (sym (ap is_lacking e))
filled (x ∷ vs) (suc g) v e = filled vs g v e

pub marks-pop : (begun : List Bool) (g : ℕ) (gs : List ℕ) (vs : List (Option Value)) (v : Value) → IsFlagged begun (g ∷ gs) vs →
    IsFlagged begun gs (slice_set vs g (Some v))
marks-pop begun g gs vs v m h e = by_test (g == h) refl
  where
    by_test : (b : Bool) → (g == h) ≡ b → slice_get begun h ≡ Some (is_under gs h)
    by_test true q =
        let same : g ≡ h = grind (arith, nat_tests, q) in
        absurd (filled vs g v (subst (λ k. slice_get (slice_set vs g (Some v)) k ≡ Some None) (sym same) e))
    by_test false q =
        let apart : h ≡ g → ⊥ = grind (arith, nat_tests, q) in
        m h (sym (set-other vs g h (Some v) apart) ∙ e) ∙ ap (λ b. Some (b || is_under gs h)) q

pub marks-push : (begun : List Bool) (h : ℕ) (gs : List ℕ) (vs : List (Option Value)) → IsFlagged begun gs vs → slice_get vs h ≡ Some None →
    IsFlagged (slice_set begun h true) (h ∷ gs) vs
marks-push begun h gs vs m l k e = by_test (h == k) refl
  where
    by_test : (b : Bool) → (h == k) ≡ b → slice_get (slice_set begun h true) k ≡ Some (is_under (h ∷ gs) k)
    by_test true q =
        let same : h ≡ k = grind (arith, nat_tests, q) in
        subst (λ j. slice_get (slice_set begun h true) j ≡ Some true) same (set-at begun h (is_under gs h) (m h l))
        ∙ ap (λ b. Some (b || is_under gs k)) (sym q)
    by_test false q =
        let apart : k ≡ h → ⊥ = grind (arith, nat_tests, q) in
        set-other begun h k true apart ∙ m k e ∙ ap (λ b. Some (b || is_under gs k)) (sym q)

pub not-under : (begun : List Bool) (h : ℕ) (b : Bool) → slice_get begun h ≡ Some b → (slice_get begun h ≡ Some true → ⊥) → b ≡ false
not-under begun h true e n = absurd (n e)
not-under begun h false e n = refl

-- one mark more
pub fewer : (begun : List Bool) (h : ℕ) → slice_get begun h ≡ Some false → left_over (slice_set begun h true) + 1 ≡ left_over begun
fewer begun h e =
    let one : get_or begun h false ≡ false = get_or_from_slice_get begun h false false e in
    let sums : left_over (slice_set begun h true) + unmarked (get_or begun h false) ≡ left_over begun + 0 =
    sum_by-set unmarked begun h true false (slice_get_within begun h false e) in
    let more : left_over (slice_set begun h true) + 1 ≡ left_over begun + 0 =
    subst (λ b. left_over (slice_set begun h true) + unmarked b ≡ left_over begun + 0) one sums in
    omega (arith, more)

-- ---- turns

module _ (w : World) (budget : ℕ) where
  -- the ticks of an attempt are within the budget
  within-budget : (t : Table) (g : ℕ) → t.ticks ≤ budget → t.ticks + tick_count (tried w budget t g).passed ≤ budget
  within-budget t g h =
      let o : Option Global = slice_get w.sheet.globals g in
      let n : tick_count (tried w budget t g).passed ≤ budget - t.ticks =
      (cut-longest (attempt_trace (with_globals w t.values) o) nowhere (budget - t.ticks) None).within in
      omega (arith, h, n)

  going-by : (begun : List Bool) (t u : Table) → IsGoing w budget begun t → All (IsInIf w.tree) u.values → u.ticks ≤ budget → length u.values ≡ length
      t.values →
      u.thrown ≡ t.thrown → IsGoing w budget begun u
  going-by begun t u h a n l k =
      let few : u.thrown + left_over begun ≤ length w.sheet.globals = subst (λ i. i + left_over begun ≤ length w.sheet.globals) (sym k) h.few in
      record { values = a; within = n; marks = h.marks; count = l ∙ h.count; few = few }

  going-mark : (begun : List Bool) (t : Table) (h : ℕ) → slice_get begun h ≡ Some false → IsGoing w budget begun t → IsGoing w budget (slice_set begun h true) t
  going-mark begun t h e k =
      let less : left_over (slice_set begun h true) + 1 ≡ left_over begun = fewer begun h e in
      let few : t.thrown + left_over begun ≤ length w.sheet.globals = k.few in
      record {
        values = k.values;
        within = k.within;
        marks = length-set begun h true ∙ k.marks;
        count = k.count;
        few = omega (arith, less, few);
      }

  going-need : (begun : List Bool) (t u : Table) (h : ℕ) → slice_get begun h ≡ Some false → IsGoing w budget begun t → u ≡ once_more t →
      IsGoing w budget (slice_set begun h true) u
  going-need begun t u h e k q =
      let less : left_over (slice_set begun h true) + 1 ≡ left_over begun = fewer begun h e in
      let few : t.thrown + left_over begun ≤ length w.sheet.globals = k.few in
      let one : u.thrown ≡ t.thrown + 1 = ap (λ (v : Table). v.thrown) q in
      record {
        values = subst (λ vs. All (IsInIf w.tree) vs) (sym (ap (λ (v : Table). v.values) q)) k.values;
        within = subst (λ n. n ≤ budget) (sym (ap (λ (v : Table). v.ticks) q)) k.within;
        marks = length-set begun h true ∙ k.marks;
        count = ap (λ (v : Table). length v.values) q ∙ k.count;
        few = omega (arith, less, few, one);
      }

  top-first : (waiting front : List ℕ) (g : ℕ) → waiting ≡ front ++ g ∷ [] → reverse waiting ≡ g ∷ reverse front
  top-first waiting front g e = ap reverse e ∙ reverse-append front (g ∷ [])

  pub starts : (begun : List Bool) (g : ℕ) (t : Table) → IsGoing w budget begun t → IsFlagged begun [] t.values → slice_get t.values g ≡ Some None →
      IsUnderWay w budget g t (slice_set begun g true) (reverse (g ∷ [])) t
  starts begun g t k m l = record {
    settles = λ r x. opens w budget g t r x;
    going = going-mark begun t g (m g l) k;
    flagged = marks-push begun g [] t.values m l;
  }

  module _ (g : ℕ) (first : Table) (begun : List Bool) (waiting front : List ℕ) (t u : Table) (top : ℕ) (e : waiting ≡ front ++ top ∷ [])
      (h : IsUnderWay w budget g first begun (reverse waiting) t) where
    under : IsUnderWay w budget g first begun (top ∷ reverse front) t
    under = subst (λ gs. IsUnderWay w budget g first begun gs t) (top-first waiting front top e) h

    pub after-done : IsTurn w budget begun top t u turn.Done → All (IsInIf w.tree) u.values → IsUnderWay w budget g first begun (reverse front) u
    after-done q a =
        let v : Value = attempt_value (with_globals w t.values) (slice_get w.sheet.globals top) in
        let values : u.values ≡ slice_set t.values top (Some v) = ap (λ (x : Table). x.values) q.1 in
        record {
          settles = λ r x. under.settles r (pops w budget top (reverse front) t u r q.0 q.1 x);
          going =
              going-by begun t u under.going a
              (subst (λ n. n ≤ budget) (sym (ap (λ (x : Table). x.ticks) q.1)) (within-budget t top under.going.within))
              (ap length values ∙ length-set t.values top (Some v)) (ap (λ (x : Table). x.thrown) q.1);
          flagged =
              subst (λ vs. IsFlagged begun (reverse front) vs) (sym values) (marks-pop begun top (reverse front) t.values v under.flagged);
        }

    pub after-ends : (s : Spot) → IsTurn w budget begun top t u (turn.Ends s) → Settles w budget [] g first (ended u s)
    after-ends s q = under.settles (ended u s) (ends w budget begun top (reverse front) t u s under.flagged q.0 q.1)

    pub going-ends : (s : Spot) → IsTurn w budget begun top t u (turn.Ends s) → IsGoing w budget begun u
    going-ends s q =
        let values : u.values ≡ t.values = ap (λ (x : Table). x.values) q.1 in
        going-by begun t u under.going (subst (λ vs. All (IsInIf w.tree) vs) (sym values) under.going.values)
        (subst (λ n. n ≤ budget) (sym (ap (λ (x : Table). x.ticks) q.1)) (within-budget t top under.going.within)) (ap length values)
        (ap (λ (x : Table). x.thrown) q.1)

    module _ (other : ℕ) (q : IsTurn w budget begun top t u (turn.Needs other)) where
      lacks : slice_get t.values other ≡ Some None
      lacks = needed w budget t top other q.0.0 q.0.1

      apart : is_under (top ∷ reverse front) other ≡ false
      apart = not-under begun other (is_under (top ∷ reverse front) other) (under.flagged other lacks) q.1.0

      pub not-begun : slice_get begun other ≡ Some false
      not-begun = under.flagged other lacks ∙ ap (λ b. Some b) apart

      pub after-needs : (marks : List Bool) (waits : List ℕ) → marks ≡ slice_set begun other true → waits ≡ (front ++ top ∷ []) ++ other ∷ [] →
          IsUnderWay w budget g first marks (reverse waits) u
      after-needs marks waits a b =
          let values : u.values ≡ t.values = ap (λ (x : Table). x.values) q.1.1 in
          let stack : reverse waits ≡ other ∷ top ∷ reverse front =
          top-first waits (front ++ top ∷ []) other b ∙ ap (λ gs. other ∷ gs) (top-first (front ++ top ∷ []) front top refl) in
          let done : IsUnderWay w budget g first (slice_set begun other true) (other ∷ top ∷ reverse front) u = record {
            settles = λ r x. under.settles r (pushes w budget top other (reverse front) q.0.0 t u r q.0.1 apart q.1.1 x);
            going = going-need begun t u other not-begun under.going q.1.1;
            flagged =
                subst (λ vs. IsFlagged (slice_set begun other true) (other ∷ top ∷ reverse front) vs) (sym values)
                (marks-push begun other (top ∷ reverse front) t.values under.flagged lacks);
          } in
          subst (λ gs. IsUnderWay w budget g first marks gs u) (sym stack)
          (subst (λ bs. IsUnderWay w budget g first bs (other ∷ top ∷ reverse front) u) (sym a) done)

      pub needs-fall : (marks : List Bool) (waits : List ℕ) → marks ≡ slice_set begun other true → waits ≡ (front ++ top ∷ []) ++ other ∷ [] →
          2 * left_over marks + length waits < 2 * left_over begun + length waiting
      needs-fall marks waits a b =
          let less : left_over (slice_set begun other true) + 1 ≡ left_over begun = fewer begun other not-begun in
          let same : left_over marks ≡ left_over (slice_set begun other true) = ap left_over a in
          let new : length waits ≡ (length front + 1) + 1 =
          ap length b ∙ length-append (front ++ top ∷ []) (other ∷ []) ∙ ap (λ n. n + 1) (length-append front (top ∷ [])) in
          let old : length waiting ≡ length front + 1 = ap length e ∙ length-append front (top ∷ []) in
          omega (arith, less, same, new, old)

    pub done-falls : 2 * left_over begun + length front < 2 * left_over begun + length waiting
    done-falls = let old : length waiting ≡ length front + 1 = ap length e ∙ length-append front (top ∷ []) in omega (arith, old)

    -- the same, as a turn is reported
    pub on-done : (marks : List Bool) → marks ≡ begun → IsTurn w budget begun top t u turn.Done → All (IsInIf w.tree) u.values →
        GoesOn w budget g first marks front u (2 * left_over begun + length waiting) None
    on-done marks m q a =
        subst (λ (bs : List Bool). GoesOn w budget g first bs front u (2 * left_over begun + length waiting) None) (sym m) (after-done q a, done-falls)

    pub on-ends : (marks : List Bool) → marks ≡ begun → (s : Spot) → IsTurn w budget begun top t u (turn.Ends s) →
        GoesOn w budget g first marks front u (2 * left_over begun + length waiting) (Some s)
    on-ends marks m s q =
        subst (λ (bs : List Bool). GoesOn w budget g first bs front u (2 * left_over begun + length waiting) (Some s)) (sym m)
        (after-ends s q, going-ends s q)

    pub on-needs : (other : ℕ) (q : IsTurn w budget begun top t u (turn.Needs other)) (marks : List Bool) (waits : List ℕ) → marks ≡ slice_set begun other
        true →
        waits ≡ (front ++ top ∷ []) ++ other ∷ [] → GoesOn w budget g first marks waits u (2 * left_over begun + length waiting) None
    on-needs other q marks waits a b = (after-needs other q marks waits a b, needs-fall other q marks waits a b)

  -- the next global in turn
  pub skips-one : (g : ℕ) (t : Table) → (slice_get t.values g ≡ Some None → ⊥) → Continues w budget g t t None
  skips-one g t n = λ gs r k. settles.skips n k

  pub settles-one : (g : ℕ) (t u : Table) (end : Option Spot) → slice_get t.values g ≡ Some None → Settles w budget [] g t (settled_by end u) →
      Continues w budget g t u end
  settles-one g t u None l s = λ gs r k. settles.next l s k
  settles-one g t u (Some q) l s = λ gs. settles.stop l s

  pub settles-if : {E : Type 0} (g : ℕ) (t u : Table) (r : Result (Option Spot) E) → slice_get t.values g ≡ Some None →
      IfOk r (λ o. Settles w budget [] g t (settled_by o u)) → IfOk r (λ o. Continues w budget g t u o)
  settles-if g t u (Ok o) l s = settles-one g t u o l s
  settles-if g t u (Err e) l s = tt

  -- none are left
  pub none-follow : (gs : List ℕ) (t : Table) → length gs ≡ 0 → AllSettle w budget gs t (settled t)
  none-follow [] t e = settles.none
  none-follow (g ∷ gs) t e = let more : suc (length gs) ≡ 0 = e in absurd (omega (arith, more))

  -- what a turn reported, by what it answered
  pub turn-as : (begun marks : List Bool) (g : ℕ) (t u : Table) (x y : Turn) → begun ≡ marks → x ≡ y → IsTurn w budget begun g t u x →
      IsTurn w budget marks g t u y
  turn-as begun marks g t u x y b e q =
      subst (λ (z : Turn). IsTurn w budget marks g t u z) e (subst (λ (bs : List Bool). IsTurn w budget bs g t u x) b q)

  pub needs-there : (begun : List Bool) (t u : Table) (top other : ℕ) → IsGoing w budget begun t → IsTurn w budget begun top t u (turn.Needs other) →
      other < length begun
  needs-there begun t u top other h q =
      subst (λ n. other < n) (h.count ∙ sym h.marks) (slice_get_within t.values other None (needed w budget t top other q.0.0 q.0.1))

  pub turned : (g : ℕ) (first : Table) (begun marks : List Bool) (waiting front waits : List ℕ) (top : ℕ) (t u : Table) (o q : Option Spot) →
      waiting ≡ front ++ top ∷ [] → IsUnderWay w budget g first begun (reverse waiting) t →
      ((n : ℕ) (x : Table) → IsUnderWay w budget n x begun (reverse (front ++ top ∷ [])) t →
      GoesOn w budget n x marks waits u (2 * left_over begun + length (front ++ top ∷ [])) o) → o ≡ q →
      GoesOn w budget g first marks waits u (2 * left_over begun + length waiting) q
  turned g first begun marks waiting front waits top t u o q e h k b =
      let here : IsUnderWay w budget g first begun (reverse (front ++ top ∷ [])) t =
      subst (λ (ws : List ℕ). IsUnderWay w budget g first begun (reverse ws) t) e h in
      subst (λ (z : Option Spot). GoesOn w budget g first marks waits u (2 * left_over begun + length waiting) z) b
      (subst (λ (ws : List ℕ). GoesOn w budget g first marks waits u (2 * left_over begun + length ws) o) (sym e) (k g first here))
