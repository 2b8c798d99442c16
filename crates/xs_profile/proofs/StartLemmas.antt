-- The part that a place is in, by halving the starts in order.
use Rattle.std.proofs.Common.{◌≡◌, ◌<◌, ◌≤◌, ◌==◌, ◌&&◌, ◌⊎◌, inl, inr, ℕ, zero, suc, Bool, true, false, not, cond, List, [], ◌∷◌, Option, Some, None, length, get_or, nat_lt, nat_le}
use Rattle.std.proofs.Common.{refl, sym, ap, ◌∙◌, arith}
use Rattle.std.proofs.lemmas.Bool.{true≢false, and_left, and_right, cases_lt, eq-eqb, eqb-true, eqb-false, le-leb, lt-leb, ltb-false, ne_eqb, not-false, not-true}
use Rattle.std.specs.List.Sorted.{IsPartitionPoint, IsPartitionedBy}
use Rattle.xs_trace.specs.declared.item.Site.{Site}
use Rattle.xs_profile.specs.Counts.{is_before, is_from, or_else, part_of}
use Rattle.xs_profile.specs.declared.count.Count.{Count}
use Rattle.xs_profile.specs.steps.Table.{AreAfter, AreInOrder, sites_among}
use Rattle.xs_profile.proofs.CountLemmas.{Less, before-trans, less}

before-at : (s : Site) (xs : List Count) (n : ℕ) (d : Count) → AreAfter s xs → n < length xs → is_before s (get_or xs n d).site ≡ true
before-at s [] n d a h = absurd (omega (arith, h))
before-at s (x ∷ xs) zero d a h = a.0
before-at s (x ∷ xs) (suc n) d a h = before-at s xs n d a.1 (omega (arith, h))

order-at : (xs : List Count) (i j : ℕ) (d : Count) → AreInOrder xs → i < j → j < length xs → is_before (get_or xs i d).site (get_or xs j d).site ≡ true
order-at [] i j d o l h = absurd (omega (arith, h))
order-at (x ∷ xs) i zero d o l h = absurd (omega (arith, l))
order-at (x ∷ xs) zero (suc j) d o l h = before-at x.site xs j d o.1.0 (omega (arith, h))
order-at (x ∷ xs) (suc i) (suc j) d o l h = order-at xs i j d o.1.1 (omega (arith, l)) (omega (arith, h))

-- the starts up to a place come first
pub parted : (xs : List Count) (s : Site) → AreInOrder xs → IsPartitionedBy (λ (c : Count). not (is_before s c.site)) xs
parted xs s o = λ i j d le lt h. at i j d (cases_lt i j) le lt (not-true (is_before s (get_or xs j d).site) h)
  where
    by : (b : Bool) (i j : ℕ) (d : Count) → is_before s (get_or xs i d).site ≡ b → i < j → j < length xs →
        is_before s (get_or xs j d).site ≡ false → not b ≡ true
    by false i j d e l lt far = refl
    by true i j d e l lt far =
        absurd (true≢false (sym (before-trans s (get_or xs i d).site (get_or xs j d).site e (order-at xs i j d o l lt)) ∙ far))

    at : (i j : ℕ) (d : Count) → ((i < j) ⊎ (j ≤ i)) → i ≤ j → j < length xs → is_before s (get_or xs j d).site ≡ false →
        not (is_before s (get_or xs i d).site) ≡ true
    at i j d (inl l) le lt far = by (is_before s (get_or xs i d).site) i j d refl l lt far
    at i j d (inr l) le lt far =
        let same : i ≡ j = omega (arith, l, le) in
        ap (λ (k : ℕ). not (is_before s (get_or xs k d).site)) same ∙ ap (λ (b : Bool). not b) far

-- a start that comes after a place is not the start of its part
behind-not : (s start : Site) → is_before s start ≡ true → is_from start s ≡ false
behind-not s start h = by (less s start h)
  where
    by : Less s start → is_from start s ≡ false
    by (inl k) =
        and_left (start.«module» == s.«module») (nat_le start.line s.line) (ne_eqb start.«module» s.«module» (λ e. omega (arith, k, e)))
    by (inr k) = and_right (start.«module» == s.«module») (nat_le start.line s.line) (lt-leb start.line s.line k.1)

pub none-from : (s : Site) (xs : List Count) → ((k : ℕ) (d : Count) → 0 ≤ k → k < length xs → is_before s (get_or xs k d).site ≡ true) →
    part_of (sites_among xs) s ≡ None
none-from s [] back = refl
none-from s (x ∷ xs) back =
    ap (λ (o : Option Site). or_else o (cond (is_from x.site s) (Some x.site) None))
    (none-from s xs (λ k d l h. back (suc k) d (omega arith) (omega (arith, h))))
    ∙ ap (λ (b : Bool). cond b (Some x.site) None) (behind-not s x.site (back 0 x (omega arith) (omega arith)))

-- of one that does not, if it is in the module
last-is : (start s : Site) → is_before s start ≡ false → is_from start s ≡ (start.«module» == s.«module»)
last-is start s h = by (start.«module» == s.«module») (s.«module» == start.«module») refl refl h
  where
    by : (a b : Bool) → (start.«module» == s.«module») ≡ a → (s.«module» == start.«module») ≡ b →
        cond b (nat_lt s.line start.line) (nat_lt s.«module» start.«module») ≡ false → (a && nat_le start.line s.line) ≡ a
    by false b a-is b-is h = refl
    by true true a-is b-is h = le-leb start.line s.line (ltb-false s.line start.line h)
    by true false a-is b-is h =
        absurd (eqb-false s.«module» start.«module» b-is (sym (eqb-true start.«module» s.«module» a-is)))

-- one before a start of an earlier module is not
earlier-not : (x start s : Site) → is_before x start ≡ true → is_before s start ≡ false → (start.«module» == s.«module») ≡ false → is_from x s ≡ false
earlier-not x start s before not_after other =
    and_left (x.«module» == s.«module») (nat_le x.line s.line) (ne_eqb x.«module» s.«module» (λ e. by e (less x start before)))
  where
    later : (b : Bool) → (s.«module» == start.«module») ≡ b → cond b (nat_lt s.line start.line) (nat_lt s.«module» start.«module») ≡ false →
        start.«module» < s.«module»
    later true e h = absurd (eqb-false start.«module» s.«module» other (sym (eqb-true s.«module» start.«module» e)))
    later false e h =
        let k = ltb-false s.«module» start.«module» h in
        let l = eqb-false s.«module» start.«module» e in
        omega (arith, k, l)

    by : x.«module» ≡ s.«module» → Less x start → ⊥
    by e (inl k) = let l = later (s.«module» == start.«module») refl not_after in omega (arith, e, k, l)
    by e (inr k) = let l = later (s.«module» == start.«module») refl not_after in let m = k.0 in omega (arith, e, m, l)

-- the last start that does not come after a place is that of its part, if it is in the module
pub part-at : (xs : List Count) (s : Site) (n : ℕ) (start : Count) → AreInOrder xs → n < length xs → start ≡ get_or xs n start →
    ((k : ℕ) (d : Count) → 0 ≤ k → k < suc n → is_before s (get_or xs k d).site ≡ false) →
    ((k : ℕ) (d : Count) → suc n ≤ k → k < length xs → is_before s (get_or xs k d).site ≡ true) →
    part_of (sites_among xs) s ≡ cond (start.site.«module» == s.«module») (Some start.site) None
part-at [] s n start o h e front back = absurd (omega (arith, h))
part-at (x ∷ xs) s zero start o h e front back =
    ap (λ (o : Option Site). or_else o (cond (is_from x.site s) (Some x.site) None))
    (none-from s xs (λ k d l h. back (suc k) d (omega arith) (omega (arith, h))))
    ∙ ap (λ (b : Bool). cond b (Some x.site) None) (last-is x.site s (front 0 x (omega arith) (omega arith)))
    ∙ ap (λ (c : Count). cond (c.site.«module» == s.«module») (Some c.site) None) (sym e)
part-at (x ∷ xs) s (suc n) start o h e front back =
    ap (λ (o : Option Site). or_else o (cond (is_from x.site s) (Some x.site) None))
    (part-at xs s n start o.1.1 (omega (arith, h)) e (λ k d l m. front (suc k) d (omega arith) (omega (arith, m)))
    (λ k d l m. back (suc k) d (omega (arith, l)) (omega (arith, m))))
    ∙ by (start.site.«module» == s.«module») refl
  where
    at : is_before x.site start.site ≡ true
    at = ap (λ (c : Count). is_before x.site c.site) e ∙ before-at x.site xs n start o.1.0 (omega (arith, h))

    by : (b : Bool) → (start.site.«module» == s.«module») ≡ b →
        or_else (cond b (Some start.site) None) (cond (is_from x.site s) (Some x.site) None) ≡ cond b (Some start.site) None
    by true b-is = refl
    by false b-is =
        ap (λ (b : Bool). cond b (Some x.site) None)
        (earlier-not x.site start.site s at
        (ap (λ (c : Count). is_before s c.site) e ∙ front (suc n) start (omega arith) (omega arith)) b-is)

-- by a point of the partition
abbrev pub IsPoint : Site → List Count → ℕ → Type 0
IsPoint s xs i = IsPartitionPoint (λ (c : Count). not (is_before s c.site) ≡ true) (λ (c : Count). not (is_before s c.site) ≡ false) xs i

pub no-start : (xs : List Count) (s : Site) (i : ℕ) → IsPoint s xs i → i ≡ 0 → None ≡ part_of (sites_among xs) s
no-start xs s i p e =
    sym (none-from s xs (λ k d l h. not-false (is_before s (get_or xs k d).site) (p.1 k d (omega (arith, e)) h)))

pub in-part : (xs : List Count) (s : Site) (i n : ℕ) (start : Count) → AreInOrder xs → IsPoint s xs i → i ≤ length xs → i ≡ suc n → start ≡ get_or xs n start →
    (start.site.«module» ≡ s.«module») → Some start.site ≡ part_of (sites_among xs) s
in-part xs s i n start o p h j e m =
    sym (part-at xs s n start o (omega (arith, h, j)) e
    (λ k d l m. not-true (is_before s (get_or xs k d).site) (p.0 k d l (omega (arith, m, j))))
    (λ k d l m. not-false (is_before s (get_or xs k d).site) (p.1 k d (omega (arith, l, j)) m))
    ∙ ap (λ (b : Bool). cond b (Some start.site) None) (eqb-same m))
  where
    eqb-same : start.site.«module» ≡ s.«module» → (start.site.«module» == s.«module») ≡ true
    eqb-same m = eq-eqb start.site.«module» s.«module» m

pub in-no-part : (xs : List Count) (s : Site) (i n : ℕ) (start : Count) → AreInOrder xs → IsPoint s xs i → i ≤ length xs → i ≡ suc n →
    start ≡ get_or xs n start → (start.site.«module» ≡ s.«module» → ⊥) → None ≡ part_of (sites_among xs) s
in-no-part xs s i n start o p h j e m =
    sym (part-at xs s n start o (omega (arith, h, j)) e
    (λ k d l m. not-true (is_before s (get_or xs k d).site) (p.0 k d l (omega (arith, m, j))))
    (λ k d l m. not-false (is_before s (get_or xs k d).site) (p.1 k d (omega (arith, l, j)) m))
    ∙ ap (λ (b : Bool). cond b (Some start.site) None) (ne_eqb start.site.«module» s.«module» m))
