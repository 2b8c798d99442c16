-- A table by module and line, and the counts that are made of it, line by line and module by module.
use Rattle.std.proofs.Common.{◌≡◌, ◌<◌, ◌≤◌, ◌+◌, ◌==◌, ◌&&◌, ◌⊎◌, inl, inr, ℕ, zero, suc, Bool, true, false, cond, List, [], ◌∷◌, ◌++◌, length, get_or, set, nat_lt}
use Rattle.std.proofs.Common.{refl, sym, ap, ◌∙◌, arith}
use Rattle.std.proofs.lemmas.Bool.{true≢false, false≢true, cases_eq, cases_lt, cases_order, cond-true, cond-false, eq-eqb, ne_eqb, lt-ltb, le-ltb}
use Rattle.std.specs.Global.{Vec}
use Rattle.xs_trace.specs.declared.item.Site.{Site}
use Rattle.xs_profile.specs.Counts.{is_site}
use Rattle.xs_profile.specs.steps.Table.{lines_of, table_ticks}
use Rattle.xs_profile.proofs.TickLemmas.{read-none}

-- ---- the lines of modules

pub lines-past : (ms : List (Vec ℕ)) (v : Vec ℕ) (n : ℕ) → v.items ≡ [] → lines_of (ms ++ v ∷ []) n ≡ lines_of ms n
lines-past [] v zero e = e
lines-past [] v (suc n) e = refl
lines-past (m ∷ ms) v zero e = refl
lines-past (m ∷ ms) v (suc n) e = lines-past ms v n e

-- a module without lines more
pub table-past : (ms : List (Vec ℕ)) (v : Vec ℕ) (s : Site) → v.items ≡ [] → table_ticks (ms ++ v ∷ []) s ≡ table_ticks ms s
table-past ms v s e = ap (λ (lines : List ℕ). get_or lines s.line 0) (lines-past ms v s.«module» e)

pub lines-at : (ms : List (Vec ℕ)) (n : ℕ) (d : Vec ℕ) → n < length ms → lines_of ms n ≡ (get_or ms n d).items
lines-at [] n d h = absurd (omega (arith, h))
lines-at (m ∷ ms) zero d h = refl
lines-at (m ∷ ms) (suc n) d h = lines-at ms n d (omega (arith, h))

pub lines-none : (ms : List (Vec ℕ)) (n : ℕ) → length ms ≤ n → lines_of ms n ≡ []
lines-none [] n h = refl
lines-none (m ∷ ms) zero h = absurd (omega (arith, h))
lines-none (m ∷ ms) (suc n) h = lines-none ms n (omega (arith, h))

lines-set : (ms : List (Vec ℕ)) (i : ℕ) (v : Vec ℕ) → i < length ms → lines_of (set ms i v) i ≡ v.items
lines-set [] i v h = absurd (omega (arith, h))
lines-set (m ∷ ms) zero v h = refl
lines-set (m ∷ ms) (suc i) v h = lines-set ms i v (omega (arith, h))

lines-other : (ms : List (Vec ℕ)) (i n : ℕ) (v : Vec ℕ) → (n ≡ i → ⊥) → lines_of (set ms i v) n ≡ lines_of ms n
lines-other [] i n v ne = refl
lines-other (m ∷ ms) zero zero v ne = absurd (ne refl)
lines-other (m ∷ ms) zero (suc n) v ne = refl
lines-other (m ∷ ms) (suc i) zero v ne = refl
lines-other (m ∷ ms) (suc i) (suc n) v ne = lines-other ms i n v (λ e. ne (ap (λ (k : ℕ). suc k) e))

and-true : (b c : Bool) (x : ℕ) → b ≡ true → cond (b && c) x 0 ≡ cond c x 0
and-true true c x e = refl
and-true false c x e = absurd (false≢true e)

and-false : (b c : Bool) (x : ℕ) → b ≡ false → cond (b && c) x 0 ≡ 0
and-false false c x e = refl
and-false true c x e = absurd (true≢false e)

-- some ticks more at a line of a module
pub table-more : (ms : List (Vec ℕ)) (site s : Site) (ticks : ℕ) (old v : Vec ℕ) → site.«module» < length ms → old ≡ get_or ms site.«module» old →
    ((n : ℕ) → get_or v.items n 0 ≡ get_or old.items n 0 + cond (n == site.line) ticks 0) →
    table_ticks (set ms site.«module» v) s ≡ table_ticks ms s + cond (is_site s site) ticks 0
table-more ms site s ticks old v h is each = by (cases_eq s.«module» site.«module»)
  where
    by : ((s.«module» ≡ site.«module») ⊎ (s.«module» ≡ site.«module» → ⊥)) →
        table_ticks (set ms site.«module» v) s ≡ table_ticks ms s + cond (is_site s site) ticks 0
    by (inl same) =
        let a : table_ticks (set ms site.«module» v) s ≡ get_or v.items s.line 0 =
        ap (λ (n : ℕ). get_or (lines_of (set ms site.«module» v) n) s.line 0) same
        ∙ ap (λ (lines : List ℕ). get_or lines s.line 0) (lines-set ms site.«module» v h) in
        let b : table_ticks ms s ≡ get_or old.items s.line 0 =
        ap (λ (n : ℕ). get_or (lines_of ms n) s.line 0) same
        ∙ ap (λ (lines : List ℕ). get_or lines s.line 0) (lines-at ms site.«module» old h ∙ ap (λ (m : Vec ℕ). m.items) (sym is)) in
        let c = each s.line in
        let d : cond (is_site s site) ticks 0 ≡ cond (s.line == site.line) ticks 0 =
        and-true (s.«module» == site.«module») (s.line == site.line) ticks (eq-eqb s.«module» site.«module» same) in
        omega (arith, a, b, c, d)
    by (inr other) =
        let a : table_ticks (set ms site.«module» v) s ≡ table_ticks ms s =
        ap (λ (lines : List ℕ). get_or lines s.line 0) (lines-other ms site.«module» s.«module» v other) in
        let d : cond (is_site s site) ticks 0 ≡ 0 =
        and-false (s.«module» == site.«module») (s.line == site.line) ticks (ne_eqb s.«module» site.«module» other) in
        omega (arith, a, d)

-- ---- the counts of what is before a number, and what is at it

one-more : (l n g x : ℕ) → (l ≡ n → x ≡ g) → cond (nat_lt l n) g 0 + cond (l == n) x 0 ≡ cond (nat_lt l (n + 1)) g 0
one-more l n g x h = by (cases_order l n)
  where
    by : ((l ≡ n) ⊎ ((l < n) ⊎ (n < l))) → cond (nat_lt l n) g 0 + cond (l == n) x 0 ≡ cond (nat_lt l (n + 1)) g 0
    by (inl e) =
        let a = cond-false {A = ℕ} (nat_lt l n) g 0 (le-ltb l n (omega (arith, e))) in
        let b = cond-true {A = ℕ} (l == n) x 0 (eq-eqb l n e) in
        let c = cond-true {A = ℕ} (nat_lt l (n + 1)) g 0 (lt-ltb l (n + 1) (omega (arith, e))) in
        let d = h e in
        omega (arith, a, b, c, d)
    by (inr (inl e)) =
        let a = cond-true {A = ℕ} (nat_lt l n) g 0 (lt-ltb l n e) in
        let b = cond-false {A = ℕ} (l == n) x 0 (ne_eqb l n (λ i. omega (arith, e, i))) in
        let c = cond-true {A = ℕ} (nat_lt l (n + 1)) g 0 (lt-ltb l (n + 1) (omega (arith, e))) in
        omega (arith, a, b, c)
    by (inr (inr e)) =
        let a = cond-false {A = ℕ} (nat_lt l n) g 0 (le-ltb l n (omega (arith, e))) in
        let b = cond-false {A = ℕ} (l == n) x 0 (ne_eqb l n (λ i. omega (arith, e, i))) in
        let c = cond-false {A = ℕ} (nat_lt l (n + 1)) g 0 (le-ltb l (n + 1) (omega (arith, e))) in
        omega (arith, a, b, c)

all-before : (l n g : ℕ) → (n ≤ l → g ≡ 0) → cond (nat_lt l n) g 0 ≡ g
all-before l n g h = by (cases_lt l n)
  where
    by : ((l < n) ⊎ (n ≤ l)) → cond (nat_lt l n) g 0 ≡ g
    by (inl e) = cond-true {A = ℕ} (nat_lt l n) g 0 (lt-ltb l n e)
    by (inr e) = let a = cond-false {A = ℕ} (nat_lt l n) g 0 (le-ltb l n e) in let b = h e in omega (arith, a, b)

none-before : (l g : ℕ) → cond (nat_lt l 0) g 0 ≡ 0
none-before l g = cond-false {A = ℕ} (nat_lt l 0) g 0 (le-ltb l 0 (omega arith))

-- ---- line by line

-- before the first line nothing is added
pub no-line : (m : Bool) (old l g : ℕ) → old ≡ old + cond (m && nat_lt l 0) g 0
no-line true old l g = let k = none-before l g in omega (arith, k)
no-line false old l g = omega arith

pub line-more : (m : Bool) (old mid new l n g x : ℕ) → mid ≡ old + cond (m && nat_lt l n) g 0 → new ≡ mid + cond (m && (l == n)) x 0 → (l ≡ n → x ≡ g) →
    new ≡ old + cond (m && nat_lt l (n + 1)) g 0
line-more true old mid new l n g x a b h = let k = one-more l n g x h in omega (arith, a, b, k)
line-more false old mid new l n g x a b h = omega (arith, a, b)

pub all-lines : (m : Bool) (old new l n : ℕ) (lines : List ℕ) → n ≡ length lines → new ≡ old + cond (m && nat_lt l n) (get_or lines l 0) 0 →
    new ≡ old + cond m (get_or lines l 0) 0
all-lines true old new l n lines e a =
    let k = all-before l n (get_or lines l 0) (λ h. read-none lines l (omega (arith, h, e))) in
    omega (arith, a, k)
all-lines false old new l n lines e a = a

-- ---- module by module

pub no-module : (ms : List (Vec ℕ)) (s : Site) → 0 ≡ cond (nat_lt s.«module» 0) (table_ticks ms s) 0
no-module ms s = sym (none-before s.«module» (table_ticks ms s))

pub module-more : (ms : List (Vec ℕ)) (s : Site) (mid new n : ℕ) (lines : Vec ℕ) → n < length ms → lines ≡ get_or ms n lines →
    mid ≡ cond (nat_lt s.«module» n) (table_ticks ms s) 0 → new ≡ mid + cond (s.«module» == n) (get_or lines.items s.line 0) 0 →
    new ≡ cond (nat_lt s.«module» (n + 1)) (table_ticks ms s) 0
module-more ms s mid new n lines within is a b =
    let k = one-more s.«module» n (table_ticks ms s) (get_or lines.items s.line 0) at in
    omega (arith, a, b, k)
  where
    at : s.«module» ≡ n → get_or lines.items s.line 0 ≡ table_ticks ms s
    at e =
        ap (λ (m : Vec ℕ). get_or m.items s.line 0) is
        ∙ sym (ap (λ (ls : List ℕ). get_or ls s.line 0) (ap (λ (k : ℕ). lines_of ms k) e ∙ lines-at ms n lines within))

pub all-modules : (ms : List (Vec ℕ)) (s : Site) (new n : ℕ) → n ≡ length ms → new ≡ cond (nat_lt s.«module» n) (table_ticks ms s) 0 → new ≡ table_ticks ms s
all-modules ms s new n e a =
    a ∙ all-before s.«module» n (table_ticks ms s) (λ h. ap (λ (ls : List ℕ). get_or ls s.line 0) (lines-none ms s.«module» (omega (arith, h, e))))
