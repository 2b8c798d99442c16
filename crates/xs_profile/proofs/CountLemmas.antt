-- Counts in order: one list has so many ticks at each place, and it is the one by places.
use Rattle.std.proofs.Common.{◌≡◌, ◌<◌, ◌+◌, ◌==◌, ◌||◌, ◌⊎◌, inl, inr, ℕ, Bool, true, false, cond, List, [], ◌∷◌, ◌++◌, map}
use Rattle.std.proofs.Common.{◌&&◌, refl, sym, ap, ◌∙◌, subst, arith, nat_lt}
use Rattle.std.proofs.lemmas.Bool.{true≢false, false≢true, eqb-true, eqb-false, eq-eqb, ltb-true, ltb-false, lt-ltb}
use Rattle.std.specs.List.{list_any}
use Rattle.xs_trace.specs.declared.item.Site.{Site}
use Rattle.xs_profile.specs.Counts.{by_place, count_at, is_before, is_site, ordered, placed, ticks_at}
use Rattle.xs_profile.specs.declared.count.Count.{Count}
use Rattle.xs_profile.specs.steps.Table.{AreAfter, AreBefore, AreCounts, AreInOrder, sites_among, ticks_of}
use Rattle.xs_profile.proofs.TickLemmas.{ticks-more}

-- a place before another, by numbers
abbrev pub Less : Site → Site → Type 0
Less s t = (s.«module» < t.«module») ⊎ ((s.«module» ≡ t.«module») × (s.line < t.line))

pub less : (s t : Site) → is_before s t ≡ true → Less s t
less s t = by (s.«module» == t.«module») refl
  where
    by : (b : Bool) → (s.«module» == t.«module») ≡ b → cond b (nat_lt s.line t.line) (nat_lt s.«module» t.«module») ≡ true → Less s t
    by true m e = inr (eqb-true s.«module» t.«module» m, ltb-true s.line t.line e)
    by false m e = inl (ltb-true s.«module» t.«module» e)

pub is-before : (s t : Site) → Less s t → is_before s t ≡ true
is-before s t = by (s.«module» == t.«module») refl
  where
    by : (b : Bool) → (s.«module» == t.«module») ≡ b → Less s t → cond b (nat_lt s.line t.line) (nat_lt s.«module» t.«module») ≡ true
    by true m (inl h) = let k = eqb-true s.«module» t.«module» m in absurd (omega (arith, h, k))
    by true m (inr h) = lt-ltb s.line t.line h.1
    by false m (inl h) = lt-ltb s.«module» t.«module» h
    by false m (inr h) = absurd (eqb-false s.«module» t.«module» m h.0)

pub before-trans : (s t u : Site) → is_before s t ≡ true → is_before t u ≡ true → is_before s u ≡ true
before-trans s t u a b = is-before s u (both (less s t a) (less t u b))
  where
    both : Less s t → Less t u → Less s u
    both (inl h) (inl k) = inl (omega (arith, h, k))
    both (inl h) (inr k) = let e = k.0 in inl (omega (arith, h, e))
    both (inr h) (inl k) = let e = h.0 in inl (omega (arith, e, k))
    both (inr h) (inr k) = let a = h.0 in let b = h.1 in let c = k.0 in let d = k.1 in inr (omega (arith, a, c), omega (arith, b, d))

pub self-site : (s : Site) → is_site s s ≡ true
self-site s = by (s.«module» == s.«module») (s.line == s.line) (eq-eqb s.«module» s.«module» refl) (eq-eqb s.line s.line refl)
  where
    by : (b c : Bool) → b ≡ true → c ≡ true → (b && c) ≡ true
    by true c e f = f
    by false c e f = e

pub same-site : (s t : Site) → is_site s t ≡ true → s ≡ t
same-site s t = by (s.«module» == t.«module») (s.line == t.line) refl refl
  where
    by : (b c : Bool) → (s.«module» == t.«module») ≡ b → (s.line == t.line) ≡ c → (b && c) ≡ true → s ≡ t
    by true true m l e =
        let in_module : ℕ → Site = λ n. record { «module» = n; line = s.line } in
        let at_line : ℕ → Site = λ n. record { «module» = t.«module»; line = n } in
        ap in_module (eqb-true s.«module» t.«module» m) ∙ ap at_line (eqb-true s.line t.line l)
    by true false m l e = absurd (false≢true e)
    by false c m l e = absurd (false≢true e)

-- a place before another is another one
pub before-other : (s t : Site) → is_before s t ≡ true → is_site s t ≡ false
before-other s t h = by (is_site s t) refl
  where
    at-self : Less s s → ⊥
    at-self (inl k) = omega (arith, k)
    at-self (inr k) = let l = k.1 in omega (arith, l)

    by : (b : Bool) → is_site s t ≡ b → b ≡ false
    by true e = absurd (at-self (less s s (subst (λ (x : Site). is_before s x ≡ true) (sym (same-site s t e)) h)))
    by false e = refl

pub site-sym : (s t : Site) → is_site s t ≡ is_site t s
site-sym s t = by (is_site s t) (is_site t s) refl refl
  where
    by : (a b : Bool) → is_site s t ≡ a → is_site t s ≡ b → a ≡ b
    by true true e f = refl
    by false false e f = refl
    by true false e f = absurd (true≢false (sym (self-site t) ∙ ap (λ (x : Site). is_site t x) (sym (same-site s t e)) ∙ f))
    by false true e f = absurd (true≢false (sym (self-site s) ∙ ap (λ (x : Site). is_site s x) (sym (same-site t s f)) ∙ e))

-- of two places one is before the other, or they are one
pub either-way : (s t : Site) → is_before s t ≡ false → is_before t s ≡ false → s ≡ t
either-way s t a b = by (s.«module» == t.«module») (t.«module» == s.«module») refl refl a b
  where
    by : (m n : Bool) → (s.«module» == t.«module») ≡ m → (t.«module» == s.«module») ≡ n →
        cond m (nat_lt s.line t.line) (nat_lt s.«module» t.«module») ≡ false →
        cond n (nat_lt t.line s.line) (nat_lt t.«module» s.«module») ≡ false → s ≡ t
    by true true m n a b =
        let k = ltb-false s.line t.line a in
        let l = ltb-false t.line s.line b in
        let j : s.line ≡ t.line = omega (arith, k, l) in
        let in_module : ℕ → Site = λ x. record { «module» = x; line = s.line } in
        let at_line : ℕ → Site = λ x. record { «module» = t.«module»; line = x } in
        ap in_module (eqb-true s.«module» t.«module» m) ∙ ap at_line j
    by true false m n a b = absurd (eqb-false t.«module» s.«module» n (sym (eqb-true s.«module» t.«module» m)))
    by false true m n a b = absurd (eqb-false s.«module» t.«module» m (sym (eqb-true t.«module» s.«module» n)))
    by false false m n a b =
        let k = ltb-false s.«module» t.«module» a in
        let l = ltb-false t.«module» s.«module» b in
        absurd (eqb-false s.«module» t.«module» m (omega (arith, k, l)))

pub after-trans : (s t : Site) (cs : List Count) → is_before s t ≡ true → AreAfter t cs → AreAfter s cs
after-trans s t [] h k = tt
after-trans s t (c ∷ cs) h k = (before-trans s t c.site h k.0, after-trans s t cs h k.1)

-- counts after a place have no tick there
pub none-after : (s : Site) (cs : List Count) → AreAfter s cs → ticks_of cs s ≡ 0
none-after s [] h = refl
none-after s (c ∷ cs) h = ap (λ (b : Bool). cond b c.ticks (ticks_of cs s)) (before-other s c.site h.0) ∙ none-after s cs h.1

at-first : (c : Count) (cs : List Count) → ticks_of (c ∷ cs) c.site ≡ c.ticks
at-first c cs = ap (λ (b : Bool). cond b c.ticks (ticks_of cs c.site)) (self-site c.site)

-- Counts in order with the same ticks at each place are the same.
pub same-counts : (cs ds : List Count) → AreInOrder cs → AreInOrder ds → ((s : Site) → ticks_of cs s ≡ ticks_of ds s) → cs ≡ ds
same-counts [] [] a b e = refl
same-counts [] (d ∷ ds) a b e = let k = e d.site ∙ at-first d ds in let l = b.0 in absurd (omega (arith, k, l))
same-counts (c ∷ cs) [] a b e = let k = sym (at-first c cs) ∙ e c.site in let l = a.0 in absurd (omega (arith, k, l))
same-counts (c ∷ cs) (d ∷ ds) a b e =
    by (is_before c.site d.site) (is_before d.site c.site) refl refl (λ f. same-counts cs ds a.1.1 b.1.1 f)
  where
    first : is_before c.site d.site ≡ true → ⊥
    first h =
        let k = sym (at-first c cs) ∙ e c.site ∙ none-after c.site (d ∷ ds) (h, after-trans c.site d.site ds h b.1.0) in
        let l = a.0 in omega (arith, k, l)

    second : is_before d.site c.site ≡ true → ⊥
    second h =
        let k = sym (at-first d ds) ∙ sym (e d.site) ∙ none-after d.site (c ∷ cs) (h, after-trans d.site c.site cs h a.1.0) in
        let l = b.0 in omega (arith, k, l)

    rest-at : c.site ≡ d.site → (s : Site) (t : Bool) → is_site s c.site ≡ t → ticks_of cs s ≡ ticks_of ds s
    rest-at i s true h =
        let j = same-site s c.site h in
        ap (ticks_of cs) j ∙ none-after c.site cs a.1.0 ∙ sym (ap (ticks_of ds) (j ∙ i) ∙ none-after d.site ds b.1.0)
    rest-at i s false h =
        ap (λ (t : Bool). cond t c.ticks (ticks_of cs s)) (sym h) ∙ e s ∙ ap (λ (x : Site). cond (is_site s x) d.ticks (ticks_of ds s)) (sym i)
        ∙ ap (λ (t : Bool). cond t d.ticks (ticks_of ds s)) h

    whole : (((s : Site) → ticks_of cs s ≡ ticks_of ds s) → cs ≡ ds) → c.site ≡ d.site → (c ∷ cs) ≡ (d ∷ ds)
    whole rest i =
        let n : c.ticks ≡ d.ticks = sym (at-first c cs) ∙ e c.site ∙ ap (ticks_of (d ∷ ds)) i ∙ at-first d ds in
        let at_site : Site → List Count = λ p. record { site = p; ticks = c.ticks } ∷ cs in
        let with_ticks : ℕ → List Count = λ k. record { site = d.site; ticks = k } ∷ cs in
        ap at_site i ∙ ap with_ticks n ∙ ap (λ (xs : List Count). d ∷ xs) (rest (λ s. rest-at i s (is_site s c.site) refl))

    by : (x y : Bool) → is_before c.site d.site ≡ x → is_before d.site c.site ≡ y → (((s : Site) → ticks_of cs s ≡ ticks_of ds s) → cs ≡ ds) →
        (c ∷ cs) ≡ (d ∷ ds)
    by true y x-is y-is rest = absurd (first x-is)
    by false true x-is y-is rest = absurd (second y-is)
    by false false x-is y-is rest = whole rest (either-way c.site d.site x-is y-is)

-- ---- one count more

push-after : (s : Site) (cs : List Count) (c : Count) → AreAfter s cs → is_before s c.site ≡ true → AreAfter s (cs ++ c ∷ [])
push-after s [] c a h = (h, tt)
push-after s (d ∷ cs) c a h = (a.0, push-after s cs c a.1 h)

pub push-order : (cs : List Count) (c : Count) → AreInOrder cs → AreBefore cs c.site → 0 < c.ticks → AreInOrder (cs ++ c ∷ [])
push-order [] c a b h = (h, (tt, tt))
push-order (d ∷ cs) c a b h = (a.0, (push-after d.site cs c a.1.0 b.0, push-order cs c a.1.1 b.1 h))

-- counts before a place are before a later one
pub moved : (cs : List Count) (s t : Site) → AreBefore cs s → is_before s t ≡ true → AreBefore cs t
moved [] s t a h = tt
moved (c ∷ cs) s t a h = (before-trans c.site s t a.0 h, moved cs s t a.1 h)

pub push-before : (cs : List Count) (c : Count) (t : Site) → AreBefore cs c.site → is_before c.site t ≡ true → AreBefore (cs ++ c ∷ []) t
push-before [] c t a h = (h, tt)
push-before (d ∷ cs) c t a h = (before-trans d.site c.site t a.0 h, push-before cs c t a.1 h)

pub next-line : (s : Site) → is_before s (record { «module» = s.«module»; line = s.line + 1 }) ≡ true
next-line s = is-before s (record { «module» = s.«module»; line = s.line + 1 }) (inr (refl, omega arith))

pub next-module : (m line n : ℕ) → m < n → is_before (record { «module» = m; line = line }) (record { «module» = n; line = 0 }) ≡ true
next-module m line n h = is-before (record { «module» = m; line = line }) (record { «module» = n; line = 0 }) (inl h)

pub push-ticks : (cs : List Count) (c : Count) (s : Site) → AreBefore cs c.site → ticks_of (cs ++ c ∷ []) s ≡ ticks_of cs s + cond (is_site s c.site) c.ticks 0
push-ticks [] c s a = omega arith
push-ticks (d ∷ cs) c s a = by (is_site s d.site) refl (push-ticks cs c s a.1)
  where
    by : (b : Bool) → is_site s d.site ≡ b → ticks_of (cs ++ c ∷ []) s ≡ ticks_of cs s + cond (is_site s c.site) c.ticks 0 →
        cond b d.ticks (ticks_of (cs ++ c ∷ []) s) ≡ cond b d.ticks (ticks_of cs s) + cond (is_site s c.site) c.ticks 0
    by true b-is e =
        let other : is_site s c.site ≡ false =
        ap (λ (x : Site). is_site x c.site) (same-site s d.site b-is) ∙ before-other d.site c.site a.0 in
        let k : cond (is_site s c.site) c.ticks 0 ≡ 0 = ap (λ (t : Bool). cond t c.ticks 0) other in
        omega (arith, k)
    by false b-is e = e

-- without ticks none is added
pub nothing-more : (n ticks : ℕ) (b : Bool) → ticks ≡ 0 → n ≡ n + cond b ticks 0
nothing-more n ticks true e = omega (arith, e)
nothing-more n ticks false e = omega arith

-- places in order, each once
abbrev pub SitesAfter : Site → List Site → Type 0
SitesAfter s [] = Unit {0}
SitesAfter s (t ∷ ts) = (is_before s t ≡ true) × SitesAfter s ts

abbrev pub AreSites : List Site → Type 0
AreSites [] = Unit {0}
AreSites (s ∷ ts) = SitesAfter s ts × AreSites ts

pub sites-trans : (s t : Site) (ts : List Site) → is_before s t ≡ true → SitesAfter t ts → SitesAfter s ts
sites-trans s t [] h k = tt
sites-trans s t (u ∷ ts) h k = (before-trans s t u h k.0, sites-trans s t ts h k.1)

placed-after : (a s : Site) (ts : List Site) → is_before a s ≡ true → SitesAfter a ts → SitesAfter a (placed s ts)
placed-after a s [] h k = (h, tt)
placed-after a s (t ∷ ts) h k = by (is_before s t) (is_before t s) (placed-after a s ts h k.1)
  where
    by : (x y : Bool) → SitesAfter a (placed s ts) → SitesAfter a (cond x (s ∷ t ∷ ts) (cond y (t ∷ placed s ts) (t ∷ ts)))
    by true y r = (h, k)
    by false true r = (k.0, r)
    by false false r = k

pub placed-sites : (s : Site) (ts : List Site) → AreSites ts → AreSites (placed s ts)
placed-sites s [] h = (tt, tt)
placed-sites s (t ∷ ts) h = by (is_before s t) (is_before t s) refl refl (placed-sites s ts h.1)
  where
    by : (x y : Bool) → is_before s t ≡ x → is_before t s ≡ y → AreSites (placed s ts) →
        AreSites (cond x (s ∷ t ∷ ts) (cond y (t ∷ placed s ts) (t ∷ ts)))
    by true y x-is y-is r = ((x-is, sites-trans s t ts x-is h.0), h)
    by false true x-is y-is r = (placed-after t s ts y-is h.0, r)
    by false false x-is y-is r = h

pub ordered-sites : (sites : List Site) → AreSites (ordered sites)
ordered-sites [] = tt
ordered-sites (s ∷ sites) = placed-sites s (ordered sites) (ordered-sites sites)

-- a place is among those where one is put, if it is that one or among the others
pub placed-has : (s t : Site) (ts : List Site) → list_any (is_site s) (placed t ts) ≡ (is_site s t || list_any (is_site s) ts)
placed-has s t [] = refl
placed-has s t (u ∷ ts) = by (is_before t u) (is_before u t) refl refl (placed-has s t ts)
  where
    swap : (a b c : Bool) → (a || (b || c)) ≡ (b || (a || c))
    swap true true c = refl
    swap true false c = refl
    swap false true c = refl
    swap false false c = refl

    absorbed : (a c : Bool) → (a || c) ≡ (a || (a || c))
    absorbed true c = refl
    absorbed false c = refl

    by : (x y : Bool) → is_before t u ≡ x → is_before u t ≡ y → list_any (is_site s) (placed t ts) ≡ (is_site s t || list_any (is_site s) ts) →
        list_any (is_site s) (cond x (t ∷ u ∷ ts) (cond y (u ∷ placed t ts) (u ∷ ts))) ≡ (is_site s t || (is_site s u || list_any (is_site s) ts))
    by true y x-is y-is r = refl
    by false true x-is y-is r =
        ap (λ (b : Bool). is_site s u || b) r ∙ swap (is_site s u) (is_site s t) (list_any (is_site s) ts)
    by false false x-is y-is r =
        absorbed (is_site s u) (list_any (is_site s) ts)
        ∙ ap (λ (x : Site). is_site s x || (is_site s u || list_any (is_site s) ts)) (sym (either-way t u x-is y-is))

-- those of the ticks in order: where a place is not among them, it has no tick, and where it is, it has one
pub ordered-none : (s : Site) (sites : List Site) → list_any (is_site s) (ordered sites) ≡ false → ticks_at sites s ≡ 0
ordered-none s [] e = refl
ordered-none s (t ∷ sites) e =
    ticks-more s t sites
    ∙ by (is_site s t) (list_any (is_site s) (ordered sites)) refl refl (sym (placed-has s t (ordered sites)) ∙ e) (λ f. ordered-none s sites f)
  where
    by : (b c : Bool) → is_site s t ≡ b → list_any (is_site s) (ordered sites) ≡ c → (b || c) ≡ false →
        (list_any (is_site s) (ordered sites) ≡ false → ticks_at sites s ≡ 0) → cond b 1 0 + ticks_at sites s ≡ 0
    by true c b-is c-is f r = absurd (true≢false f)
    by false true b-is c-is f r = absurd (true≢false f)
    by false false b-is c-is f r = let k = r c-is in omega (arith, k)

pub ordered-some : (s : Site) (sites : List Site) → list_any (is_site s) (ordered sites) ≡ true → 0 < ticks_at sites s
ordered-some s [] e = absurd (false≢true e)
ordered-some s (t ∷ sites) e =
    let k = ticks-more s t sites in
    let l = by (is_site s t) (list_any (is_site s) (ordered sites)) refl refl (sym (placed-has s t (ordered sites)) ∙ e) (λ f. ordered-some s sites f) in
    omega (arith, k, l)
  where
    by : (b c : Bool) → is_site s t ≡ b → list_any (is_site s) (ordered sites) ≡ c → (b || c) ≡ true →
        (list_any (is_site s) (ordered sites) ≡ true → 0 < ticks_at sites s) → 0 < cond b 1 0 + ticks_at sites s
    by true c b-is c-is f r = omega arith
    by false true b-is c-is f r = let k = r c-is in omega (arith, k)
    by false false b-is c-is f r = absurd (false≢true f)

mapped-after : (sites : List Site) (s : Site) (ts : List Site) → SitesAfter s ts → AreAfter s (map (count_at sites) ts)
mapped-after sites s [] h = tt
mapped-after sites s (t ∷ ts) h = (h.0, mapped-after sites s ts h.1)

mapped-order : (sites ts : List Site) → AreSites ts → ((s : Site) → list_any (is_site s) ts ≡ true → 0 < ticks_at sites s) →
    AreInOrder (map (count_at sites) ts)
mapped-order sites [] h k = tt
mapped-order sites (t ∷ ts) h k = (
  k t (ap (λ (b : Bool). b || list_any (is_site t) ts) (self-site t)),
  (mapped-after sites t ts h.0, mapped-order sites ts h.1 (λ s e. k s (ap (λ (b : Bool). is_site s t || b) e ∙ or-true (is_site s t)))),
)
  where
    or-true : (b : Bool) → (b || true) ≡ true
    or-true true = refl
    or-true false = refl

mapped-ticks : (sites : List Site) (s : Site) (ts : List Site) →
    ticks_of (map (count_at sites) ts) s ≡ cond (list_any (is_site s) ts) (ticks_at sites s) 0
mapped-ticks sites s [] = refl
mapped-ticks sites s (t ∷ ts) = by (is_site s t) refl (mapped-ticks sites s ts)
  where
    by : (b : Bool) → is_site s t ≡ b → ticks_of (map (count_at sites) ts) s ≡ cond (list_any (is_site s) ts) (ticks_at sites s) 0 →
        cond b (ticks_at sites t) (ticks_of (map (count_at sites) ts) s) ≡ cond (b || list_any (is_site s) ts) (ticks_at sites s) 0
    by true b-is e = ap (ticks_at sites) (sym (same-site s t b-is))
    by false b-is e = e

-- Those by places are in order, and have so many ticks at each place.
pub by-place-are : (sites : List Site) → AreCounts (ticks_at sites) (by_place sites)
by-place-are sites = record {
  in_order = mapped-order sites (ordered sites) (ordered-sites sites) (λ s e. ordered-some s sites e);
  each = λ s. mapped-ticks sites s (ordered sites) ∙ by s (list_any (is_site s) (ordered sites)) refl;
}
  where
    by : (s : Site) (b : Bool) → list_any (is_site s) (ordered sites) ≡ b → cond b (ticks_at sites s) 0 ≡ ticks_at sites s
    by s true e = refl
    by s false e = sym (ordered-none s sites e)

-- So counts with so many ticks at each place are those by places.
pub counts-are : (at : Site → ℕ) (sites : List Site) (cs : List Count) → ((s : Site) → at s ≡ ticks_at sites s) → AreCounts at cs → cs ≡ by_place sites
counts-are at sites cs e a =
    let b = by-place-are sites in
    same-counts cs (by_place sites) a.in_order b.in_order (λ s. a.each s ∙ e s ∙ sym (b.each s))

-- their places are those in order
pub places-same : (sites ts : List Site) → sites_among (map (count_at sites) ts) ≡ ts
places-same sites [] = refl
places-same sites (t ∷ ts) = ap (λ (us : List Site). t ∷ us) (places-same sites ts)

pub starts-are : (at : Site → ℕ) (starts : List Site) (cs : List Count) → ((s : Site) → at s ≡ ticks_at starts s) → AreCounts at cs →
    sites_among cs ≡ ordered starts
starts-are at starts cs e a = ap sites_among (counts-are at starts cs e a) ∙ places-same starts (ordered starts)

pub counts-same : (at others : Site → ℕ) (cs : List Count) → ((s : Site) → at s ≡ others s) → AreCounts at cs → AreCounts others cs
counts-same at others cs e a = record { in_order = a.in_order; each = λ s. a.each s ∙ e s }
