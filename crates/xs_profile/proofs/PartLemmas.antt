-- The ticks of parts, by those of places.
use Rattle.std.proofs.Common.{◌≡◌, ◌+◌, ◌||◌, ℕ, suc, Bool, true, false, cond, List, [], ◌∷◌, ◌++◌, Option, Some, None, length, filter, map}
use Rattle.std.proofs.Common.{refl, sym, ap, ◌∙◌, arith}
use Rattle.std.proofs.lemmas.Bool.{true≢false, false≢true}
use Rattle.std.specs.List.{list_any, sum_by}
use Rattle.std.proofs.lemmas.List.Sums.{sum_by-cons}
use Rattle.xs_trace.specs.declared.item.Site.{Site}
use Rattle.xs_profile.specs.Counts.{CountsHaveAllTicks, by_part, by_place, count_at, is_before, is_site, ordered, part_of, part_sites, placed, site_list, ticks_at}
use Rattle.xs_profile.specs.declared.count.Count.{Count}
use Rattle.xs_profile.specs.steps.Parts.{is_this, part_ticks, ticks_where}
use Rattle.xs_profile.specs.steps.Table.{AreCounts}
use Rattle.xs_profile.proofs.TickLemmas.{ticks-joined, ticks-more}
use Rattle.xs_profile.proofs.CountLemmas.{AreSites, SitesAfter, before-other, counts-are, either-way, ordered-none, ordered-sites, same-site, self-site, site-sym, sites-trans}

-- how many of some places a test holds of
abbrev pub places_where : (Site → Bool) → List Site → ℕ
places_where p sites = length (filter p sites)

-- ---- the ticks of a part are those of the places in it

one-part : (b : Bool) (t s : Site) (rest : List Site) (n : ℕ) → n ≡ length rest →
    length (cond b (t ∷ []) []) + n ≡ length (cond b (s ∷ rest) rest)
one-part true t s rest n e = omega (arith, e)
one-part false t s rest n e = omega (arith, e)

part-one : (start s : Site) (o : Option Site) (rest : List Site) (n : ℕ) → n ≡ length rest →
    ticks_at (site_list o) start + n ≡ length (cond (is_this start o) (s ∷ rest) rest)
part-one start s None rest n e = omega (arith, e)
part-one start s (Some t) rest n e = one-part (is_site start t) t s rest n e

pub part-is : (starts : List Site) (start : Site) (sites : List Site) →
    ticks_at (part_sites starts sites) start ≡ places_where (λ s. is_this start (part_of starts s)) sites
part-is starts start [] = refl
part-is starts start (s ∷ sites) =
    ticks-joined start (site_list (part_of starts s)) (part_sites starts sites)
    ∙ part-one start s (part_of starts s) (filter (λ x. is_this start (part_of starts x)) sites) (ticks_at (part_sites starts sites) start)
    (part-is starts start sites)

-- ---- the ticks of counts by places that a test holds of are as many as the places

not-after : (t : Site) (ts : List Site) → SitesAfter t ts → list_any (is_site t) ts ≡ false
not-after t [] h = refl
not-after t (u ∷ ts) h = ap (λ (b : Bool). b || list_any (is_site t) ts) (before-other t u h.0) ∙ not-after t ts h.1

same-test : (c d : Bool) (less more rest new : ℕ) → d ≡ c → more ≡ 1 + less → new ≡ rest + 0 → cond c more 0 + new ≡ (cond c less 0 + rest) + cond d 1 0
same-test true true less more rest new i e f = omega (arith, e, f)
same-test false false less more rest new i e f = omega (arith, f)
same-test true false less more rest new i e f = absurd (false≢true i)
same-test false true less more rest new i e f = absurd (true≢false i)

other-test : (c any d : Bool) (less more rest new : ℕ) → more ≡ 0 + less → new ≡ rest + cond any (cond d 1 0) 0 →
    cond c more 0 + new ≡ (cond c less 0 + rest) + cond any (cond d 1 0) 0
other-test true any d less more rest new e f = omega (arith, e, f)
other-test false any d less more rest new e f = omega (arith, f)

one-counted : (b a c d any : Bool) (less more rest new : ℕ) → a ≡ b → more ≡ cond a 1 0 + less → new ≡ rest + cond any (cond d 1 0) 0 →
    (b ≡ true → any ≡ false) → (b ≡ true → d ≡ c) → cond c more 0 + new ≡ (cond c less 0 + rest) + cond (b || any) (cond d 1 0) 0
one-counted true a c d any less more rest new i e f none same =
    same-test c d less more rest new (same refl) (e ∙ ap (λ (y : Bool). cond y 1 0 + less) i)
    (f ∙ ap (λ (y : Bool). rest + cond y (cond d 1 0) 0) (none refl))
one-counted false a c d any less more rest new i e f none same =
    other-test c any d less more rest new (e ∙ ap (λ (y : Bool). cond y 1 0 + less) i) f

-- a place more in the list of all: one more where it is among those in order, and the test holds of it
more-ticks : (p : Site → Bool) (x : Site) (sites ts : List Site) → AreSites ts →
    ticks_where p (map (count_at (x ∷ sites)) ts) ≡ ticks_where p (map (count_at sites) ts) + cond (list_any (is_site x) ts) (cond (p x) 1 0) 0
more-ticks p x sites [] h = refl
more-ticks p x sites (t ∷ ts) h =
    one-counted (is_site x t) (is_site t x) (p t) (p x) (list_any (is_site x) ts) (ticks_at sites t) (ticks_at (x ∷ sites) t)
    (ticks_where p (map (count_at sites) ts)) (ticks_where p (map (count_at (x ∷ sites)) ts)) (site-sym t x) (ticks-more t x sites)
    (more-ticks p x sites ts h.1)
    (λ e. ap (λ (y : Site). list_any (is_site y) ts) (same-site x t e) ∙ not-after t ts h.0)
    (λ e. ap p (same-site x t e))

-- what is put among places in order adds its ticks, where it is not there yet
placed-ticks : (p : Site → Bool) (x : Site) (sites ts : List Site) → AreSites ts →
    ticks_where p (map (count_at sites) (placed x ts))
    ≡ ticks_where p (map (count_at sites) ts) + cond (list_any (is_site x) ts) 0 (cond (p x) (ticks_at sites x) 0)
placed-ticks p x sites [] h = omega arith
placed-ticks p x sites (t ∷ ts) h = by (is_before x t) (is_before t x) refl refl (placed-ticks p x sites ts h.1)
  where
    by : (a b : Bool) → is_before x t ≡ a → is_before t x ≡ b →
        ticks_where p (map (count_at sites) (placed x ts))
        ≡ ticks_where p (map (count_at sites) ts) + cond (list_any (is_site x) ts) 0 (cond (p x) (ticks_at sites x) 0) →
        ticks_where p (map (count_at sites) (cond a (x ∷ t ∷ ts) (cond b (t ∷ placed x ts) (t ∷ ts))))
        ≡ ticks_where p (map (count_at sites) (t ∷ ts)) + cond (is_site x t || list_any (is_site x) ts) 0 (cond (p x) (ticks_at sites x) 0)
    by true b a-is b-is f =
        let none : (is_site x t || list_any (is_site x) ts) ≡ false = not-after x (t ∷ ts) (a-is, sites-trans x t ts a-is h.0) in
        let k = ap (λ (y : Bool). cond y 0 (cond (p x) (ticks_at sites x) 0)) none in
        omega (arith, k)
    by false true a-is b-is f =
        let other : is_site x t ≡ false = site-sym x t ∙ before-other t x b-is in
        let k = ap (λ (y : Bool). cond (y || list_any (is_site x) ts) 0 (cond (p x) (ticks_at sites x) 0)) other in
        omega (arith, k, f)
    by false false a-is b-is f =
        let same : is_site x t ≡ true = ap (λ (y : Site). is_site y t) (either-way x t a-is b-is) ∙ self-site t in
        let k = ap (λ (y : Bool). cond (y || list_any (is_site x) ts) 0 (cond (p x) (ticks_at sites x) 0)) same in
        omega (arith, k)

all-one : (d any : Bool) (x : Site) (count rest : ℕ) (us : List Site) → (any ≡ false → count ≡ 1) → rest ≡ length us →
    (rest + cond any (cond d 1 0) 0) + cond any 0 (cond d count 0) ≡ length (cond d (x ∷ us) us)
all-one true true x count rest us e f = omega (arith, f)
all-one true false x count rest us e f = let k = e refl in omega (arith, f, k)
all-one false true x count rest us e f = omega (arith, f)
all-one false false x count rest us e f = omega (arith, f)

-- Over all places: as many as the test holds of.
pub sum-is : (p : Site → Bool) (sites : List Site) → ticks_where p (by_place sites) ≡ places_where p sites
sum-is p [] = refl
sum-is p (x ∷ sites) =
    placed-ticks p x (x ∷ sites) (ordered sites) (ordered-sites sites)
    ∙ ap (λ (n : ℕ). n + cond (list_any (is_site x) (ordered sites)) 0 (cond (p x) (ticks_at (x ∷ sites) x) 0))
    (more-ticks p x sites (ordered sites) (ordered-sites sites))
    ∙ all-one (p x) (list_any (is_site x) (ordered sites)) x (ticks_at (x ∷ sites) x) (ticks_where p (by_place sites)) (filter p sites) alone
    (sum-is p sites)
  where
    alone : list_any (is_site x) (ordered sites) ≡ false → ticks_at (x ∷ sites) x ≡ 1
    alone e =
        let k = ticks-more x x sites in
        let l = ordered-none x sites e in
        let m : ◌≡◌ {A = ℕ} (cond (is_site x x) 1 0) 1 = ap (λ (b : Bool). cond b 1 0) (self-site x) in
        omega (arith, k, l, m)

-- so they have all ticks together
all-ticks : (cs : List Count) → sum_by (λ (c : Count). c.ticks) cs ≡ ticks_where (λ (s : Site). true) cs
all-ticks [] = refl
all-ticks (c ∷ cs) = let k = sum_by-cons (λ (d : Count). d.ticks) c cs in let l = all-ticks cs in omega (arith, k, l)

all-places : (sites : List Site) → places_where (λ (s : Site). true) sites ≡ length sites
all-places [] = refl
all-places (s ∷ sites) = ap (λ (n : ℕ). suc n) (all-places sites)

pub all-counted : CountsHaveAllTicks
all-counted sites = all-ticks (by_place sites) ∙ sum-is (λ (s : Site). true) sites ∙ all-places sites

-- ---- the parts

where-joined : (p : Site → Bool) (cs ds : List Count) → ticks_where p (cs ++ ds) ≡ ticks_where p cs + ticks_where p ds
where-joined p [] ds = omega arith
where-joined p (c ∷ cs) ds = let k = where-joined p cs ds in omega (arith, k)

pub part-more : (starts : List Site) (cs : List Count) (c : Count) (start : Site) (mid new : ℕ) → mid ≡ part_ticks starts cs start →
    new ≡ mid + part_ticks starts (c ∷ []) start → new ≡ part_ticks starts (cs ++ c ∷ []) start
part-more starts cs c start mid new a b =
    let k = where-joined (λ s. is_this start (part_of starts s)) cs (c ∷ []) in
    omega (arith, a, b, k)

-- a place in no part, and one in a part
pub no-part : (starts : List Site) (c : Count) (start : Site) (old : ℕ) → part_of starts c.site ≡ None → old ≡ old + part_ticks starts (c ∷ []) start
no-part starts c start old e =
    let k : part_ticks starts (c ∷ []) start ≡ 0 = ap (λ (o : Option Site). cond (is_this start o) c.ticks 0 + 0) e in
    omega (arith, k)

pub one-in-part : (starts : List Site) (c : Count) (start in_part : Site) (old new : ℕ) → part_of starts c.site ≡ Some in_part →
    new ≡ old + cond (is_site start in_part) c.ticks 0 → new ≡ old + part_ticks starts (c ∷ []) start
one-in-part starts c start in_part old new e a =
    let k : part_ticks starts (c ∷ []) start ≡ cond (is_site start in_part) c.ticks 0 + 0 =
    ap (λ (o : Option Site). cond (is_this start o) c.ticks 0 + 0) e in
    omega (arith, a, k)

-- So the counts of parts are those by parts.
pub parts-are : (starts sites among : List Site) (places parts : List Count) → among ≡ ordered starts → places ≡ by_place sites →
    AreCounts (part_ticks among places) parts → parts ≡ by_part starts sites
parts-are starts sites among places parts a b c =
    counts-are (part_ticks among places) (part_sites (ordered starts) sites) parts
    (λ s.
    ap (λ (ss : List Site). part_ticks ss places s) a ∙ ap (λ (cs : List Count). part_ticks (ordered starts) cs s) b
    ∙ sum-is (λ x. is_this s (part_of (ordered starts) x)) sites ∙ sym (part-is (ordered starts) s sites))
    c
