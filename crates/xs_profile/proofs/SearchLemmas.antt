-- The tick of a number, in one list of places after another.
use Rattle.std.proofs.Common.{◌≡◌, ◌<◌, ◌≤◌, ◌+◌, ◌-◌, ℕ, zero, suc, List, [], ◌∷◌, ◌++◌, Some, None, length, length-append, refl, sym, ap, subst, ◌∙◌, arith}
use Rattle.std.specs.Prelude.{Result, Ok, Err}
use Rattle.xs_trace.specs.Mark.{ticks}
use Rattle.xs_trace.specs.declared.item.Site.{Site}
use Rattle.xs_profile.specs.Counts.{site_at}
use Rattle.xs_profile.specs.Sites.{sites_of}
use Rattle.xs_profile.specs.steps.Search.{Passes}

-- the search goes on behind a list that has too few
pub goes-on : (n left : ℕ) (xs ys : List Site) → 0 < left → n ≡ length xs + left → site_at n (xs ++ ys) ≡ site_at left ys
goes-on n left [] ys some e = let k : n ≡ left = omega (arith, e) in ap (λ m. site_at m ys) k
goes-on zero left (x ∷ xs) ys some e = absurd (omega (arith, e, some))
goes-on (suc zero) left (x ∷ xs) ys some e = absurd (omega (arith, e, some))
goes-on (suc (suc n)) left (x ∷ xs) ys some e = goes-on (suc n) left xs ys some (omega (arith, e))

-- what is found in a list is found in it with another one behind
pub found-first : (n : ℕ) (xs ys : List Site) (s : Site) → site_at n xs ≡ Some s → site_at n (xs ++ ys) ≡ Some s
found-first zero xs ys s e = absurd (cc)
found-first (suc n) [] ys s e = absurd (cc)
found-first (suc zero) (x ∷ xs) ys s e = e
found-first (suc (suc n)) (x ∷ xs) ys s e = found-first (suc n) xs ys s e

pub none-left : (n : ℕ) → site_at n [] ≡ None
none-left zero = refl
none-left (suc n) = refl

-- one list after another
pub passes : (n : ℕ) (xs ys : List Site) (left : ℕ) (r : Result ℕ Site) → Passes n xs (Ok left) → Passes left ys r → Passes n (xs ++ ys) r
passes n xs ys left (Ok more) p q =
    let k = p.1 in
    let l = q.1 in
    let m = length-append xs ys in
    (q.0, omega (arith, k, l, m))
passes n xs ys left (Err s) p q = goes-on n left xs ys p.0 p.1 ∙ q

pub passes-first : (n : ℕ) (xs ys : List Site) (s : Site) → Passes n xs (Err s) → Passes n (xs ++ ys) (Err s)
passes-first n xs ys s e = found-first n xs ys s e

-- ticks at one place: the tick is one of them, or it comes after
pub at-place : (n count : ℕ) (p : Site) → 0 < n → n ≤ count → site_at n (sites_of {H = ℕ} (ticks p count [])) ≡ Some p
at-place zero count p some few = absurd (omega (arith, some))
at-place (suc n) zero p some few = absurd (omega (arith, few))
at-place (suc zero) (suc count) p some few = refl
at-place (suc (suc n)) (suc count) p some few = at-place (suc n) count p (omega arith) (omega (arith, few))

pub count-sites : (count : ℕ) (p : Site) → length (sites_of {H = ℕ} (ticks p count [])) ≡ count
count-sites zero p = refl
count-sites (suc count) p = let k = count-sites count p in omega (arith, k)

pub behind-place : (n count : ℕ) (p : Site) → count < n → Passes n (sites_of {H = ℕ} (ticks p count [])) (Ok (n - count))
behind-place n count p more = let k = count-sites count p in (omega (arith, more), omega (arith, k, more))

-- ---- the three runs of a segment, which are all of its ticks

pub three-first : (n : ℕ) (xs ys zs all : List Site) (s : Site) → xs ++ (ys ++ zs) ≡ all → Passes n xs (Err s) → Passes n all (Err s)
three-first n xs ys zs all s e p = ap (site_at n) (sym e) ∙ found-first n xs (ys ++ zs) s p

pub three-last : (n left : ℕ) (xs ys zs all : List Site) (s : Site) → xs ++ (ys ++ zs) ≡ all → Passes n xs (Ok left) → Passes left ys (Err s) →
    Passes n all (Err s)
three-last n left xs ys zs all s e p q =
    ap (site_at n) (sym e) ∙ goes-on n left xs (ys ++ zs) p.0 p.1 ∙ found-first left ys zs s q

pub three-own : (n left more : ℕ) (xs ys zs all : List Site) (r : Result ℕ Site) → xs ++ (ys ++ zs) ≡ all → Passes n xs (Ok left) → Passes left ys (Ok more) →
    Passes more zs r → Passes n all r
three-own n left more xs ys zs all r e p q t =
    subst (λ (us : List Site). Passes n us r) e (passes n xs (ys ++ zs) left r p (passes left ys zs more r q t))

-- ---- one segment after another

pub pass-segment : (n left rest : ℕ) (first : List Site) (before after all : List Site) → before ≡ first ++ after → site_at left before ≡ site_at n all →
    Passes left first (Ok rest) → site_at rest after ≡ site_at n all
pass-segment n left rest first before after all b e p =
    sym (goes-on left rest first after p.0 p.1) ∙ ap (site_at left) (sym b) ∙ e

pub found-segment : (n left : ℕ) (s : Site) (first before after all : List Site) → before ≡ first ++ after → site_at left before ≡ site_at n all →
    Passes left first (Err s) → Some s ≡ site_at n all
found-segment n left s first before after all b e p =
    sym (found-first left first after s p) ∙ ap (site_at left) (sym b) ∙ e

pub not-found : (n left : ℕ) (before all : List Site) → before ≡ [] → site_at left before ≡ site_at n all → None ≡ site_at n all
not-found n left before all b e = sym (none-left left) ∙ ap (site_at left) (sym b) ∙ e
