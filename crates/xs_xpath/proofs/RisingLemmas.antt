-- Pairs whose prefixes rise: the half of them where a prefix is.
use Rattle.std.proofs.Common.{◌≡◌, ℕ, zero, suc, ◌<◌, Bool, true, false, List, [], ◌∷◌, Some, None, length, get_or, take, drop, refl, sym, ◌∙◌, ap, arith}
use Rattle.std.specs.Prelude.{◌&&◌, if◌then◌else◌}
use Rattle.std.specs.Cmp.{IsTotalOrder}
use Rattle.std.specs.Cmp.Lexicographic.{slice_cmp}
use Rattle.std.specs.Ordering.{is_lt, nat_cmp}
use Rattle.std.specs.declared.cmp.Ordering.{Ordering}
use Rattle.std.specs.declared.cmp.Ordering.TheVariants.{Less, Equal, Greater}
use Rattle.std.specs.Str.{bytes_eq}
use Rattle.std.proofs.lemmas.Bool.{true≢false}
use Rattle.std.proofs.lemmas.Cmp.{nat_list_cmp_total, tied_itself}
use Rattle.std.proofs.lemmas.Slice.Eq.{bytes_eq-Decides}
use Rattle.xs_xpath.specs.Names.{uri_in}
use Rattle.xs_xpath.specs.steps.Rising.{is_below, rises, rises_above}

-- ---- texts below others
less : (o : Ordering) → is_lt o ≡ true → o ≡ Less
less Less h = refl
less Equal h = absurd (true≢false (sym h))
less Greater h = absurd (true≢false (sym h))

below-itself : (a : List ℕ) → is_below a a ≡ false
below-itself a = ap is_lt (tied_itself nat_list_cmp_total a)

below-both : (a b c : List ℕ) → is_below a b ≡ true → is_below b c ≡ true → is_below a c ≡ true
below-both a b c p q =
    let order : IsTotalOrder (slice_cmp nat_cmp) = nat_list_cmp_total in
    ap is_lt (order.trans a b c (less (slice_cmp nat_cmp a b) p) (less (slice_cmp nat_cmp b c) q))

-- a text that is below x is none that is not
apart-by : (a b x : List ℕ) (t : Bool) → bytes_eq a b ≡ t → is_below a x ≡ true → is_below b x ≡ false → bytes_eq a b ≡ false
apart-by a b x false is low high = is
apart-by a b x true is low high = absurd (true≢false (sym low ∙ ap (λ y. is_below y x) ((bytes_eq-Decides a b).0 is) ∙ high))

apart : (a b x : List ℕ) → is_below a x ≡ true → is_below b x ≡ false → bytes_eq a b ≡ false
apart a b x low high = apart-by a b x (bytes_eq a b) refl low high

-- nor is it that which it is below
above-by : (a b : List ℕ) (t : Bool) → bytes_eq b a ≡ t → is_below a b ≡ true → bytes_eq b a ≡ false
above-by a b false is low = is
above-by a b true is low = absurd (true≢false (sym low ∙ ap (is_below a) ((bytes_eq-Decides b a).0 is) ∙ below-itself a))

above : (a b : List ℕ) → is_below a b ≡ true → bytes_eq b a ≡ false
above a b low = above-by a b (bytes_eq b a) refl low

-- ---- pairs that rise
and-both : (a b : Bool) → (a && b) ≡ true → (a ≡ true) × (b ≡ true)
and-both true b h = (refl, h)
and-both false b h = absurd (true≢false (sym h))

tail : (low : List ℕ) (pairs : List (List ℕ × List ℕ)) → rises_above low pairs ≡ true → rises pairs ≡ true
tail low [] h = refl
tail low (pair ∷ pairs) h = (and-both (is_below low pair.0) (rises_above pair.0 pairs) h).1

take-above : (n : ℕ) (low : List ℕ) (pairs : List (List ℕ × List ℕ)) → rises_above low pairs ≡ true → rises_above low (take n pairs) ≡ true
take-above zero low pairs h = refl
take-above (suc n) low [] h = refl
take-above (suc n) low (pair ∷ pairs) h =
    let both = and-both (is_below low pair.0) (rises_above pair.0 pairs) h in
    ap (λ t. t && rises_above pair.0 (take n pairs)) both.0 ∙ take-above n pair.0 pairs both.1

pub take-rises : (n : ℕ) (pairs : List (List ℕ × List ℕ)) → rises pairs ≡ true → rises (take n pairs) ≡ true
take-rises zero pairs h = refl
take-rises (suc n) [] h = refl
take-rises (suc n) (pair ∷ pairs) h = take-above n pair.0 pairs h

pub drop-rises : (n : ℕ) (pairs : List (List ℕ × List ℕ)) → rises pairs ≡ true → rises (drop n pairs) ≡ true
drop-rises zero pairs h = h
drop-rises (suc n) [] h = refl
drop-rises (suc n) (pair ∷ pairs) h = drop-rises n pairs (tail pair.0 pairs h)

-- each of them is above what all are above
above-at : (n : ℕ) (low : List ℕ) (pairs : List (List ℕ × List ℕ)) (d : List ℕ × List ℕ) → n < length pairs → rises_above low pairs ≡ true
    → is_below low (get_or pairs n d).0 ≡ true
above-at n low [] d lt h = absurd (omega arith)
above-at zero low (pair ∷ pairs) d lt h = (and-both (is_below low pair.0) (rises_above pair.0 pairs) h).0
above-at (suc n) low (pair ∷ pairs) d lt h =
    let both = and-both (is_below low pair.0) (rises_above pair.0 pairs) h in
    below-both low pair.0 (get_or pairs n d).0 both.0 (above-at n pair.0 pairs d (omega arith) both.1)

-- a prefix that is below them is none of theirs
none-above : (low : List ℕ) (pairs : List (List ℕ × List ℕ)) (prefix : List ℕ) → is_below prefix low ≡ true → rises_above low pairs ≡ true
    → uri_in pairs prefix ≡ None
none-above low [] prefix below h = refl
none-above low (pair ∷ pairs) prefix below h =
    let both = and-both (is_below low pair.0) (rises_above pair.0 pairs) h in
    let lower : is_below prefix pair.0 ≡ true = below-both prefix low pair.0 below both.0 in
    ap (λ t. if t then Some pair.1 else uri_in pairs prefix) (above prefix pair.0 lower) ∙ none-above pair.0 pairs prefix lower both.1

-- ---- the half where a prefix is
pub in-front : (n : ℕ) (pairs : List (List ℕ × List ℕ)) (prefix : List ℕ) (d : List ℕ × List ℕ) → n < length pairs → rises pairs ≡ true
    → is_below prefix (get_or pairs n d).0 ≡ true → uri_in (take n pairs) prefix ≡ uri_in pairs prefix
in-front n [] prefix d lt h below = absurd (omega arith)
in-front zero (pair ∷ pairs) prefix d lt h below =
    sym (ap (λ t. if t then Some pair.1 else uri_in pairs prefix) (above prefix pair.0 below) ∙ none-above pair.0 pairs prefix below h)
in-front (suc n) (pair ∷ pairs) prefix d lt h below =
    ap (λ u. if bytes_eq pair.0 prefix then Some pair.1 else u) (in-front n pairs prefix d (omega arith) (tail pair.0 pairs h) below)

pub in-back : (n : ℕ) (pairs : List (List ℕ × List ℕ)) (prefix : List ℕ) (d : List ℕ × List ℕ) → n < length pairs → rises pairs ≡ true
    → is_below prefix (get_or pairs n d).0 ≡ false → uri_in (drop n pairs) prefix ≡ uri_in pairs prefix
in-back n [] prefix d lt h other = absurd (omega arith)
in-back zero (pair ∷ pairs) prefix d lt h other = refl
in-back (suc n) (pair ∷ pairs) prefix d lt h other =
    let low : is_below pair.0 (get_or pairs n d).0 ≡ true = above-at n pair.0 pairs d (omega arith) h in
    in-back n pairs prefix d (omega arith) (tail pair.0 pairs h) other
    ∙ sym (ap (λ t. if t then Some pair.1 else uri_in pairs prefix) (apart pair.0 prefix (get_or pairs n d).0 low other))
