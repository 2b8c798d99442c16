-- How an escaped text is made of its parts.
use Rattle.std.proofs.Common.{◌≡◌, ℕ, ◌+◌, ◌<◌, ◌≤◌, List, [], ◌∷◌, ◌++◌, Some, None, length, take, drop, get_or, refl, sym, ap, ◌∙◌, arith}
use Rattle.std.proofs.lemmas.List.{take_more, drop_more, take-append-drop, take-append-le, length-take, append-nil}
use Rattle.std.proofs.lemmas.List.Concat.{flat_map-append}
use Rattle.xs_text.specs.Escapes.{letter_of, written_by, escaped_byte, escaped}

pub escaped-nil : escaped [] ≡ []
unfolding escaped
escaped-nil = refl

pub escaped-cons : (b : ℕ) (bs : List ℕ) → escaped (b ∷ bs) ≡ escaped_byte b ++ escaped bs
unfolding escaped
escaped-cons b bs = refl

pub escaped-append : (xs ys : List ℕ) → escaped (xs ++ ys) ≡ escaped xs ++ escaped ys
unfolding escaped
escaped-append xs ys = flat_map-append escaped_byte xs ys

escaped-one : (b : ℕ) → escaped (b ∷ []) ≡ escaped_byte b
escaped-one b = escaped-cons b [] ∙ ap (λ w. escaped_byte b ++ w) escaped-nil ∙ append-nil (escaped_byte b)

-- a run of bytes that represent themselves, one byte longer
pub plain_more : (xs : List ℕ) (i d : ℕ) → i < length xs → letter_of (get_or xs i d) ≡ None → escaped (take i xs) ≡ take i xs
    → escaped (take (i + 1) xs) ≡ take (i + 1) xs
plain_more xs i d l none h =
    let cut = take_more xs i d l in
    ap escaped cut ∙ escaped-append (take i xs) (get_or xs i d ∷ [])
    ∙ ap (λ w. w ++ escaped (get_or xs i d ∷ [])) h
    ∙ ap (λ w. take i xs ++ w) (escaped-one (get_or xs i d) ∙ ap (λ o. written_by o (get_or xs i d)) none)
    ∙ sym cut

-- a run of such bytes, and then one that is written as a pair
pub escaped-at_pair : (xs : List ℕ) (i d l : ℕ) → i < length xs → letter_of (get_or xs i d) ≡ Some l → escaped (take i xs) ≡ take i xs
    → escaped xs ≡ take i xs ++ 92 ∷ l ∷ escaped (drop (i + 1) xs)
escaped-at_pair xs i d l lt pair h =
    let b = get_or xs i d in
    let rest = drop (i + 1) xs in
    ap escaped (sym (take-append-drop i xs)) ∙ escaped-append (take i xs) (drop i xs)
    ∙ ap (λ w. w ++ escaped (drop i xs)) h
    ∙ ap (λ w. take i xs ++ w) (ap escaped (drop_more xs i d lt) ∙ escaped-cons b rest ∙ ap (λ o. written_by o b ++ escaped rest) pair)

-- what stood at the front still does, after an append
pub front-append : (front now more : List ℕ) → take (length front) now ≡ front → take (length front) (now ++ more) ≡ front
front-append front now more h =
    let n : length front ≤ length now = omega (arith, length-take (length front) now, ap length h) in
    take-append-le (length front) now more n ∙ h
