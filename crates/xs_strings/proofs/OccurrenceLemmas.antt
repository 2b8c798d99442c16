-- The first occurrence of a text in another, by bytes and by characters.
use Rattle.std.proofs.Common.{◌≡◌, ℕ, ◌<◌, ◌≤◌, zero, suc, Bool, true, false, cond, List, [], ◌∷◌, ◌++◌, length, take, drop, refl, sym, ap, ◌∙◌, subst, arith, nat_eq, Some, None, length-append}
use Rattle.std.proofs.Math.Seq.{drop-append_seam}
use Rattle.std.proofs.lemmas.Grind.{common_steps}
use Rattle.std.proofs.lemmas.List.{take-append-drop, take-append-le, length-drop}
use Rattle.std.proofs.lemmas.Str.{chars-append, encodes-chars, encodes-append, length-le-encodes, IsUtf8-append, IsUtf8-take, IsCharBoundary-at_seam}
use Rattle.std.specs.List.{starts_with}
use Rattle.std.specs.Option.{option_map}
use Rattle.std.specs.Str.{chars, encode_utf8_all, IsUtf8, IsCharBoundary}
use Rattle.std.specs.Str.Pattern.{LacksTextAt, FindsText, SplitsAroundMatch}
use Rattle.xs_strings.specs.Searching.{parts_round, first_or_empty, second_or_empty, text_before, text_after}

-- a list that starts with another one is that one and the rest
pub starts_with-split : (sought xs : List ℕ) → starts_with nat_eq xs sought ≡ true → xs ≡ sought ++ drop (length sought) xs
starts_with-split [] xs h = refl
starts_with-split (t ∷ ts) [] h = absurd (cc)
starts_with-split (t ∷ ts) (x ∷ xs) h = grind (arith, common_steps, starts_with-split ts xs)

pub starts_with-append : (sought rest : List ℕ) → starts_with nat_eq (sought ++ rest) sought ≡ true
starts_with-append [] rest = refl
starts_with-append (t ∷ ts) rest = grind (arith, common_steps, starts_with-append ts rest)

drop-nil : (n : ℕ) → drop {A = ℕ} n [] ≡ []
drop-nil zero = refl
drop-nil (suc n) = refl

parts_here : (sought xs : List ℕ) → starts_with nat_eq xs sought ≡ true → parts_round sought xs ≡ Some ([], drop (length sought) xs)
parts_here sought [] h = ap (λ b. cond b (Some ([], [])) None) h ∙ ap (λ r. Some ([], r)) (sym (drop-nil (length sought)))
parts_here sought (x ∷ xs) h = ap (λ b. cond b (Some ([], drop (length sought) (x ∷ xs))) (option_map (λ (parts : List ℕ
    × List ℕ). (x ∷ parts.0, parts.1)) (parts_round sought xs))) h

pub parts_at : (sought front back : List ℕ) → ((k : ℕ) → k < length front → starts_with nat_eq (drop k (front ++ (sought ++ back))) sought ≡ false)
    → parts_round sought (front ++ (sought ++ back)) ≡ Some (front, back)
parts_at sought [] back none = parts_here sought (sought ++ back) (starts_with-append sought back) ∙ ap (λ r. Some ([], r)) (drop-append_seam sought back)
parts_at sought (c ∷ cs) back none =
    let rest : List ℕ = cs ++ (sought ++ back) in
    let not_here : starts_with nat_eq (c ∷ rest) sought ≡ false = none 0 (omega arith) in
    let below : parts_round sought rest ≡ Some (cs, back) = parts_at sought cs back (λ k lt. none (suc k) (omega arith)) in
    ap (λ b. cond b (Some ([], drop (length sought) (c ∷ rest))) (option_map (λ (parts : List ℕ
    × List ℕ). (c ∷ parts.0, parts.1)) (parts_round sought rest))) not_here
    ∙ ap (option_map (λ (parts : List ℕ × List ℕ). (c ∷ parts.0, parts.1))) below

pub parts_none : (sought xs : List ℕ) → ((k : ℕ) → k ≤ length xs → starts_with nat_eq (drop k xs) sought ≡ false) → parts_round sought xs ≡ None
parts_none sought [] none = ap (λ b. cond b (Some ([], [])) None) (none 0 (omega arith))
parts_none sought (x ∷ xs) none =
    let not_here : starts_with nat_eq (x ∷ xs) sought ≡ false = none 0 (omega arith) in
    let below : parts_round sought xs ≡ None = parts_none sought xs (λ k le. none (suc k) (omega arith)) in
    ap (λ b. cond b (Some ([], drop (length sought) (x ∷ xs))) (option_map (λ (parts : List ℕ
    × List ℕ). (x ∷ parts.0, parts.1)) (parts_round sought xs))) not_here
    ∙ ap (option_map (λ (parts : List ℕ × List ℕ). (x ∷ parts.0, parts.1))) below

not_true : (b : Bool) → (b ≡ true → ⊥) → b ≡ false
not_true true h = absurd (h refl)
not_true false h = refl

-- where the characters hold the sought ones at a place, the bytes hold theirs
lacks_none : (s t : List ℕ) (k : ℕ) → IsUtf8 s → IsUtf8 t → LacksTextAt t s (length (encode_utf8_all (take k (chars s))))
    → starts_with nat_eq (drop k (chars s)) (chars t) ≡ false
lacks_none s t k us ut lacks = not_true _ (λ h.
    let cs : List ℕ = chars s in
    let rest : List ℕ = drop (length (chars t)) (drop k cs) in
    let at : drop k cs ≡ chars t ++ rest = starts_with-split (chars t) (drop k cs) h in
    let whole : s ≡ encode_utf8_all (take k cs) ++ encode_utf8_all (drop k cs) =
    sym (encodes-chars s us) ∙ ap encode_utf8_all (sym (take-append-drop k cs)) ∙ encodes-append (take k cs) (drop k cs) in
    let found : encode_utf8_all (drop k cs) ≡ t ++ encode_utf8_all rest =
    ap encode_utf8_all at ∙ encodes-append (chars t) rest ∙ ap (λ x. x ++ encode_utf8_all rest) (encodes-chars t ut) in
    let there : drop (length (encode_utf8_all (take k cs))) s ≡ t ++ encode_utf8_all rest =
    ap (drop (length (encode_utf8_all (take k cs)))) whole ∙ drop-append_seam (encode_utf8_all (take k cs)) (encode_utf8_all (drop k cs)) ∙ found in
    lacks (encode_utf8_all rest) there)

-- fewer characters take fewer bytes
fewer : (cs : List ℕ) (k : ℕ) → k < length cs → length (encode_utf8_all (take k cs)) < length (encode_utf8_all cs)
fewer cs k lt =
    let whole : encode_utf8_all cs ≡ encode_utf8_all (take k cs) ++ encode_utf8_all (drop k cs) =
    ap encode_utf8_all (sym (take-append-drop k cs)) ∙ encodes-append (take k cs) (drop k cs) in
    omega (arith, ap length whole, length-append (encode_utf8_all (take k cs)) (encode_utf8_all (drop k cs)), length-le-encodes (drop k cs), length-drop k cs)

no_more : (cs : List ℕ) (k : ℕ) → length (encode_utf8_all (take k cs)) ≤ length (encode_utf8_all cs)
no_more cs k =
    let whole : encode_utf8_all cs ≡ encode_utf8_all (take k cs) ++ encode_utf8_all (drop k cs) =
    ap encode_utf8_all (sym (take-append-drop k cs)) ∙ encodes-append (take k cs) (drop k cs) in
    omega (arith, ap length whole, length-append (encode_utf8_all (take k cs)) (encode_utf8_all (drop k cs)))

-- the text s is front, the first t in it, and back
pub first_occurrence : (s t front back : List ℕ) → IsUtf8 s → IsUtf8 t → IsUtf8 front → s ≡ front ++ (t ++ back)
    → ((i : ℕ) → i < length front → LacksTextAt t s i) → parts_round (chars t) (chars s) ≡ Some (chars front, chars back)
first_occurrence s t front back us ut uf e lacks =
    let cs : chars s ≡ chars front ++ (chars t ++ chars back) =
    ap chars e ∙ chars-append front (t ++ back) uf ∙ ap (λ x. chars front ++ x) (chars-append t back ut) in
    let before : (k : ℕ) → k < length (chars front) → take k (chars s) ≡ take k (chars front) =
    λ k lt. ap (take k) cs ∙ take-append-le k (chars front) (chars t ++ chars back) (omega arith) in
    let shorter : (k : ℕ) → k < length (chars front) → length (encode_utf8_all (take k (chars s))) < length front =
    λ k lt. let f = fewer (chars front) k lt in
    omega (arith, f, ap (λ x. length (encode_utf8_all x)) (before k lt), ap length (encodes-chars front uf)) in
    let none : (k : ℕ) → k < length (chars front) → starts_with nat_eq (drop k (chars front ++ (chars t ++ chars back))) (chars t) ≡ false =
    λ k lt. ap (λ x. starts_with nat_eq (drop k x) (chars t)) (sym cs) ∙ lacks_none s t k us ut (lacks _ (shorter k lt)) in
    ap (parts_round (chars t)) cs ∙ parts_at (chars t) (chars front) (chars back) none

-- the parts that `split_once` gives
pub whole_is : (s t front back : List ℕ) → SplitsAroundMatch (FindsText t) s front back → s ≡ front ++ (t ++ back)
whole_is s t front back m =
    sym (take-append-drop m.0 s) ∙ ap (λ x. x ++ drop m.0 s) (sym m.3) ∙ ap (λ x. front ++ x) (m.2.1.split ∙ ap (λ x. t ++ x) (sym m.4))

pub split_parts_round : (s t front back : List ℕ) → IsUtf8 s → IsUtf8 t → IsUtf8 front → SplitsAroundMatch (FindsText t) s front back
    → parts_round (chars t) (chars s) ≡ Some (chars front, chars back)
split_parts_round s t front back us ut uf m =
    first_occurrence s t front back us ut uf (whole_is s t front back m) (λ i lt. m.2.0 i (let e : length front ≡ m.0 = m.6 in omega arith))

pub IsUtf8-front : (s t front back : List ℕ) → IsUtf8 s → IsUtf8 t → IsUtf8 back → SplitsAroundMatch (FindsText t) s front back → IsUtf8 front
IsUtf8-front s t front back us ut ub m =
    let rest : IsUtf8 (t ++ back) = IsUtf8-append t back ut ub in
    let place : IsCharBoundary s (length front) = IsCharBoundary-at_seam s front (t ++ back) (whole_is s t front back m) rest in
    let e : length front ≡ m.0 = m.6 in
    subst IsUtf8 (ap (λ k. take k s) e ∙ sym m.3) (IsUtf8-take s (length front) us place)

pub no_occurrence : (s t : List ℕ) → IsUtf8 s → IsUtf8 t → ((i : ℕ) → i ≤ length s → LacksTextAt t s i) → parts_round (chars t) (chars s) ≡ None
no_occurrence s t us ut lacks =
    parts_none (chars t) (chars s) (λ k le. lacks_none s t k us ut (lacks _ (let f = no_more (chars s) k in omega (arith, f, ap length (encodes-chars s us)))))

pub text_before-found : (s t front back : List ℕ) → IsUtf8 front → parts_round (chars t) (chars s) ≡ Some (chars front, chars back)
    → encode_utf8_all (text_before (chars s) (chars t)) ≡ front
unfolding text_before
text_before-found s t front back uf e = ap (λ p. encode_utf8_all (first_or_empty p)) e ∙ encodes-chars front uf

pub text_after-found : (s t front back : List ℕ) → IsUtf8 back → parts_round (chars t) (chars s) ≡ Some (chars front, chars back)
    → encode_utf8_all (text_after (chars s) (chars t)) ≡ back
unfolding text_after
text_after-found s t front back ub e = ap (λ p. encode_utf8_all (second_or_empty p)) e ∙ encodes-chars back ub

pub text_before-none : (s t : List ℕ) → parts_round (chars t) (chars s) ≡ None → encode_utf8_all (text_before (chars s) (chars t)) ≡ []
unfolding text_before
text_before-none s t e = ap (λ p. encode_utf8_all (first_or_empty p)) e

pub text_after-none : (s t : List ℕ) → parts_round (chars t) (chars s) ≡ None → encode_utf8_all (text_after (chars s) (chars t)) ≡ []
unfolding text_after
text_after-none s t e = ap (λ p. encode_utf8_all (second_or_empty p)) e
