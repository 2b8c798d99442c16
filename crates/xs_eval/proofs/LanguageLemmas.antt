-- Languages and their parts: a language begins with another one, and what is left of it is nothing or begins with a minus sign.
use Rattle.std.proofs.Common.{◌≡◌, ℕ, ◌≤◌, ◌&&◌, ◌||◌, arith, Bool, true, false, List, [], ◌∷◌, ◌++◌, drop, length, nat_eq, refl, take, ap, ◌∙◌}
use Rattle.std.proofs.Common.{Option, Some, None, filter, is_some, slice_get, subst, sym}
use Rattle.std.proofs.lemmas.Bool.{false≢true}
use Rattle.std.proofs.lemmas.Bool.Decides.{nat_tests}
use Rattle.std.specs.Char.{to_ascii_lowercase}
use Rattle.std.specs.List.{IsSplitAt, flat_map, starts_with}
use Rattle.std.specs.Str.{bytes_eq, str_to_ascii_lowercase}
use Rattle.xs_tree.specs.Record.{Record, attributes}
use Rattle.xs_eval_spec.specs.Languages.{is_lang, is_language}
use Rattle.xs_eval.specs.steps.Languages.{is_part, is_same_word}

-- only letters change their case
minus-stays : (b : ℕ) → nat_eq 45 (to_ascii_lowercase b) ≡ nat_eq b 45
minus-stays b = grind (arith, nat_tests)

both-ways : (x y : ℕ) → nat_eq y x ≡ nat_eq x y
both-ways x y = grind (arith, nat_tests)

and-true : (b : Bool) → (b && true) ≡ b
and-true true = refl
and-true false = refl

split-step : (b x y z s : Bool) → (x || y) ≡ (z && s) → (b && x || b && y) ≡ ((b && z) && s)
split-step true x y z s h = h
split-step false x y z s h = refl

-- a language that is at least as long
language-split : (language wanted : List ℕ) → length wanted ≤ length language
    → is_language language wanted ≡ (is_same_word (take (length wanted) language) wanted && is_part (drop (length wanted) language))
language-split [] [] h = refl
language-split (l ∷ ls) [] h = and-true (nat_eq 45 (to_ascii_lowercase l)) ∙ minus-stays l
language-split [] (w ∷ ws) h = absurd (omega (arith, h))
language-split (l ∷ ls) (w ∷ ws) h =
    let a = to_ascii_lowercase l in
    let b = to_ascii_lowercase w in
    let rest = str_to_ascii_lowercase ls in
    let sought = str_to_ascii_lowercase ws in
    ap (λ (t : Bool). nat_eq a b && bytes_eq rest sought || t && starts_with nat_eq rest (sought ++ 45 ∷ [])) (both-ways a b)
    ∙ split-step (nat_eq a b) (bytes_eq rest sought) (starts_with nat_eq rest (sought ++ 45 ∷ []))
    (is_same_word (take (length ws) ls) ws) (is_part (drop (length ws) ls)) (language-split ls ws (omega (arith, h)))

-- the two parts, as a text was split
word-by-word : (language wanted l w front rest : List ℕ) → l ≡ language → w ≡ wanted → IsSplitAt l (length wanted) front rest
    → is_language language wanted ≡ (is_same_word front w && is_part rest)
word-by-word language wanted l w front rest a b m =
    let within : length wanted ≤ length language = subst (λ (k : List ℕ). length wanted ≤ length k) a m.0 in
    language-split language wanted within
    ∙ ap (λ (k : List ℕ). is_same_word (take (length wanted) k) wanted && is_part (drop (length wanted) k)) (sym a)
    ∙ ap (λ (k : List ℕ). is_same_word k wanted && is_part (drop (length wanted) l)) (sym m.1)
    ∙ ap (λ (k : List ℕ). is_same_word front wanted && is_part k) (sym m.2)
    ∙ ap (λ (k : List ℕ). is_same_word front k && is_part rest) (sym b)

pub language-then : (language wanted l w front rest : List ℕ) → l ≡ language → w ≡ wanted → IsSplitAt l (length wanted) front rest → (r : Bool)
    → is_same_word front w ≡ true → r ≡ is_part rest → r ≡ is_language language wanted
language-then language wanted l w front rest a b m r h e =
    e ∙ sym (word-by-word language wanted l w front rest a b m ∙ ap (λ (s : Bool). s && is_part rest) h)

pub language-else : (language wanted l w front rest : List ℕ) → l ≡ language → w ≡ wanted → IsSplitAt l (length wanted) front rest
    → is_same_word front w ≡ false → false ≡ is_language language wanted
language-else language wanted l w front rest a b m h =
    sym (word-by-word language wanted l w front rest a b m ∙ ap (λ (s : Bool). s && is_part rest) h)

-- ---- the nearest attribute

first-stays : (xs ys : List ℕ) (a : ℕ) → Some a ≡ slice_get xs 0 → Some a ≡ slice_get (xs ++ ys) 0
first-stays [] ys a h = absurd (false≢true (sym (ap (λ (o : Option ℕ). is_some o) h)))
first-stays (x ∷ xs) ys a h = h

none-first : (xs : List ℕ) → None ≡ slice_get xs 0 → xs ≡ []
none-first [] h = refl
none-first (x ∷ xs) h = absurd (false≢true (ap (λ (o : Option ℕ). is_some o) h))

abbrev langs : List Record → ℕ → List ℕ
langs rs k = filter (is_lang rs) (attributes rs k)

-- that of an element that has one
pub nearest-first : (rs : List Record) (left : List ℕ) (k : ℕ) (rest : List ℕ) (a : ℕ) (all : List ℕ) → all ≡ flat_map (langs rs) left → left ≡ k ∷ rest
    → Some a ≡ slice_get (langs rs k) 0 → Some a ≡ slice_get all 0
nearest-first rs left k rest a all e s h =
    first-stays (langs rs k) (flat_map (langs rs) rest) a h ∙ ap (λ (xs : List ℕ). slice_get xs 0) (sym (e ∙ ap (flat_map (langs rs)) s))

-- and after one that has none
pub nearest-later : (rs : List Record) (left : List ℕ) (k : ℕ) (rest all : List ℕ) → all ≡ flat_map (langs rs) left → left ≡ k ∷ rest
    → None ≡ slice_get (langs rs k) 0 → all ≡ flat_map (langs rs) rest
nearest-later rs left k rest all e s h =
    e ∙ ap (flat_map (langs rs)) s ∙ ap (λ (xs : List ℕ). xs ++ flat_map (langs rs) rest) (none-first (langs rs k) h)
