-- Strings that are the same as others, or differ from them.
use Rattle.std.proofs.Common.{◌≡◌, ℕ, ◌<◌, Bool, true, false, not, ◌||◌, List, [], ◌∷◌, length, refl, sym, ◌∙◌, ap, arith, ◌⊎◌, inl, inr}
use Rattle.std.proofs.lemmas.Bool.{not-false, or_parts}
use Rattle.std.proofs.lemmas.Bool.Decides.{same_from_decides, Decides-like}
use Rattle.std.proofs.lemmas.List.{append-nil}
use Rattle.std.specs.Cmp.Lexicographic.{bytes_decides}
use Rattle.std.specs.List.{list_any}
use Rattle.std.specs.Str.{bytes_eq}
use Rattle.xs_trace.specs.declared.event.Event.{Event}
use Rattle.xs_value.specs.Conversion.{event_text, fragment_text}
use Rattle.xs_value.specs.steps.Operands.{first_of, has_others, is_other, some_different}

pub bytes-sym : (x y : List ℕ) → bytes_eq x y ≡ bytes_eq y x
bytes-sym x y = same_from_decides (bytes_eq x y) (bytes_eq y x) (bytes_decides x y) (Decides-like (bytes_eq y x) (λ e. sym e) (λ e. sym e) (bytes_decides y x))

or-false : (b : Bool) → (b || false) ≡ b
or-false true = refl
or-false false = refl

or-twice : (b : Bool) → (b || b) ≡ b
or-twice true = refl
or-twice false = refl

pub any-same : (p q : List ℕ → Bool) (xs : List (List ℕ)) → ((x : List ℕ) → p x ≡ q x) → list_any p xs ≡ list_any q xs
any-same p q [] h = refl
any-same p q (x ∷ xs) h = ap (λ b. b || list_any p xs) (h x) ∙ ap (λ b. q x || b) (any-same p q xs h)

-- ---- strings that are all one

same-text : (text y : List ℕ) → is_other text y ≡ false → y ≡ text
same-text text y h = sym ((bytes_decides text y).0 (not-false (bytes_eq text y) h))

others-than : (text x : List ℕ) (ys : List (List ℕ)) → 0 < length ys → list_any (is_other text) ys ≡ false → list_any (is_other x) ys ≡ is_other text x
others-than text x [] l h = absurd (omega arith)
others-than text x (y ∷ []) l h =
    let e : y ≡ text = same-text text y (or_parts (is_other text y) false h).0 in
    or-false (is_other x y) ∙ ap (is_other x) e ∙ ap not (bytes-sym x text)
others-than text x (y ∷ z ∷ ys) l h =
    let parts = or_parts (is_other text y) (list_any (is_other text) (z ∷ ys)) h in
    let e : y ≡ text = same-text text y parts.0 in
    let one : is_other x y ≡ is_other text x = ap (is_other x) e ∙ ap not (bytes-sym x text) in
    ap (λ b. b || list_any (is_other x) (z ∷ ys)) one
    ∙ ap (λ b. is_other text x || b) (others-than text x (z ∷ ys) (omega arith) parts.1)
    ∙ or-twice (is_other text x)

pub none_differs : (xs ys : List (List ℕ)) → length xs ≡ 0 ⊎ length ys ≡ 0 → false ≡ some_different xs ys
none_differs [] ys h = refl
none_differs (x ∷ xs) [] h = each xs
  where
    each : (zs : List (List ℕ)) → false ≡ list_any (λ z. list_any (is_other z) []) zs
    each [] = refl
    each (z ∷ zs) = each zs
none_differs (x ∷ xs) (y ∷ ys) (inl h) = absurd (omega arith)
none_differs (x ∷ xs) (y ∷ ys) (inr h) = absurd (omega arith)

-- another string than the first on the left is among both exactly where two differ
pub others_differ : (xs ys : List (List ℕ)) → 0 < length xs → 0 < length ys → has_others (first_of xs) xs ys ≡ some_different xs ys
others_differ [] ys l m = absurd (omega arith)
others_differ (x ∷ xs) ys l m = by_right (list_any (is_other x) ys) refl
  where
    by_right : (b : Bool) → list_any (is_other x) ys ≡ b → has_others x (x ∷ xs) ys ≡ some_different (x ∷ xs) ys
    by_right true h = ap (λ c. c || list_any (is_other x) (x ∷ xs)) h ∙ sym (ap (λ c. c || list_any (λ z. list_any (is_other z) ys) xs) h)
    by_right false h = ap (λ c. c || list_any (is_other x) (x ∷ xs)) h
        ∙ any-same (is_other x) (λ z. list_any (is_other z) ys) (x ∷ xs) (λ z. sym (others-than x z ys m h))

-- ---- the text of one event

pub one_event : (e : Event) → event_text e ≡ fragment_text (e ∷ [])
one_event e = sym (append-nil (event_text e))
