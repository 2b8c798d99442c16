-- The first of some numbers that passes a test, and the places that pass one.
use Rattle.std.proofs.Common.{◌≡◌, ◌∙◌, ℕ, suc, zero, ◌+◌, ◌-◌, ◌<◌, ap, refl, sym, arith, List, [], ◌∷◌, ◌++◌, cond, filter, length, map, Bool, true, false, Some, get_or}
use Rattle.std.proofs.lemmas.List.{append-nil}
use Rattle.std.proofs.lemmas.List.Elements.{filter-append}
use Rattle.std.specs.List.{find, range_with_len, slice_get}
use Rattle.std.specs.Prelude.{if◌then◌else◌}

-- ---- numbers one after another
step : (i n : ℕ) → i < n → range_with_len i (n - i) ≡ i ∷ range_with_len (i + 1) (n - (i + 1))
step i n h =
    let e : n - i ≡ suc (n - (i + 1)) = omega arith in
    rw e refl

pub find_more : (p : ℕ → Bool) (i n : ℕ) → i < n → p i ≡ false
    → find p (range_with_len i (n - i)) ≡ find p (range_with_len (i + 1) (n - (i + 1)))
find_more p i n h e =
    ap (find p) (step i n h) ∙ ap (λ (b : Bool). cond b (Some i) (find p (range_with_len (i + 1) (n - (i + 1))))) e

-- ---- an item of a list
pub get_map : {X Y : Type 0} (f : X → Y) (xs : List X) (i : ℕ) (x : X) → i < length xs → x ≡ get_or xs i x → slice_get (map f xs) i ≡ Some (f x)
get_map f [] i x h e = absurd (omega (arith, h))
get_map f (y ∷ ys) zero x h e = ap (λ z. Some (f z)) (sym e)
get_map f (y ∷ ys) (suc i) x h e = get_map f ys i x (omega (arith, h)) e

-- ---- the places that pass a test
range-last : (a n : ℕ) → range_with_len a (suc n) ≡ range_with_len a n ++ (a + n) ∷ []
range-last a zero =
    let e : a + 0 ≡ a = omega arith in
    rw e refl
range-last a (suc n) =
    let e : a + 1 + n ≡ a + suc n = omega arith in
    ap (λ xs. a ∷ xs) (range-last (a + 1) n ∙ ap (λ k. range_with_len (a + 1) n ++ k ∷ []) e)

filter-last : (p : ℕ → Bool) (xs : List ℕ) (k : ℕ) (b : Bool) → p k ≡ b
    → filter p (xs ++ k ∷ []) ≡ (if b then filter p xs ++ k ∷ [] else filter p xs)
filter-last p xs k true e = filter-append p xs (k ∷ []) ∙ ap (λ (c : Bool). filter p xs ++ cond c (k ∷ []) []) e
filter-last p xs k false e =
    filter-append p xs (k ∷ []) ∙ ap (λ (c : Bool). filter p xs ++ cond c (k ∷ []) []) e ∙ append-nil (filter p xs)

-- one place more, where those before it are known
pub passing_more : (p : ℕ → Bool) (n : ℕ) (old new : List ℕ) → old ≡ filter p (range_with_len 0 n)
    → new ≡ (if p n then old ++ n ∷ [] else old) → new ≡ filter p (range_with_len 0 (n + 1))
passing_more p n old new e h =
    let next : n + 1 ≡ suc n = omega arith in
    let here : 0 + n ≡ n = omega arith in
    h ∙ ap (λ (xs : List ℕ). if p n then xs ++ n ∷ [] else xs) e
    ∙ sym (filter-last p (range_with_len 0 n) n (p n) refl)
    ∙ sym (ap (λ k. filter p (range_with_len 0 n ++ k ∷ [])) here)
    ∙ sym (ap (filter p) (range-last 0 n))
    ∙ sym (ap (λ k. filter p (range_with_len 0 k)) next)
