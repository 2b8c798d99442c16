-- The first byte that passes a test: what stands before it and after it.
use Rattle.std.proofs.Common.{◌≡◌, ℕ, suc, ◌+◌, ◌<◌, add-one, Bool, true, false, ◌||◌, List, [], ◌∷◌, ◌++◌, eqb, length, get_or, take, drop, refl, ◌∙◌, ap, inl, inr, arith}
use Rattle.std.specs.List.{list_any, position_or_len, before_first, after_first}
use Rattle.std.proofs.lemmas.Bool.{cases_Bool, or_parts, or_from, false_from_ne_true}
use Rattle.std.proofs.lemmas.Bool.Decides.{nat_tests}
use Rattle.std.proofs.lemmas.List.{take_all, take_at, drop_all}
use Rattle.std.proofs.lemmas.List.Sums.{position_or_len_is}
use Rattle.std.proofs.lemmas.List.Folds.{list_any_at}

-- no byte passes
pub position-none : (p : ℕ → Bool) (xs : List ℕ) → list_any p xs ≡ false → position_or_len p xs ≡ length xs
position-none p [] none = refl
position-none p (x ∷ xs) none =
    let parts = or_parts (p x) (list_any p xs) none in
    rw parts.0 (omega (arith, position-none p xs parts.1))

pub before-none : (p : ℕ → Bool) (xs : List ℕ) → list_any p xs ≡ false → before_first p xs ≡ xs
before-none p xs none = take_all (position_or_len p xs) xs (omega (arith, position-none p xs none))

pub after-none : (p : ℕ → Bool) (xs : List ℕ) → list_any p xs ≡ false → after_first p xs ≡ []
after-none p xs none = drop_all (position_or_len p xs + 1) xs (omega (arith, position-none p xs none))

-- a front of which no byte passes, and a byte that does
pub any-at : (p : ℕ → Bool) (xs : List ℕ) (b : ℕ) (ys : List ℕ) → p b ≡ true → list_any p (xs ++ b ∷ ys) ≡ true
any-at p [] b ys is = rw is refl
any-at p (x ∷ xs) b ys is = elim (p x) as (λ t. (t || list_any p (xs ++ b ∷ ys)) ≡ true) [ true ↦ refl | false ↦ any-at p xs b ys is ]

position-at : (p : ℕ → Bool) (xs : List ℕ) (b : ℕ) (ys : List ℕ) → list_any p xs ≡ false → p b ≡ true → position_or_len p (xs ++ b ∷ ys) ≡ length xs
position-at p [] b ys none is = rw is refl
position-at p (x ∷ xs) b ys none is =
    let parts = or_parts (p x) (list_any p xs) none in
    rw parts.0 (omega (arith, position-at p xs b ys parts.1 is))

behind_front : (xs : List ℕ) (b : ℕ) (ys : List ℕ) → drop (suc (length xs)) (xs ++ b ∷ ys) ≡ ys
behind_front [] b ys = refl
behind_front (x ∷ xs) b ys = behind_front xs b ys

pub before-at : (p : ℕ → Bool) (xs : List ℕ) (b : ℕ) (ys : List ℕ) → list_any p xs ≡ false → p b ≡ true → before_first p (xs ++ b ∷ ys) ≡ xs
before-at p xs b ys none is = ap (λ k. take k (xs ++ b ∷ ys)) (position-at p xs b ys none is) ∙ take_at xs (b ∷ ys) (length xs) refl

pub after-at : (p : ℕ → Bool) (xs : List ℕ) (b : ℕ) (ys : List ℕ) → list_any p xs ≡ false → p b ≡ true → after_first p (xs ++ b ∷ ys) ≡ ys
after-at p xs b ys none is =
    ap (λ k. drop (k + 1) (xs ++ b ∷ ys)) (position-at p xs b ys none is)
    ∙ ap (λ k. drop k (xs ++ b ∷ ys)) (add-one (length xs)) ∙ behind_front xs b ys

-- what the first place that a search found says
pub position-found : (p : ℕ → Bool) (xs : List ℕ) (k : ℕ) → k < length xs → p (get_or xs k 0) ≡ true → ((j : ℕ) → j < k → p (get_or xs j 0) ≡ true → ⊥)
    → position_or_len p xs ≡ k
position-found p xs k lt is before =
    position_or_len_is p xs k 0 (omega arith) (λ j h. false_from_ne_true (p (get_or xs j 0)) (before j h)) (λ h. is)

pub any-found : (p : ℕ → Bool) (xs : List ℕ) (k : ℕ) → k < length xs → p (get_or xs k 0) ≡ true → list_any p xs ≡ true
any-found p xs k lt is = list_any_at p xs k 0 lt is

-- what a search that found nothing says
pub any-nowhere : (p : ℕ → Bool) (xs : List ℕ) → ((j : ℕ) → j < length xs → p (get_or xs j 0) ≡ true → ⊥) → list_any p xs ≡ false
any-nowhere p [] none = refl
any-nowhere p (x ∷ xs) none =
    or_from (p x) (list_any p xs) (false_from_ne_true (p x) (none 0 (omega arith)))
    (any-nowhere p xs (λ j h. none (suc j) (omega arith)))

-- a test that passes less
pub any-fewer : (p q : ℕ → Bool) (xs : List ℕ) → ((b : ℕ) → p b ≡ false → q b ≡ false) → list_any p xs ≡ false → list_any q xs ≡ false
any-fewer p q [] less none = refl
any-fewer p q (x ∷ xs) less none =
    let parts = or_parts (p x) (list_any p xs) none in
    or_from (q x) (list_any q xs) (less x parts.0) (any-fewer p q xs less parts.1)

-- the first byte that passes, where one does
pub record IsFirstOf (p : ℕ → Bool) (xs : List ℕ) : Type 0 where
  pub front : List ℕ
  pub at : ℕ
  pub back : List ℕ
  pub whole : xs ≡ front ++ at ∷ back
  pub none : list_any p front ≡ false
  pub passes : p at ≡ true

pub first_of_any : (p : ℕ → Bool) (xs : List ℕ) → list_any p xs ≡ true → IsFirstOf p xs
first_of_any p [] h = absurd (cc)
first_of_any p (x ∷ xs) h =
    elim (cases_Bool (p x)) [
      | inl t ↦ record { front = []; at = x; back = xs; whole = refl; none = refl; passes = t }
      | inr f ↦
          let rest : list_any p xs ≡ true = (rw f at h) in
          let q = first_of_any p xs rest in
          record {
            front = x ∷ q.front;
            at = q.at;
            back = q.back;
            whole = ap (λ ys. x ∷ ys) q.whole;
            none =
                or_from (p x) (list_any p q.front) f q.none;
            passes = q.passes;
          }
    ]

pub is_the : (b n : ℕ) → eqb b n ≡ true → b ≡ n
is_the b n h = grind (arith, nat_tests)
