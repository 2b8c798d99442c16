-- Where the items of a list stand when some are left out: those that stay count from 0 on.
use Rattle.std.proofs.Common.{◌≡◌, ℕ, zero, suc, ◌+◌, ◌-◌, ◌<◌, ◌≤◌, Bool, true, false, List, [], ◌∷◌, ◌++◌, filter, length, get_or, refl, sym, ◌∙◌, ap}
use Rattle.std.proofs.Common.{subst, arith}
use Rattle.std.proofs.Common.{length-append, ◌⊎◌, inl, inr}
use Rattle.std.proofs.Math.ListN.{get_or-append}
use Rattle.std.proofs.Math.Seq.{get_or-append_seam}
use Rattle.std.proofs.Math.Nat.{eq-or-lt_of_le}
use Rattle.std.proofs.lemmas.List.{map-id, append-nil}
use Rattle.std.proofs.lemmas.List.Elements.{filter-append}
use Rattle.std.proofs.lemmas.List.FromFn.{map-range_with_len_more}
use Rattle.std.specs.List.{range_with_len}
use Rattle.xs_tree.proofs.WalkLemmas.{le_or_gt}

-- the numbers below n that pass, and how many these are
abbrev pub before : (ℕ → Bool) → ℕ → List ℕ
before stay n = filter stay (range_with_len 0 n)

abbrev pub place : (ℕ → Bool) → ℕ → ℕ
place stay n = length (before stay n)

pub range-more : (n : ℕ) → range_with_len 0 (n + 1) ≡ range_with_len 0 n ++ n ∷ []
range-more n = sym (map-id (range_with_len 0 (n + 1))) ∙ map-range_with_len_more (λ k. k) 0 n n (omega arith)
    ∙ ap (λ ks. ks ++ n ∷ []) (map-id (range_with_len 0 n))

pub before-true : (stay : ℕ → Bool) (n : ℕ) → stay n ≡ true → before stay (n + 1) ≡ before stay n ++ n ∷ []
before-true stay n e = rw (range-more n, filter-append stay (range_with_len 0 n) (n ∷ []), e) refl

pub before-false : (stay : ℕ → Bool) (n : ℕ) → stay n ≡ false → before stay (n + 1) ≡ before stay n
before-false stay n e = rw (range-more n, filter-append stay (range_with_len 0 n) (n ∷ []), e) (append-nil (before stay n))

pub place-true : (stay : ℕ → Bool) (n : ℕ) → stay n ≡ true → place stay (n + 1) ≡ place stay n + 1
place-true stay n e = ap length (before-true stay n e) ∙ length-append (before stay n) (n ∷ [])

pub place-false : (stay : ℕ → Bool) (n : ℕ) → stay n ≡ false → place stay (n + 1) ≡ place stay n
place-false stay n e = ap length (before-false stay n e)

-- a place is followed by the same or the next one
pub place-next : (stay : ℕ → Bool) (n : ℕ) → (place stay (n + 1) ≡ place stay n) ⊎ (place stay (n + 1) ≡ place stay n + 1)
place-next stay n = by_test (stay n) refl
  where
    by_test : (b : Bool) → stay n ≡ b → (place stay (n + 1) ≡ place stay n) ⊎ (place stay (n + 1) ≡ place stay n + 1)
    by_test true e = inr (place-true stay n e)
    by_test false e = inl (place-false stay n e)

place-le_next : (stay : ℕ → Bool) (n : ℕ) → place stay n ≤ place stay (n + 1)
place-le_next stay n = elim (place-next stay n) [ inl e ↦ omega (arith, e) | inr e ↦ omega (arith, e) ]

place-further : (stay : ℕ → Bool) (j m : ℕ) → place stay j ≤ place stay (j + m)
place-further stay j zero = let e : j + zero ≡ j = omega arith in rw e (let le : place stay j ≤ place stay j = omega arith in le)
place-further stay j (suc m) =
    let e : j + suc m ≡ (j + m) + 1 = omega arith in
    rw e (omega (arith, place-further stay j m, place-le_next stay (j + m)))

-- places keep the order
pub place-mono : (stay : ℕ → Bool) (j k : ℕ) → j ≤ k → place stay j ≤ place stay k
place-mono stay j k h = let e : j + (k - j) ≡ k = omega (arith, h) in subst (λ x. place stay j ≤ place stay x) e (place-further stay j (k - j))

pub place-below : (stay : ℕ → Bool) (j k : ℕ) → stay j ≡ true → j < k → place stay j < place stay k
place-below stay j k e h = omega (arith, place-true stay j e, place-mono stay (j + 1) k (omega (arith, h)))

pub place-reflects : (stay : ℕ → Bool) (j k : ℕ) → place stay j < place stay k → j < k
place-reflects stay j k h = elim (le_or_gt k j) [ inl le ↦ absurd (omega (arith, h, place-mono stay k j le)) | inr lt ↦ lt ]

pub place-after : (stay : ℕ → Bool) (j k : ℕ) → stay k ≡ true → place stay j ≤ place stay k → j ≤ k
place-after stay j k e h = elim (le_or_gt j k) [ inl le ↦ le | inr lt ↦ absurd (omega (arith, h, place-below stay k j e lt)) ]

-- no place is past its number
place-le_more : (stay : ℕ → Bool) (n : ℕ) → place stay n ≤ n → place stay (n + 1) ≤ n + 1
place-le_more stay n le = elim (place-next stay n) [ inl e ↦ omega (arith, e, le) | inr e ↦ omega (arith, e, le) ]

pub place-le : (stay : ℕ → Bool) (n : ℕ) → place stay n ≤ n
place-le stay zero = omega arith
place-le stay (suc n) =
    let n_is : suc n ≡ n + 1 = omega arith in
    subst (λ x. place stay x ≤ x) (sym n_is) (place-le_more stay n (place-le stay n))

-- what stays below n has its own place
get-before_last : (stay : ℕ → Bool) (n k d : ℕ) → stay k ≡ true → k ≡ n → get_or (before stay (n + 1)) (place stay k) d ≡ k
get-before_last stay n k d e same =
    let stays : stay n ≡ true = subst (λ x. stay x ≡ true) same e in
    subst (λ x. get_or (before stay (n + 1)) (place stay x) d ≡ x) (sym same)
    (rw (before-true stay n stays) (get_or-append_seam (before stay n) n [] d))

get-before_earlier : (stay : ℕ → Bool) (n k d : ℕ) → stay k ≡ true → k < n → get_or (before stay n) (place stay k) d ≡ k
    → (b : Bool) → stay n ≡ b → get_or (before stay (n + 1)) (place stay k) d ≡ k
get-before_earlier stay n k d e lt there true f =
    rw (before-true stay n f) (get_or-append (before stay n) (n ∷ []) d (place stay k) (place-below stay k n e lt) ∙ there)
get-before_earlier stay n k d e lt there false f = rw (before-false stay n f) there

pub get-before : (stay : ℕ → Bool) (n k d : ℕ) → stay k ≡ true → k < n → get_or (before stay n) (place stay k) d ≡ k
get-before stay zero k d e h = absurd (omega (arith, h))
get-before stay (suc n) k d e h =
    let n_is : suc n ≡ n + 1 = omega arith in
    let le : k ≤ n = omega (arith, h) in
    subst (λ x. get_or (before stay x) (place stay k) d ≡ k) (sym n_is)
    (elim (eq-or-lt_of_le le) [
      | inl same ↦ get-before_last stay n k d e same
      | inr lt ↦ get-before_earlier stay n k d e lt (get-before stay n k d e lt) (stay n) refl
    ])

-- what has the place i, and stays
pub record Stands (stay : ℕ → Bool) (n i : ℕ) : Type 0 where
  pub from : ℕ
  pub below : from < n
  pub stays : stay from ≡ true
  pub is : place stay from ≡ i

find-longer : (stay : ℕ → Bool) (n i : ℕ) → Stands stay n i → Stands stay (suc n) i
find-longer stay n i s = record { from = s.from; below = omega (arith, s.below); stays = s.stays; is = s.is }

find-more : (stay : ℕ → Bool) (n i : ℕ) → (i < place stay n → Stands stay n i) → (b : Bool) → stay n ≡ b → i < place stay (n + 1) → Stands stay (suc n) i
find-more stay n i again false e h = find-longer stay n i (again (omega (arith, h, place-false stay n e)))
find-more stay n i again true e h =
    let le : i ≤ place stay n = omega (arith, h, place-true stay n e) in
    elim (eq-or-lt_of_le le) [
      | inl same ↦ record { from = n; below = omega arith; stays = e; is = sym same }
      | inr lt ↦ find-longer stay n i (again lt)
    ]

pub find : (stay : ℕ → Bool) (n i : ℕ) → i < place stay n → Stands stay n i
find stay zero i h = absurd (omega (arith, h))
find stay (suc n) i h =
    let n_is : suc n ≡ n + 1 = omega arith in
    find-more stay n i (find stay n i) (stay n) refl (subst (λ x. i < place stay x) n_is h)
