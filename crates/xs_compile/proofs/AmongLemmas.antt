-- What is among the items of a list.
use Rattle.std.proofs.Common.{◌≡◌, ◌∙◌, ◌<◌, ◌≤◌, ◌+◌, ◌⊎◌, ℕ, zero, suc, ap, arith, refl, sym, subst, All, List, [], ◌∷◌, ◌++◌, cond, filter, length, map, Bool, true, false, inl, inr}
use Rattle.std.proofs.lemmas.Bool.{and_parts, false≢true}
use Rattle.std.proofs.lemmas.List.Elements.{All-cons, All-head, All-nil, All-tail}
use Rattle.std.specs.List.{flat_map, list_all, range_with_len}
use Rattle.xs_static.specs.Circles.{IsAmong}
use Rattle.xs_tree.proofs.WalkLemmas.{le_or_gt}
use Rattle.xs_tree.specs.Record.{Record, places}

-- ---- what is there
pub place-among : (k a n : ℕ) → a ≤ k → k < a + n → IsAmong k (range_with_len a n)
place-among k a zero low high = absurd (omega (arith, low, high))
place-among k a (suc n) low high = elim (le_or_gt k a) [
  | inl same ↦ inl (omega (arith, low, same))
  | inr after ↦ inr (place-among k (a + 1) n (omega (arith, after)) (omega (arith, high)))
]

module _ {X : Type 0} where
  pub among-left : (x : X) (xs ys : List X) → IsAmong x xs → IsAmong x (xs ++ ys)
  among-left x [] ys h = absurd h
  among-left x (y ∷ xs) ys (inl e) = inl e
  among-left x (y ∷ xs) ys (inr h) = inr (among-left x xs ys h)

  pub among-right : (x : X) (xs ys : List X) → IsAmong x ys → IsAmong x (xs ++ ys)
  among-right x [] ys h = h
  among-right x (y ∷ xs) ys h = inr (among-right x xs ys h)

  pub among-flat : {Y : Type 0} (f : Y → List X) (y : Y) (x : X) (ys : List Y) → IsAmong y ys → IsAmong x (f y) → IsAmong x (flat_map f ys)
  among-flat f y x [] h g = absurd h
  among-flat f y x (z ∷ ys) (inl e) g = among-left x (f z) (flat_map f ys) (subst (λ w. IsAmong x (f w)) (sym e) g)
  among-flat f y x (z ∷ ys) (inr h) g = among-right x (f z) (flat_map f ys) (among-flat f y x ys h g)

  kept-next : (test : X → Bool) (x y : X) (kept : List X) (b : Bool) → test y ≡ b → test x ≡ true → (y ≡ x) ⊎ IsAmong x kept
      → IsAmong x (cond b (y ∷ kept) kept)
  kept-next test x y kept true e h g = g
  kept-next test x y kept false e h (inl same) = absurd (false≢true (sym e ∙ ap test same ∙ h))
  kept-next test x y kept false e h (inr more) = more

  pub among-filter : (test : X → Bool) (x : X) (xs : List X) → IsAmong x xs → test x ≡ true → IsAmong x (filter test xs)
  among-filter test x [] h e = absurd h
  among-filter test x (y ∷ xs) (inl same) e = kept-next test x y (filter test xs) (test y) refl e (inl same)
  among-filter test x (y ∷ xs) (inr more) e = kept-next test x y (filter test xs) (test y) refl e (inr (among-filter test x xs more e))

pub among-map : {X Y : Type 0} (f : X → Y) (x : X) (xs : List X) → IsAmong x xs → IsAmong (f x) (map f xs)
among-map f x [] a = absurd a
among-map f x (y ∷ ys) (inl same) = inl (ap f same)
among-map f x (y ∷ ys) (inr more) = inr (among-map f x ys more)

-- ---- lists, taken apart
module _ {X : Type 0} where
  pub among-append : (x : X) (xs ys : List X) → IsAmong x (xs ++ ys) → IsAmong x xs ⊎ IsAmong x ys
  among-append x [] ys h = inr h
  among-append x (y ∷ xs) ys (inl e) = inl (inl e)
  among-append x (y ∷ xs) ys (inr h) = elim (among-append x xs ys h) [
    | inl a ↦ inl (inr a)
    | inr b ↦ inr b
  ]

  pub among-kept : (test : X → Bool) (x : X) (xs : List X) → IsAmong x (filter test xs) → IsAmong x xs × (test x ≡ true)
  among-kept test x [] h = absurd h
  among-kept test x (y ∷ xs) h = by (test y) refl h (among-kept test x xs)
    where
      by : (b : Bool) → test y ≡ b → IsAmong x (cond b (y ∷ filter test xs) (filter test xs))
          → (IsAmong x (filter test xs) → IsAmong x xs × (test x ≡ true)) → ((y ≡ x) ⊎ IsAmong x xs) × (test x ≡ true)
      by true e (inl same) again = (inl same, ap test (sym same) ∙ e)
      by true e (inr more) again = let r = again more in (inr r.0, r.1)
      by false e more again = let r = again more in (inr r.0, r.1)

  pub among-all : (P : X → Type 0) (xs : List X) (x : X) → All P xs → IsAmong x xs → P x
  among-all P [] x a h = absurd h
  among-all P (y ∷ xs) x a (inl e) = subst P e (All-head P y xs a)
  among-all P (y ∷ xs) x a (inr h) = among-all P xs x (All-tail P y xs a) h

  -- what is among the lists of some
  pub record FromFlat {Y : Type 0} (f : Y → List X) (x : X) (ys : List Y) : Type 0 where
    pub item : Y
    pub among : IsAmong item ys
    pub inside : IsAmong x (f item)

  pub among-flattened : {Y : Type 0} (f : Y → List X) (x : X) (ys : List Y) → IsAmong x (flat_map f ys) → FromFlat f x ys
  among-flattened f x [] h = absurd h
  among-flattened f x (y ∷ ys) h = elim (among-append x (f y) (flat_map f ys) h) [
    | inl a ↦ record { item = y; among = inl refl; inside = a }
    | inr b ↦ (let r = among-flattened f x ys b in record { item = r.item; among = inr r.among; inside = r.inside })
  ]

  pub record FromMap {Y : Type 0} (f : Y → X) (x : X) (ys : List Y) : Type 0 where
    pub item : Y
    pub among : IsAmong item ys
    pub is : f item ≡ x

  pub among-mapped : {Y : Type 0} (f : Y → X) (x : X) (ys : List Y) → IsAmong x (map f ys) → FromMap f x ys
  among-mapped f x [] h = absurd h
  among-mapped f x (y ∷ ys) (inl e) = record { item = y; among = inl refl; is = e }
  among-mapped f x (y ∷ ys) (inr h) =
      let r = among-mapped f x ys h in
      record { item = r.item; among = inr r.among; is = r.is }

among-below : (k a n : ℕ) → IsAmong k (range_with_len a n) → k < a + n
among-below k a zero h = absurd h
among-below k a (suc n) (inl e) = omega (arith, e)
among-below k a (suc n) (inr h) = let more = among-below k (a + 1) n h in omega (arith, more)

pub place-below : (rs : List Record) (k : ℕ) → IsAmong k (places rs) → k < length rs
place-below rs k h = let below = among-below k 0 (length rs) h in omega (arith, below)

-- ---- what holds of each
pub all-among : {X : Type 0} (P : X → Type 0) (xs : List X) → ((x : X) → IsAmong x xs → P x) → All P xs
all-among P [] f = All-nil P
all-among P (x ∷ xs) f = All-cons P x xs (f x (inl refl)) (all-among P xs (λ y h. f y (inr h)))

pub all-of : {X : Type 0} (test : X → Bool) (x : X) (xs : List X) → list_all test xs ≡ true → IsAmong x xs → test x ≡ true
all-of test x [] h a = absurd a
all-of test x (y ∷ ys) h (inl same) = subst (λ z. test z ≡ true) same (and_parts (test y) (list_all test ys) h).0
all-of test x (y ∷ ys) h (inr more) = all-of test x ys (and_parts (test y) (list_all test ys) h).1 more
