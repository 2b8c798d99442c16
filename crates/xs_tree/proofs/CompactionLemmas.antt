-- Items that move to their new places one after another overwrite none that has moved or has still to move.
use Rattle.std.proofs.Common.{◌≡◌, ◌≢◌, ℕ, zero, suc, ◌+◌, ◌-◌, ◌<◌, ◌≤◌, List, ◌++◌, Some, drop, get_or, length, set, take, slice_get, refl, sym, ◌∙◌, ap}
use Rattle.std.proofs.Common.{subst, arith, length-take, inl, inr}
use Rattle.std.proofs.Math.Nat.{eq-or-lt_of_le}
use Rattle.std.proofs.lemmas.List.{get_or-set_other, get_or-set_same, get_or-take, length-set, take-append-le, take_all}
use Rattle.std.proofs.lemmas.Option.{get_or_from_slice_get, slice_get-get_or, slice_get_within}
use Rattle.xs_tree.specs.steps.Compaction.{AreNewPlaces, HaveMoved, IsCompacted}

module _ (places : List ℕ) (n : ℕ) (are : AreNewPlaces places n) where
  abbrev new : ℕ → ℕ
  new k = get_or places k 0

  new-le_next : (k : ℕ) → k < n → new k ≤ new (k + 1)
  new-le_next k h = elim (are.next k h) [ inl e ↦ omega (arith, e) | inr e ↦ omega (arith, e) ]

  new-further : (j m : ℕ) → j + m ≤ n → new j ≤ new (j + m)
  new-further j zero h = let e : j + zero ≡ j = omega arith in rw e (let le : new j ≤ new j = omega arith in le)
  new-further j (suc m) h =
      let e : j + suc m ≡ (j + m) + 1 = omega arith in
      rw e (omega (arith, new-further j m (omega (arith, h)), new-le_next (j + m) (omega (arith, h))))

  -- new places keep the order, and are no later
  pub new-mono : (j k : ℕ) → j ≤ k → k ≤ n → new j ≤ new k
  new-mono j k le h = let e : j + (k - j) ≡ k = omega (arith, le) in subst (λ x. new j ≤ new x) e (new-further j (k - j) (omega (arith, e, h)))

  new-le_more : (k : ℕ) → k < n → new k ≤ k → new (k + 1) ≤ k + 1
  new-le_more k h le = elim (are.next k h) [ inl e ↦ omega (arith, e, le) | inr e ↦ omega (arith, e, le) ]

  pub new-le : (k : ℕ) → k ≤ n → new k ≤ k
  new-le zero h = omega (arith, are.first)
  new-le (suc k) h =
      let e : suc k ≡ k + 1 = omega arith in
      subst (λ x. new x ≤ x) (sym e) (new-le_more k (omega (arith, h)) (new-le k (omega (arith, h))))

-- what stands at a place after another was written
stays-elsewhere : {X : Type 0} (xs : List X) (w k : ℕ) (x y : X) → k ≢ w → slice_get xs k ≡ Some y → slice_get (set xs w x) k ≡ Some y
stays-elsewhere xs w k x y n e =
    slice_get-get_or (set xs w x) k y (omega (arith, slice_get_within xs k y e, length-set xs w x))
    ∙ ap Some (get_or-set_other xs w k x y n ∙ get_or_from_slice_get xs k y y e)

stands-written : {X : Type 0} (xs : List X) (w : ℕ) (x : X) → w < length xs → slice_get (set xs w x) w ≡ Some x
stands-written xs w x h = slice_get-get_or (set xs w x) w x (omega (arith, h, length-set xs w x)) ∙ ap Some (get_or-set_same xs w x x h)

stays-taken : {X : Type 0} (xs : List X) (m k : ℕ) (y : X) → k < m → slice_get xs k ≡ Some y → slice_get (take m xs) k ≡ Some y
stays-taken xs m k y h e =
    slice_get-get_or (take m xs) k y (omega (arith, h, slice_get_within xs k y e, length-take m xs))
    ∙ ap Some (get_or-take m xs k y h ∙ get_or_from_slice_get xs k y y e)

pub moved-start : {X : Type 0} (f : X → X) (places : List ℕ) (old : List X) → HaveMoved f places old old 0
moved-start f places old = record { long = refl; moved = λ k x b lt e. absurd (omega (arith, b)); rest = λ k x le e. e }

pub moved-step : {X : Type 0} (f : X → X) (places : List ℕ) (old items : List X) (place : ℕ) (x : X) → AreNewPlaces places (length old) → place < length old
    → slice_get items place ≡ Some x → HaveMoved f places old items place → HaveMoved f places old (set items (get_or places place 0) (f x)) (place + 1)
moved-step {X} f places old items place x are within is h =
    record {
      long = length-set items (get_or places place 0) (f x) ∙ h.long;
      moved = λ k y b lt e. elim (eq-or-lt_of_le (let le : k ≤ place = omega (arith, b) in le)) [
        | inl same ↦ here k y same e
        | inr earlier ↦ stays-elsewhere items (get_or places place 0) (get_or places k 0) (f x) (f y)
            (λ clash. omega (arith, clash, lt, new-mono places (length old) are (k + 1) place (omega (arith, earlier)) (omega (arith, within))))
            (h.moved k y earlier lt e)
      ];
      rest = λ k y le e. stays-elsewhere items (get_or places place 0) k (f x) y (λ clash. omega (arith, clash, le, low)) (h.rest k y (omega (arith, le)) e);
    }
  where
    low : get_or places place 0 ≤ place
    low = new-le places (length old) are place (omega (arith, within))

    here : (k : ℕ) (y : X) → k ≡ place → slice_get old k ≡ Some y → slice_get (set items (get_or places place 0) (f x)) (get_or places k 0) ≡ Some (f y)
    here k y same e =
        let there : slice_get items place ≡ Some y = h.rest place y (omega arith) (ap (slice_get old) (sym same) ∙ e) in
        let x_is : x ≡ y = sym (get_or_from_slice_get items place x x is) ∙ get_or_from_slice_get items place y x there in
        ap (λ j. slice_get (set items (get_or places place 0) (f x)) (get_or places j 0)) same
        ∙ stands-written items (get_or places place 0) (f x) (omega (arith, low, within, h.long)) ∙ ap (λ z. Some (f z)) x_is

-- a vector whose items were all written
pub written_back : {X : Type 0} (n : ℕ) (xs old : List X) → n ≡ length xs → take n (xs ++ drop (length xs) old) ≡ xs
written_back n xs old e = take-append-le n xs (drop (length xs) old) (omega (arith, e)) ∙ take_all n xs (omega (arith, e))

pub moved-end : {X : Type 0} (f : X → X) (places : List ℕ) (old items new : List X) (count : ℕ) → AreNewPlaces places (length old)
    → count ≡ get_or places (length old) 0 → new ≡ take count items → HaveMoved f places old items (length old) → IsCompacted f places old new
moved-end f places old items new count are count_is new_is h =
    record {
      count = omega (arith, ap length new_is, length-take count items, count_is, new-le places (length old) are (length old) (omega arith), h.long);
      moved = λ k x lt e.
          let within : k < length old = slice_get_within old k x e in
          rw new_is (stays-taken items count (get_or places k 0) (f x)
          (omega (arith, lt, count_is, new-mono places (length old) are (k + 1) (length old) (omega (arith, within)) (omega arith)))
          (h.moved k x within lt e));
    }
