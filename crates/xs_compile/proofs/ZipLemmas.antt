-- Two lists that are related place by place, one place more.
use Rattle.std.proofs.Common.{◌≡◌, ◌∙◌, ◌<◌, ◌≤◌, ◌+◌, ◌-◌, ◌*◌, ℕ, zero, suc, ap, refl, sym, subst, arith, List, [], ◌∷◌, ◌++◌, length, map, take, get_or, All, Bool, Some, true, false, filter}
use Rattle.std.proofs.lemmas.List.{take_all, append-nil, map_push}
use Rattle.std.proofs.lemmas.List.Elements.{filter-append}
use Rattle.std.specs.List.{AllZip}
use Rattle.std.proofs.lemmas.Option.{none-some}
use Rattle.std.specs.Prelude.{slice_get, if◌then◌else◌}
use Rattle.xs_modules.specs.Numbering.{ModuleData}
use Rattle.xs_structure.specs.Modules.{Place, records_at}

pub taken-more : {A : Type 0} (xs : List A) (i : ℕ) (x : A) → i < length xs → x ≡ get_or xs i x → take (i + 1) xs ≡ take i xs ++ x ∷ []
taken-more [] i x lt e = absurd (omega (arith, lt))
taken-more (z ∷ zs) zero x lt e = ap (λ w. w ∷ []) (sym e)
taken-more (z ∷ zs) (suc i) x lt e =
    let next : suc i + 1 ≡ suc (i + 1) = omega arith in
    ap (λ k. take k (z ∷ zs)) next ∙ ap (λ ws. z ∷ ws) (taken-more zs i x (omega (arith, lt)) e)

-- the item that is found is the one that is read
pub item-got : (ms : List ModuleData) (i : ℕ) (d : ModuleData) → slice_get ms i ≡ Some d → d ≡ get_or ms i d
item-got [] i d e = refl
item-got (x ∷ xs) zero d e = cc (e)
item-got (x ∷ xs) (suc i) d e = item-got xs i d e

module _ {A B : Type 0} (R : A → B → Type 0) where
  pub zip-push : (xs : List A) (ys : List B) (x : A) (y : B) → AllZip R xs ys → R x y → AllZip R (xs ++ x ∷ []) (ys ++ y ∷ [])
  zip-push [] [] x y h r = (r, tt)
  zip-push [] (b ∷ bs) x y h r = absurd h
  zip-push (a ∷ more) [] x y h r = absurd h
  zip-push (a ∷ more) (b ∷ bs) x y h r = (h.0, zip-push more bs x y h.1 r)

  pub zip-more : (xs : List A) (ys : List B) (i : ℕ) (x : A) (y : B) → i < length xs → x ≡ get_or xs i x → AllZip R (take i xs) ys → R x y
      → AllZip R (take (i + 1) xs) (ys ++ y ∷ [])
  zip-more xs ys i x y lt e h r =
      subst (λ zs. AllZip R zs (ys ++ y ∷ [])) (sym (taken-more xs i x lt e)) (zip-push (take i xs) ys x y h r)

  pub zip-end : (xs : List A) (ys : List B) (i : ℕ) → length xs ≤ i → AllZip R (take i xs) ys → AllZip R xs ys
  zip-end xs ys i le h = subst (λ zs. AllZip R zs ys) (take_all i xs le) h

  -- of those that pass a test
  pub zip-if : (test : A → Bool) (xs : List A) (ys : List B) (x : A) (y : B) → AllZip R (filter test xs) ys → test x ≡ true → R x y
      → AllZip R (filter test (xs ++ x ∷ [])) (ys ++ y ∷ [])
  zip-if test xs ys x y h e r =
      subst (λ zs. AllZip R zs (ys ++ y ∷ []))
      (sym (filter-append test xs (x ∷ []) ∙ ap (λ (b : Bool). filter test xs ++ (if b then x ∷ [] else [])) e))
      (zip-push (filter test xs) ys x y h r)

  pub zip-skip : (test : A → Bool) (xs : List A) (ys : List B) (x : A) → AllZip R (filter test xs) ys → test x ≡ false
      → AllZip R (filter test (xs ++ x ∷ [])) ys
  zip-skip test xs ys x h e =
      subst (λ zs. AllZip R zs ys)
      (sym (filter-append test xs (x ∷ []) ∙ ap (λ (b : Bool). filter test xs ++ (if b then x ∷ [] else [])) e ∙ append-nil (filter test xs))) h

-- what holds of all items holds of one
pub item-of : {A : Type 0} (P : A → Type 0) (xs : List A) (i : ℕ) (x : A) → All P xs → i < length xs → x ≡ get_or xs i x → P x
item-of P xs i x all lt e = subst P (sym e) (all i x lt)

-- and of the first
pub first-of : {A : Type 0} (P : A → Type 0) (xs : List A) (x : A) → All P xs → slice_get xs 0 ≡ Some x → P x
first-of P [] x all e = absurd (none-some x e)
first-of P (y ∷ ys) x all e = let same : y ≡ x = cc (e) in subst P same (all 0 y (omega arith))

-- behind a place of a module fewer nodes come than behind an earlier one
falls : (a b x y r s : ℕ) → a ≡ b → x < y → y < a → r < 8 → 8 * (a - y) + r < 8 * (b - x) + s
falls a b x y r s same behind within small = omega (arith, same, behind, within, small)

pub behind-falls : (ms : List ModuleData) (inside q : Place) (r s t : ℕ) → 8 * (length (records_at ms inside.0) - inside.1) + s ≡ t
    → q.0 ≡ inside.0 → inside.1 < q.1 → q.1 < length (records_at ms q.0) → r < 8
    → 8 * (length (records_at ms q.0) - q.1) + r < t
behind-falls ms inside q r s t entered same behind within small =
    subst (λ m. 8 * (length (records_at ms q.0) - q.1) + r < m) entered
    (falls (length (records_at ms q.0)) (length (records_at ms inside.0)) inside.1 q.1 r s (ap (λ m. length (records_at ms m)) same) behind within small)

-- ---- what the tables of modules have, one module more
module _ {T X : Type 0} (of : ModuleData → X) (items : T → X) where
  pub tables-more : (ms : List ModuleData) (all : List T) (i : ℕ) (d : ModuleData) (t : T) → i < length ms → slice_get ms i ≡ Some d
      → map items all ≡ map of (take i ms) → items t ≡ of d → map items (all ++ t ∷ []) ≡ map of (take (i + 1) ms)
  tables-more ms all i d t lt e before h =
      map_push items all t ∙ ap (λ (xs : List X). xs ++ items t ∷ []) before ∙ ap (λ (x : X). map of (take i ms) ++ x ∷ []) h
      ∙ sym (map_push of (take i ms) d) ∙ ap (map of) (sym (taken-more ms i d lt (item-got ms i d e)))
