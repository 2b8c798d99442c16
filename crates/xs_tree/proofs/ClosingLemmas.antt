-- The walk that ends subtrees, one step after another.
use Rattle.std.proofs.Common.{◌≡◌, ◌≢◌, ℕ, ◌<◌, List, [], ◌∷◌, ◌++◌, Some, length, sym, ◌∙◌, ap, arith, set, slice_get, length-append, ◌⊎◌, inl, inr}
use Rattle.std.proofs.Math.Nat.{eq-or-lt_of_le}
use Rattle.std.proofs.Math.ListN.{get_or-append}
use Rattle.std.proofs.Math.Seq.{get_or-append_seam}
use Rattle.std.proofs.lemmas.Bool.Decides.{leb_tells}
use Rattle.std.proofs.lemmas.List.{get_or-set_same, get_or-set_other, length-set}
use Rattle.std.proofs.lemmas.Option.{slice_get-get_or, slice_get_within, get_or_from_slice_get}
use Rattle.xs_tree.specs.declared.entries.Entry.{Entry}
use Rattle.xs_tree.specs.Closing.{ParentsBefore, Closes}
use Rattle.xs_tree.specs.Closing.Closes.{ended}

-- a place is another or before it or after it
pub same_or_other : (k w : ℕ) → (k ≡ w) ⊎ (k ≢ w)
same_or_other k w =
    elim (leb_tells k w) [
      | inl h ↦ elim (eq-or-lt_of_le h.1) [ inl e ↦ inl e | inr lt ↦ inr (λ e. omega (arith, e, lt)) ]
      | inr h ↦ inr (λ e. omega (arith, e, h.1))
    ]

-- what is at a place after a write
pub written_at : {X : Type 0} (xs : List X) (w : ℕ) (x y : X) → w < length xs → slice_get (set xs w x) w ≡ Some y → y ≡ x
written_at xs w x y h e = sym (get_or_from_slice_get (set xs w x) w y x e) ∙ get_or-set_same xs w x x h

pub written_elsewhere : {X : Type 0} (xs : List X) (w k : ℕ) (x y : X) → k ≢ w → slice_get (set xs w x) k ≡ Some y → slice_get xs k ≡ Some y
written_elsewhere xs w k x y n e =
    let within : k < length xs = omega (arith, slice_get_within (set xs w x) k y e, length-set xs w x) in
    slice_get-get_or xs k y within ∙ ap Some (sym (get_or-set_other xs w k x y n) ∙ get_or_from_slice_get (set xs w x) k y y e)

-- what is at a place of a longer list
pub get-before : {X : Type 0} (xs : List X) (x y : X) (k : ℕ) → k < length xs → slice_get (xs ++ x ∷ []) k ≡ Some y → slice_get xs k ≡ Some y
get-before xs x y k h e =
    slice_get-get_or xs k y h ∙ ap Some (sym (get_or-append xs (x ∷ []) y k h) ∙ get_or_from_slice_get (xs ++ x ∷ []) k y y e)

pub get-last : {X : Type 0} (xs : List X) (x y : X) → slice_get (xs ++ x ∷ []) (length xs) ≡ Some y → y ≡ x
get-last xs x y e = sym (get_or_from_slice_get (xs ++ x ∷ []) (length xs) y x e) ∙ get_or-append_seam xs x [] x

-- an end changes no parent
pub ParentsBefore-ended : (es : List Entry) (p w end : ℕ) (e : Entry) → slice_get es w ≡ Some e → ParentsBefore es p
    → ParentsBefore (set es w (record e { end = end })) p
ParentsBefore-ended es p w end e is b = λ k f a h. by_place k f a h (same_or_other k w)
  where
    by_place : (k : ℕ) (f : Entry) → p < k → slice_get (set es w (record e { end = end })) k ≡ Some f → (k ≡ w) ⊎ (k ≢ w) → f.parent < k
    by_place k f a h (inl same) =
        let there : slice_get (set es w (record e { end = end })) w ≡ Some f = ap (slice_get (set es w (record e { end = end }))) (sym same) ∙ h in
        let f_is : f ≡ record e { end = end } = written_at es w (record e { end = end }) f (slice_get_within es w e is) there in
        let parent_is : f.parent ≡ e.parent = ap (λ x. x.parent) f_is in
        let before : e.parent < w = b w e (omega arith) is in
        omega arith
    by_place k f a h (inr other) = b k f a (written_elsewhere es w k (record e { end = end }) f other h)

-- an added node's parent comes before it too
pub ParentsBefore-added : (es : List Entry) (p : ℕ) (e : Entry) → e.parent < length es → ParentsBefore es p → ParentsBefore (es ++ e ∷ []) p
ParentsBefore-added es p e w b = λ k f a h. by_place k f a h (same_or_other k (length es))
  where
    by_place : (k : ℕ) (f : Entry) → p < k → slice_get (es ++ e ∷ []) k ≡ Some f → (k ≡ length es) ⊎ (k ≢ length es) → f.parent < k
    by_place k f a h (inl same) =
        let there : slice_get (es ++ e ∷ []) (length es) ≡ Some f = ap (slice_get (es ++ e ∷ [])) (sym same) ∙ h in
        let parent_is : f.parent ≡ e.parent = ap (λ x. x.parent) (get-last es e f there) in
        omega arith
    by_place k f a h (inr other) =
        let within : k < length es = omega (arith, slice_get_within (es ++ e ∷ []) k f h, length-append es (e ∷ []), other) in
        b k f a (get-before es e f k within h)

-- the walk at the node at w: what the rest of it makes of the entries is what all of it makes of those at the start
abbrev pub IsWalk : ℕ → ℕ → List Entry → ℕ → List Entry → ℕ → Type 0
IsWalk p end old last es w =
    (w < length es) × ParentsBefore es p × ((new : List Entry) → Closes p end es w new → Closes p end old last new)

pub IsWalk-step : (p end : ℕ) (old : List Entry) (last : ℕ) (es : List Entry) (w : ℕ) (e : Entry) → slice_get es w ≡ Some e → p < w
    → IsWalk p end old last es w → IsWalk p end old last (set es w (record e { end = end })) e.parent
IsWalk-step p end old last es w e is a walk = (
  let before : e.parent < w = walk.1 w e a is in omega (arith, before, walk.0, length-set es w (record e { end = end })),
  ParentsBefore-ended es p w end e is walk.1,
  λ new rest. walk.2 new (ended e a is rest),
)
