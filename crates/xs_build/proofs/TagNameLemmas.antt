-- The names of a start tag, the first few in a list and the others in a set.
use Rattle.std.proofs.Common.{◌≡◌, ℕ, List, [], ◌∷◌, ◌++◌, Bool, true, false, not, refl, sym, ◌∙◌, ap}
use Rattle.std.specs.Prelude.{◌&&◌, ◌||◌}
use Rattle.std.specs.List.{list_any}
use Rattle.std.specs.Str.{bytes_eq}
use Rattle.std.proofs.lemmas.Bool.Decides.{same_from_decides}
use Rattle.std.proofs.lemmas.List.Folds.{list_any-append}
use Rattle.std.proofs.lemmas.Slice.Eq.{bytes_eq-Decides}
use Rattle.xs_build.specs.declared.tag_names.Expanded.{Expanded}
use Rattle.xs_build.specs.steps.Lines.{same_name}

same_bytes : (xs ys : List ℕ) → bytes_eq xs ys ≡ bytes_eq ys xs
same_bytes xs ys =
    same_from_decides (bytes_eq xs ys) (bytes_eq ys xs) (bytes_eq-Decides xs ys)
    (λ t. sym ((bytes_eq-Decides ys xs).0 t), λ e. (bytes_eq-Decides ys xs).1 (sym e))

-- two names as they are compared, local parts first
abbrev pub is_same : Expanded → Expanded → Bool
is_same a b = bytes_eq a.local b.local && bytes_eq a.uri b.uri

and_flip : (p q : Bool) → (p && q) ≡ (q && p)
and_flip true true = refl
and_flip true false = refl
and_flip false true = refl
and_flip false false = refl

same_either_order : (a b : Expanded) → is_same a b ≡ same_name a b
same_either_order a b = and_flip (bytes_eq a.local b.local) (bytes_eq a.uri b.uri)

same_either_way : (a b : Expanded) → is_same a b ≡ same_name b a
same_either_way a b =
    ap (λ x. x && bytes_eq a.uri b.uri) (same_bytes a.local b.local) ∙ ap (λ x. bytes_eq b.local a.local && x) (same_bytes a.uri b.uri)
    ∙ same_either_order b a

pub any_either_way : (name : Expanded) (xs : List Expanded) → list_any (λ x. is_same x name) xs ≡ list_any (same_name name) xs
any_either_way name [] = refl
any_either_way name (x ∷ xs) =
    ap (λ b. b || list_any (λ x. is_same x name) xs) (same_either_way x name) ∙ ap (λ b. same_name name x || b) (any_either_way name xs)

-- two names that are the same by their bytes are equal
pub from_same_name : (a b : Expanded) → same_name a b ≡ true → a ≡ b
from_same_name a b e = by_parts a b ((bytes_eq-Decides a.local b.local).0 (and_first _ _ (same_either_order a b ∙ e)))
    ((bytes_eq-Decides a.uri b.uri).0 (and_second _ _ (same_either_order a b ∙ e)))
  where
    and_first : (p q : Bool) → (p && q) ≡ true → p ≡ true
    and_first true q h = refl
    and_first false q h = h

    and_second : (p q : Bool) → (p && q) ≡ true → q ≡ true
    and_second true q h = h
    and_second false q h = cc

    by_parts : (x y : Expanded) → x.local ≡ y.local → x.uri ≡ y.uri → x ≡ y
    by_parts x y l u =
        ap (λ (t : List ℕ). let r : Expanded = record { local = t; uri = x.uri } in r) l
        ∙ ap (λ (t : List ℕ). let r : Expanded = record { local = y.local; uri = t } in r) u

-- the names of a tag, and whether one of the first few is this one
module _ (few others names : List Expanded) (name : Expanded) (found : Bool) (view : few ++ others ≡ names)
    (found_is : found ≡ list_any (λ x. is_same x name) few) where
  found_among : (found || list_any (same_name name) others) ≡ list_any (same_name name) names
  found_among =
      ap (λ b. b || list_any (same_name name) others) (found_is ∙ any_either_way name few) ∙ sym (list_any-append (same_name name) few others)
      ∙ ap (list_any (same_name name)) view

  pub found_in_few : found ≡ true → false ≡ not (list_any (same_name name) names)
  found_in_few is_so = ap (λ b. not (b || list_any (same_name name) others)) (sym is_so) ∙ ap not found_among

  pub found_in_others : (is_new : Bool) → found ≡ false → is_new ≡ not (list_any (same_name name) others)
      → is_new ≡ not (list_any (same_name name) names)
  found_in_others is_new is_not is = is
      ∙ ap (λ b. not (b || list_any (same_name name) others)) (sym is_not) ∙ ap not found_among

  pub found_nowhere : found ≡ false → others ≡ [] → true ≡ not (list_any (same_name name) names)
  found_nowhere is_not none = found_in_others true is_not (ap (λ xs. not (list_any (same_name name) xs)) (sym none))
