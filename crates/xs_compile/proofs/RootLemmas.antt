-- The element of a module, and the first module.
use Rattle.std.proofs.Common.{◌≡◌, ◌∙◌, ◌<◌, ap, get_or, length, refl, subst, sym, arith, ℕ, List, [], ◌∷◌, cond, filter, find, Bool, true, false, Option, None, Some}
use Rattle.std.proofs.lemmas.List.{get_or_default}
use Rattle.std.proofs.lemmas.Option.{none-some}
use Rattle.std.proofs.Math.Path.{fun_ext}
use Rattle.std.specs.List.{All, slice_get}
use Rattle.std.specs.Option.{option_map_or}
use Rattle.std.specs.Prelude.{◌&&◌}
use Rattle.xs_compile.specs.Represents.{is_root_element, root_line}
use Rattle.xs_modules.specs.Numbering.{ModuleData}
use Rattle.xs_tree.specs.declared.kinds.Kind.{Kind}
use Rattle.xs_tree.specs.declared.kinds.Kind.TheVariants.{Root, Element, Attribute, Space, Text, Comment, Pi}
use Rattle.xs_tree.specs.Kinds.{is_child_kind, is_element_kind}
use Rattle.xs_tree.specs.Record.{Record, at, children, is_child, is_place, places}

-- the first of those that pass one test that passes another one
module _ (first second : ℕ → Bool) where
  next : (x : ℕ) (o : Option ℕ) (xs : List ℕ) (b : Bool) → find second xs ≡ o
      → find second (cond b (x ∷ xs) xs) ≡ cond (b && second x) (Some x) o
  next x o xs true e = ap (λ (r : Option ℕ). cond (second x) (Some x) r) e
  next x o xs false e = e

  find-both : (xs : List ℕ) → find second (filter first xs) ≡ find (λ x. first x && second x) xs
  find-both [] = refl
  find-both (x ∷ xs) = next x (find (λ x. first x && second x) xs) (filter first xs) (first x) (find-both xs)

-- a child that is an element
kinds : (here : Bool) (kind : Kind) → ((here && is_child_kind kind) && is_element_kind kind) ≡ (is_element_kind kind && here)
kinds true Root = refl
kinds true Element = refl
kinds true Attribute = refl
kinds true Space = refl
kinds true Text = refl
kinds true Comment = refl
kinds true Pi = refl
kinds false Root = refl
kinds false Element = refl
kinds false Attribute = refl
kinds false Space = refl
kinds false Text = refl
kinds false Comment = refl
kinds false Pi = refl

pub root_element_is : (rs : List Record) → find (λ k. is_element_kind (at rs k).kind) (children rs 0) ≡ find (is_root_element rs) (places rs)
root_element_is rs =
    find-both (is_child rs 0) (λ k. is_element_kind (at rs k).kind) (places rs)
    ∙ ap (λ (test : ℕ → Bool). find test (places rs)) (fun_ext (λ k. kinds (is_place 0 (at rs k).parent) (at rs k).kind))

-- what holds of all holds of the first
some-same : {X : Type 0} (x y : X) → Some x ≡ Some y → x ≡ y
some-same x y e = ap (λ (o : Option _). option_map_or (λ z. z) o x) e

pub first_is : {X : Type 0} (P : X → Type 0) (xs : List X) (x : X) → slice_get xs 0 ≡ Some x → All P xs → P x
first_is P [] x e h = absurd (none-some x e)
first_is P (y ∷ ys) x e h = subst P (some-same y x e) (h 0 y (omega arith))

-- ---- the line of the element of the first module
pub root_line_is : (ms : List ModuleData) (d : ModuleData) (element line : ℕ) → slice_get ms 0 ≡ Some d
    → Some element ≡ find (is_root_element d.records) (places d.records) → line ≡ get_or d.lines element line → element < length d.lines
    → line ≡ root_line ms
root_line_is [] d element line first found at inside = absurd (none-some d first)
root_line_is (x ∷ xs) d element line first found at inside =
    let same = some-same x d first in
    at ∙ get_or_default d.lines element line 0 inside
    ∙ ap (λ (o : Option ℕ). option_map_or (λ n. get_or d.lines n 0) o 0) found
    ∙ ap (λ (e : ModuleData). option_map_or (λ n. get_or e.lines n 0) (find (is_root_element e.records) (places e.records)) 0) (sym same)

pub no_root_line : (ms : List ModuleData) (d : ModuleData) → slice_get ms 0 ≡ Some d
    → ◌≡◌ {A = Option ℕ} None (find (is_root_element d.records) (places d.records)) → 0 ≡ root_line ms
no_root_line [] d first found = absurd (none-some d first)
no_root_line (x ∷ xs) d first found =
    let same = some-same x d first in
    ap (λ (o : Option ℕ). option_map_or (λ n. get_or d.lines n 0) o 0) found
    ∙ ap (λ (e : ModuleData). option_map_or (λ n. get_or e.lines n 0) (find (is_root_element e.records) (places e.records)) 0) (sym same)
