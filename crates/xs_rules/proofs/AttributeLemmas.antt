-- A node that is no element has no attributes, and so says nothing by `xml:space`.
use Rattle.std.proofs.Common.{◌≡◌, ◌∙◌, ◌<◌, ℕ, ap, refl, sym, arith, Bool, true, false, List, [], length, IsTrue, None}
use Rattle.std.proofs.Math.Bool.{and-false}
use Rattle.std.specs.List.{find}
use Rattle.std.specs.Option.{option_and_then}
use Rattle.xs_tree.proofs.WalkLemmas.{IsPlaced-at, is_place-false, passing-none, passing-skip}
use Rattle.xs_tree.specs.declared.kinds.Kind.{Kind}
use Rattle.xs_tree.specs.declared.kinds.Kind.TheVariants.{Root, Element, Attribute, Space, Text, Comment, Pi}
use Rattle.xs_tree.specs.Kinds.{can_hold, is_attribute_kind}
use Rattle.xs_tree.specs.Record.{Record, at, attributes, is_attribute, is_place}
use Rattle.xs_tree.specs.Shape.{IsTree}
use Rattle.xs_elements.specs.WhiteSpace.{space_value}
use Rattle.xs_rules.specs.WhiteSpace.{is_space, said_by}

-- an element alone holds attributes
not-held : (outer inner : Kind) → (outer ≡ Element → ⊥) → is_attribute_kind inner ≡ true → IsTrue (can_hold outer inner) → ⊥
not-held Element inner other a h = other refl
not-held Root Attribute other a h = cc
not-held Root Root other a h = cc
not-held Root Element other a h = cc
not-held Root Space other a h = cc
not-held Root Text other a h = cc
not-held Root Comment other a h = cc
not-held Root Pi other a h = cc
not-held Attribute inner other a h = cc
not-held Space inner other a h = cc
not-held Text inner other a h = cc
not-held Comment inner other a h = cc
not-held Pi inner other a h = cc

module _ (rs : List Record) (tree : IsTree rs) (n : ℕ) (other : (at rs n).kind ≡ Element → ⊥) where
  none-is : (k : ℕ) → k < length rs → (b : Bool) → is_attribute_kind (at rs k).kind ≡ b → is_attribute rs n k ≡ false
  none-is k inside false e = rw e (and-false (is_place n (at rs k).parent))
  none-is k inside true e =
      rw (is_place-false n (at rs k).parent (λ h. not-held (at rs n).kind (at rs k).kind other e (IsPlaced-at rs k n tree inside h).held)) refl

  no-attributes : attributes rs n ≡ []
  no-attributes =
      passing-skip (is_attribute rs n) rs 0 (omega arith) (λ j b. absurd (omega (arith, b)))
      ∙ passing-none (is_attribute rs n) rs 0 (λ j a b. none-is j b (is_attribute_kind (at rs j).kind) refl)

  pub nothing-said : None ≡ said_by rs n
  nothing-said = sym (ap (λ (l : List ℕ). option_and_then (λ k. space_value (at rs k).text) (find (is_space rs) l)) no-attributes)
