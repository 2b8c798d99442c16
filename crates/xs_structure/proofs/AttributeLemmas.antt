-- A node that is no element has no attributes.
use Rattle.std.proofs.Common.{◌≡◌, ◌∙◌, ◌<◌, ℕ, refl, arith, Bool, true, false, List, [], length, IsTrue}
use Rattle.std.proofs.Math.Bool.{and-false}
use Rattle.std.specs.Option.{unwrap_or}
use Rattle.xs_elements.specs.WhiteSpace.{own_space}
use Rattle.xs_tree.proofs.WalkLemmas.{IsPlaced-at, is_place-false, passing-none, passing-skip}
use Rattle.xs_tree.specs.declared.kinds.Kind.{Kind}
use Rattle.xs_tree.specs.declared.kinds.Kind.TheVariants.{Root, Element, Attribute, Space, Text, Comment, Pi}
use Rattle.xs_tree.specs.Kinds.{can_hold, is_attribute_kind, is_element_kind}
use Rattle.xs_tree.specs.Record.{Record, at, attributes, is_attribute, is_place}
use Rattle.xs_tree.specs.Shape.{IsTree}

-- an element alone holds attributes
not-held : (outer inner : Kind) → is_element_kind outer ≡ false → is_attribute_kind inner ≡ true → IsTrue (can_hold outer inner) → ⊥
not-held Root Attribute e a h = cc
not-held Element Attribute e a h = cc
not-held Attribute inner e a h = cc
not-held Space inner e a h = cc
not-held Text inner e a h = cc
not-held Comment inner e a h = cc
not-held Pi inner e a h = cc
not-held Root Root e a h = cc
not-held Root Element e a h = cc
not-held Root Space e a h = cc
not-held Root Text e a h = cc
not-held Root Comment e a h = cc
not-held Root Pi e a h = cc
not-held Element Root e a h = cc
not-held Element Element e a h = cc
not-held Element Space e a h = cc
not-held Element Text e a h = cc
not-held Element Comment e a h = cc
not-held Element Pi e a h = cc

module _ (rs : List Record) (tree : IsTree rs) (n : ℕ) (other : is_element_kind (at rs n).kind ≡ false) where
  none-is : (k : ℕ) → k < length rs → (b : Bool) → is_attribute_kind (at rs k).kind ≡ b → is_attribute rs n k ≡ false
  none-is k inside false e = rw e (and-false (is_place n (at rs k).parent))
  none-is k inside true e =
      rw (is_place-false n (at rs k).parent (λ h. not-held (at rs n).kind (at rs k).kind other e (IsPlaced-at rs k n tree inside h).held)) refl

  pub no-attributes : attributes rs n ≡ []
  no-attributes =
      passing-skip (is_attribute rs n) rs 0 (omega arith) (λ j b. absurd (omega (arith, b)))
      ∙ passing-none (is_attribute rs n) rs 0 (λ j a b. none-is j b (is_attribute_kind (at rs j).kind) refl)

  pub says-nothing : (around : Bool) → around ≡ unwrap_or (own_space rs n) around
  says-nothing around = rw no-attributes refl
