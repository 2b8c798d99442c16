-- The namespace nodes of a node come first of all that is inside it.
use Rattle.std.proofs.Common.{◌≡◌, ℕ, ◌+◌, ◌<◌, ◌≤◌, ◌&&◌, Bool, true, false, List, [], ◌++◌, ◌∷◌, Option, None, Some, length, refl, ap, arith, IsTrue, ◌⊎◌}
use Rattle.std.proofs.Common.{inl, inr}
use Rattle.std.proofs.lemmas.Bool.{and_left, eq-eqb, eqb-true}
use Rattle.std.proofs.Math.Nat.{eq-or-lt_of_le}
use Rattle.std.specs.Prelude.{IsSomeAnd}
use Rattle.xs_tree.specs.declared.kinds.Kind.{Kind}
use Rattle.xs_tree.specs.declared.kinds.Kind.TheVariants.{Root, Element, Attribute, Space, Text, Comment, Pi}
use Rattle.xs_tree.specs.Kinds.{can_hold, is_namespace_kind, rank}
use Rattle.xs_tree.specs.Record.{Record, at, is_namespace, is_place, namespaces}
use Rattle.xs_tree.specs.Shape.{IsPlaced, IsTree}
use Rattle.xs_tree.specs.Walk.{namespaces_from}
use Rattle.xs_tree.proofs.WalkLemmas.{IsPlaced-at, is_place-false, not_before, passing-none, passing-skip, passing-within}

and_both : (a b : Bool) → (a && b) ≡ true → (IsTrue a) × (b ≡ true)
and_both true b h = (refl, h)
and_both false b h = cc

is_false : (b : Bool) → (b ≡ true → ⊥) → b ≡ false
is_false true h = absurd (h refl)
is_false false h = refl

place-true : (n : ℕ) (o : Option ℕ) → IsTrue (is_place n o) → o ≡ Some n
place-true n None h = cc
place-true n (Some p) h = ap Some (eqb-true p n h)

namespace-rank : (kind : Kind) → is_namespace_kind kind ≡ true → rank kind ≡ 0
namespace-rank Root e = cc
namespace-rank Element e = cc
namespace-rank Attribute e = cc
namespace-rank Space e = refl
namespace-rank Text e = cc
namespace-rank Comment e = cc
namespace-rank Pi e = cc

rank-namespace : (kind : Kind) → rank kind ≤ 0 → is_namespace_kind kind ≡ true
rank-namespace Root h = absurd (omega (arith, h))
rank-namespace Element h = absurd (omega (arith, h))
rank-namespace Attribute h = absurd (omega (arith, h))
rank-namespace Space h = refl
rank-namespace Text h = absurd (omega (arith, h))
rank-namespace Comment h = absurd (omega (arith, h))
rank-namespace Pi h = absurd (omega (arith, h))

-- what holds a node comes among the children
pub holder-rank : (holder held : Kind) → IsTrue (can_hold holder held) → 1 < rank holder
holder-rank Root held h = omega arith
holder-rank Element held h = omega arith
holder-rank Attribute held h = cc
holder-rank Space held h = cc
holder-rank Text held h = cc
holder-rank Comment held h = cc
holder-rank Pi held h = cc

-- before a namespace node of n and after n stand only namespace nodes of n
namespace-earlier : (rs : List Record) (n k j : ℕ) → IsTree rs → n < k → k < j → j < length rs → is_namespace rs n j ≡ true → is_namespace rs n k ≡ true
namespace-earlier rs n k j t a b w h = by_parent (at rs k).parent refl (placed.inside k a b)
  where
    parts : (IsTrue (is_place n (at rs j).parent)) × (is_namespace_kind (at rs j).kind ≡ true)
    parts = and_both (is_place n (at rs j).parent) (is_namespace_kind (at rs j).kind) h

    placed : IsPlaced rs j n
    placed = IsPlaced-at rs j n t w (place-true n (at rs j).parent parts.0)

    low : (i : ℕ) → n < i → i < j → rank (at rs i).kind ≤ 0
    low i x y =
        let r : rank (at rs j).kind ≡ 0 = namespace-rank (at rs j).kind parts.1 in
        rw (← r) (placed.order i x y)

    by_place : (p : ℕ) → (at rs k).parent ≡ Some p → is_namespace_kind (at rs k).kind ≡ true → (n ≡ p) ⊎ (n < p) → is_namespace rs n k ≡ true
    by_place p e kind (inl same) = rw (e, ← same, eq-eqb n n refl, kind) refl
    by_place p e kind (inr later) =
        let up : IsPlaced rs k p = IsPlaced-at rs k p t (omega (arith, b, w)) e in
        absurd (omega (arith, holder-rank (at rs p).kind (at rs k).kind up.held, low p later (omega (arith, up.before, b))))

    by_parent : (o : Option ℕ) → (at rs k).parent ≡ o → IsSomeAnd o (λ q. n ≤ q) → is_namespace rs n k ≡ true
    by_parent None e i = absurd i
    by_parent (Some p) e i = by_place p e (rank-namespace (at rs k).kind (low k a b)) (eq-or-lt_of_le i)

-- so none follows a node after n that is no namespace node of n
pub namespaces-past : (rs : List Record) (n k : ℕ) → IsTree rs → n < k → is_namespace rs n k ≡ false → namespaces_from rs n k ≡ []
namespaces-past rs n k t a e =
    passing-none (is_namespace rs n) rs k (λ j x y. elim (eq-or-lt_of_le x) [
      | inl same ↦ rw (← same) e
      | inr later ↦ is_false (is_namespace rs n j) (λ h. let f : is_namespace rs n k ≡ true = namespace-earlier rs n k j t a later y h in cc)
    ])

-- the first place of a walk: they come after the node
pub namespaces-after : (rs : List Record) (n : ℕ) → IsTree rs → n < length rs → namespaces rs n ≡ namespaces_from rs n (n + 1)
namespaces-after rs n t h =
    passing-skip (is_namespace rs n) rs (n + 1) (omega arith)
    (λ j b. and_left (is_place n (at rs j).parent) _ (is_place-false n (at rs j).parent (λ e. not_before rs n t h j b e)))

-- a namespace node, wherever it stands among those of its element, is in the tree
pub namespace-within : (rs : List Record) (n : ℕ) (before after : List ℕ) (k : ℕ) → namespaces rs n ≡ before ++ k ∷ after → k < length rs
namespace-within rs n before after k e = passing-within (is_namespace rs n) rs before after k e
