-- Where bindings reach, by the order of nodes.
use Rattle.std.proofs.Common.{◌≡◌, ◌∙◌, ◌<◌, ◌≤◌, ℕ, ap, refl, sym, subst, arith, Bool, true, false, List, length, Option, None, Some, ◌⊎◌, inl, inr, eq-eqb, IsSomeAnd}
use Rattle.std.proofs.Math.Nat.{eq-or-lt_of_le}
use Rattle.std.proofs.lemmas.Bool.{and_from, and_parts, lt-ltb, ltb-true, false≢true, true≢false}
use Rattle.std.specs.Option.{option_map_or}
use Rattle.std.specs.Prelude.{◌&&◌, nat_lt, not}
use Rattle.xs_tree.proofs.WalkLemmas.{IsPlaced-at, IsWithin, from_earlier, is_inside-within, le_or_gt}
use Rattle.xs_tree.specs.Record.{Record, at, is_inside, is_place}
use Rattle.xs_tree.specs.Shape.{EndsAt, HasParentFrom, IsTree}
use Rattle.xs_structure.specs.Bindings.{reaches}

same : (a b : Bool) → (a ≡ true → b ≡ true) → (b ≡ true → a ≡ true) → a ≡ b
same true b f g = sym (f refl)
same false true f g = g refl
same false false f g = refl

not-false : (b : Bool) → not b ≡ true → b ≡ false
not-false true h = absurd (false≢true h)
not-false false h = refl

no : (b : Bool) → (b ≡ true → ⊥) → not b ≡ true
no true h = absurd (h refl)
no false h = refl

-- the parent of a node comes no earlier than another node
parent-from : (o : Option ℕ) (n p : ℕ) → o ≡ Some p → IsSomeAnd o (λ q. n ≤ q) → n ≤ p
parent-from o n p e h = subst (λ (o : Option ℕ). IsSomeAnd o (λ q. n ≤ q)) e h

from-parent : (o : Option ℕ) (n p : ℕ) → o ≡ Some p → n ≤ p → IsSomeAnd o (λ q. n ≤ q)
from-parent o n p e h = subst (λ (o : Option ℕ). IsSomeAnd o (λ q. n ≤ q)) (sym e) h

pub place-is : (n : ℕ) (o : Option ℕ) → o ≡ Some n → is_place n o ≡ true
place-is n o e = subst (λ (o : Option ℕ). is_place n o ≡ true) (sym e) (eq-eqb n n refl)

-- a binding reaches a node: it stands before it and not around it, and its parent is around it
pub record Reaches (rs : List Record) (b n : ℕ) : Type 0 where
  pub parent : ℕ
  pub before : b < n
  pub outside : IsWithin rs b n → ⊥
  pub child : (at rs b).parent ≡ Some parent
  pub around : IsWithin rs parent n

module _ (rs : List Record) (tree : IsTree rs) where
  pub inside-of : (n k : ℕ) → k < length rs → is_inside rs n k ≡ true → IsWithin rs n k
  inside-of n k w h = (is_inside-within rs n k tree w).0 h

  pub inside-to : (n k : ℕ) → k < length rs → IsWithin rs n k → is_inside rs n k ≡ true
  inside-to n k w h = (is_inside-within rs n k tree w).1 h

  pub parent-before : (k p : ℕ) → k < length rs → (at rs k).parent ≡ Some p → p < k
  parent-before k p w e = (IsPlaced-at rs k p tree w e).before

  -- a node is inside its parent, and inside what that is inside
  pub within-parent : (k p : ℕ) → k < length rs → (at rs k).parent ≡ Some p → IsWithin rs p k
  within-parent k p w e =
      let placed = IsPlaced-at rs k p tree w e in (
        placed.before,
        λ j a b. elim (eq-or-lt_of_le b) [
          | inl own ↦ (let le : p ≤ p = omega arith in subst (λ x. HasParentFrom p (at rs x)) (sym own) (from-parent (at rs k).parent p p e le))
          | inr earlier ↦ placed.inside j a earlier
        ],
      )

  pub within-more : (n p k : ℕ) → IsWithin rs n p → IsWithin rs p k → IsWithin rs n k
  within-more n p k a b = (
    omega (arith, a.0, b.0),
    λ j c d. elim (le_or_gt j p) [
      | inl le ↦ a.1 j c le
      | inr gt ↦ (let le : n ≤ p = omega (arith, a.0) in from_earlier (at rs j).parent n p le (b.1 j gt d))
    ],
  )

  -- what is around a node is its parent, or around that
  pub around-parent : (n k p : ℕ) → k < length rs → (at rs k).parent ≡ Some p → IsWithin rs n k → (n ≡ p) ⊎ IsWithin rs n p
  around-parent n k p w e h =
      let le : n ≤ p = parent-from (at rs k).parent n p e (h.1 k h.0 (omega arith)) in
      let before = parent-before k p w e in
      elim (eq-or-lt_of_le le) [
        | inl own ↦ inl own
        | inr lt ↦ inr (lt, λ j a b. h.1 j a (omega (arith, b, before)))
      ]

  -- ---- reaching
  pub reaches-of : (b n : ℕ) → n < length rs → reaches rs b n ≡ true → Reaches rs b n
  reaches-of b n w h =
      let all = and_parts (nat_lt b n && not (is_inside rs b n)) (option_map_or (λ p. is_inside rs p n) (at rs b).parent false) h in
      let front = and_parts (nat_lt b n) (not (is_inside rs b n)) all.0 in
      by_parent (at rs b).parent refl all.1 (ltb-true b n front.0)
      (λ v. true≢false (sym (inside-to b n w v) ∙ not-false (is_inside rs b n) front.1))
    where
      by_parent : (o : Option ℕ) → (at rs b).parent ≡ o → option_map_or (λ p. is_inside rs p n) o false ≡ true → b < n → (IsWithin rs b n → ⊥)
          → Reaches rs b n
      by_parent None e g lt out = absurd (false≢true g)
      by_parent (Some p) e g lt out = record { parent = p; before = lt; outside = out; child = e; around = inside-of p n w g }

  pub reaches-to : (b n : ℕ) → n < length rs → Reaches rs b n → reaches rs b n ≡ true
  reaches-to b n w r =
      and_from (nat_lt b n && not (is_inside rs b n)) (option_map_or (λ p. is_inside rs p n) (at rs b).parent false)
      (and_from (nat_lt b n) (not (is_inside rs b n)) (lt-ltb b n r.before) (no (is_inside rs b n) (λ h. r.outside (inside-of b n w h))))
      (subst (λ (o : Option ℕ). option_map_or (λ p. is_inside rs p n) o false ≡ true) (sym r.child) (inside-to r.parent n w r.around))

  -- a binding reaches a node where it reaches the parent, or is a child of that before the node
  pub reaches-inner : (b n p : ℕ) → n < length rs → (at rs n).parent ≡ Some p → Reaches rs b n → ((at rs b).parent ≡ Some p) ⊎ Reaches rs b p
  reaches-inner b n p w e r =
      let before = parent-before n p w e in
      elim (around-parent r.parent n p w e r.around) [
        | inl own ↦ inl (r.child ∙ ap Some own)
        | inr up ↦ inr (record {
          parent = r.parent;
          before = earlier up (le_or_gt b p);
          outside = λ v. r.outside (within-more b p n v (within-parent n p w e));
          child = r.child;
          around = up;
        })
      ]
    where
      earlier : IsWithin rs r.parent p → (b ≤ p) ⊎ (p < b) → b < p
      earlier up (inl le) =
          elim (eq-or-lt_of_le le) [
            | inl own ↦ absurd (r.outside (subst (λ x. IsWithin rs x n) (sym own) (within-parent n p w e)))
            | inr lt ↦ lt
          ]
      earlier up (inr gt) =
          let le : p ≤ r.parent = parent-from (at rs b).parent p r.parent r.child ((IsPlaced-at rs n p tree w e).inside b gt r.before) in
          absurd (omega (arith, le, up.0))

  pub child-reaches : (b n p : ℕ) → n < length rs → (at rs n).parent ≡ Some p → b < n → (at rs b).parent ≡ Some p → Reaches rs b n
  child-reaches b n p w e lt own =
      let before = parent-before b p (omega (arith, lt, w)) own in
      record {
        parent = p;
        before = lt;
        outside = λ v. (let le : b ≤ p = parent-from (at rs n).parent b p e (v.1 n v.0 (omega arith)) in omega (arith, le, before));
        child = own;
        around = within-parent n p w e;
      }

  pub reaches-outer : (b n p : ℕ) → n < length rs → (at rs n).parent ≡ Some p → Reaches rs b p → Reaches rs b n
  reaches-outer b n p w e r =
      let before = parent-before n p w e in
      record {
        parent = r.parent;
        before = omega (arith, r.before, before);
        outside = λ v. elim (around-parent b n p w e v) [
          | inl own ↦ omega (arith, own, r.before)
          | inr up ↦ r.outside up
        ];
        child = r.child;
        around = within-more r.parent p n r.around (within-parent n p w e);
      }

  -- of two bindings that reach a node the first reaches the second
  pub reaches-second : (b c n : ℕ) → n < length rs → b < c → Reaches rs b n → Reaches rs c n → Reaches rs b c
  reaches-second b c n w lt r s =
      let inner = parent-before c s.parent (omega (arith, s.before, w)) s.child in
      let outer = parent-before b r.parent (omega (arith, r.before, w)) r.child in
      record {
        parent = r.parent;
        before = lt;
        outside = λ v.
            let le : b ≤ s.parent = parent-from (at rs c).parent b s.parent s.child (v.1 c v.0 (omega arith)) in
            r.outside (
              r.before,
              λ j a d. elim (le_or_gt j c) [
                | inl early ↦ v.1 j a early
                | inr late ↦ from_earlier (at rs j).parent b s.parent le (s.around.1 j (omega (arith, inner, late)) d)
              ],
            );
        child = r.child;
        around = (omega (arith, outer, lt), λ j a d. r.around.1 j a (omega (arith, d, s.before)));
      }

  -- what reaches a binding reaches what that reaches
  pub reaches-on : (c b n : ℕ) → n < length rs → Reaches rs c b → Reaches rs b n → Reaches rs c n
  reaches-on c b n w r s =
      record {
        parent = r.parent;
        before = omega (arith, r.before, s.before);
        outside = λ v. r.outside (r.before, λ j a d. v.1 j a (omega (arith, d, s.before)));
        child = r.child;
        around = elim (around-parent r.parent b s.parent (omega (arith, s.before, w)) s.child r.around) [
          | inl own ↦ subst (λ x. IsWithin rs x n) (sym own) s.around
          | inr up ↦ within-more r.parent s.parent n up s.around
        ];
      }

  -- ---- by the end of a binding's element
  pub ends-around : (b e n : ℕ) → EndsAt rs b e → b < n → n < e → IsWithin rs b n
  ends-around b e n ends lt within = (lt, λ j a d. ends.inside j a (omega (arith, d, within)))

  pub ends-before : (b e n : ℕ) → n < length rs → EndsAt rs b e → e ≤ n → IsWithin rs b n → ⊥
  ends-before b e n w ends le v = ends.outside (omega (arith, le, w)) (v.1 e ends.after le)
