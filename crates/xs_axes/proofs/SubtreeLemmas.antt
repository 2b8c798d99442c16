-- What is inside a node, by the place where it ends.
use Rattle.std.proofs.Common.{◌≡◌, ℕ, ◌+◌, ◌<◌, ◌≤◌, Bool, true, false, List, Option, None, Some, length, refl, arith, ◌⊎◌, inl, inr}
use Rattle.std.proofs.lemmas.Bool.{and_left, ne_eqb}
use Rattle.std.proofs.lemmas.Bool.Decides.{leb_tells}
use Rattle.std.specs.Prelude.{IsSomeAnd}
use Rattle.xs_tree.specs.Record.{Record, at, is_child, is_inside, is_place}
use Rattle.xs_tree.specs.Shape.{EndsAt, HasParentFrom, IsTree}
use Rattle.xs_tree.specs.Walk.{children_from}
use Rattle.xs_tree.proofs.WalkLemmas.{IsPlaced-at, is_inside-within, climbs-within}
use Rattle.xs_axes.proofs.RangeLemmas.{between-skip}

pub le_or_gt : (a b : ℕ) → (a ≤ b) ⊎ (b < a)
le_or_gt a b = elim (leb_tells a b) [ inl h ↦ inl h.1 | inr h ↦ inr h.1 ]

-- a test that is refuted is false
pub is_false : (b : Bool) → (b ≡ true → ⊥) → b ≡ false
is_false true h = absurd (h refl)
is_false false h = refl

-- nothing is inside a node that does not come before it
pub inside-after : (rs : List Record) (n k : ℕ) → IsTree rs → k < length rs → k ≤ n → is_inside rs n k ≡ false
inside-after rs n k t w le =
    is_false (is_inside rs n k) (λ h. omega (arith, le, (climbs-within rs t k n k w h).0))

-- what comes before the end of a node is inside it
pub inside-before_end : (rs : List Record) (n e k : ℕ) → IsTree rs → EndsAt rs n e → n < k → k < e → is_inside rs n k ≡ true
inside-before_end rs n e k t ends a b =
    (is_inside-within rs n k t (omega (arith, b, ends.within))).1 (a, λ j x y. ends.inside j x (omega (arith, y, b)))

-- and what comes after it is not
pub inside-past_end : (rs : List Record) (n e k : ℕ) → IsTree rs → EndsAt rs n e → e ≤ k → k < length rs → is_inside rs n k ≡ false
inside-past_end rs n e k t ends a b =
    is_false (is_inside rs n k) (λ h. ends.outside (omega (arith, a, b)) ((climbs-within rs t k n k b h).1 e ends.after a))

-- whoever is the parent of a node comes before it
pub place-after : (rs : List Record) (n k : ℕ) → IsTree rs → k < length rs → k ≤ n → is_place n (at rs k).parent ≡ false
place-after rs n k t w le = by_parent (at rs k).parent refl
  where
    by_parent : (o : Option ℕ) → (at rs k).parent ≡ o → is_place n o ≡ false
    by_parent None e = refl
    by_parent (Some p) e = ne_eqb p n (λ f. omega (arith, f, le, (IsPlaced-at rs k p t w e).before))

-- a node whose parent is c or after it has no parent before c
pub place-inside : (p c : ℕ) (r : Record) → p < c → HasParentFrom c r → is_place p r.parent ≡ false
place-inside p c r h inside = by_parent r.parent inside
  where
    by_parent : (o : Option ℕ) → IsSomeAnd o (λ q. c ≤ q) → is_place p o ≡ false
    by_parent None i = refl
    by_parent (Some q) i = ne_eqb q p (λ e. omega (arith, e, h, i))

-- what is inside a child is no child
pub child-skip : (rs : List Record) (p c e : ℕ) → p < c → EndsAt rs c e → children_from rs p (c + 1) ≡ children_from rs p e
child-skip rs p c e h ends =
    between-skip (is_child rs p) (c + 1) e (length rs) (omega (arith, ends.after)) ends.within
    (λ j a b. and_left (is_place p (at rs j).parent) _ (place-inside p c (at rs j) h (ends.inside j (omega (arith, a)) b)))

earlier : (o : Option ℕ) (p q : ℕ) → p ≤ q → IsSomeAnd o (λ x. q ≤ x) → IsSomeAnd o (λ x. p ≤ x)
earlier None p q le h = absurd h
earlier (Some x) p q le h = omega (arith, le, h)

-- a node ends no later than one that it is inside
pub ends-nested : (rs : List Record) (r n s e : ℕ) → r ≤ n → n < e → EndsAt rs n s → EndsAt rs r e → s ≤ e
ends-nested rs r n s e le lt inner outer =
    elim (le_or_gt s e) [
      | inl h ↦ h
      | inr h ↦ absurd (outer.outside (omega (arith, h, inner.within)) (earlier (at rs e).parent r n le (inner.inside e lt h)))
    ]
