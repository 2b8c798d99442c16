-- The root of a node's document, and where the document ends.
use Rattle.std.proofs.Common.{◌≡◌, ℕ, zero, suc, ◌<◌, ◌≤◌, Bool, true, false, List, Option, None, Some, length, refl, sym, ◌∙◌, ap, subst, arith, IsTrue}
use Rattle.std.proofs.Common.{MatchOption, ◌⊎◌, inl, inr}
use Rattle.std.proofs.lemmas.Bool.{eq-eqb, ne_eqb}
use Rattle.std.proofs.Math.Nat.{eq-or-lt_of_le}
use Rattle.std.specs.Prelude.{IsSomeAnd}
use Rattle.xs_tree.specs.declared.kinds.Kind.{Kind}
use Rattle.xs_tree.specs.declared.kinds.Kind.TheVariants.{Root, Element, Attribute, Space, Text, Comment, Pi}
use Rattle.xs_tree.specs.Kinds.{can_hold, is_root_kind}
use Rattle.xs_tree.specs.Record.{Record, at}
use Rattle.xs_tree.specs.Shape.{EndsAt, HasParentFrom, IsPlaced, IsTree}
use Rattle.xs_tree.specs.Axis.{is_same_document, root_of}
use Rattle.xs_tree.proofs.WalkLemmas.{IsPlaced-at, le_or_gt}

held-no_root : (holder held : Kind) → IsTrue (can_hold holder held) → is_root_kind held ≡ false
held-no_root Root Root h = cc
held-no_root Element Root h = cc
held-no_root Attribute Root h = cc
held-no_root Space Root h = cc
held-no_root Text Root h = cc
held-no_root Comment Root h = cc
held-no_root Pi Root h = cc
held-no_root holder Element h = refl
held-no_root holder Attribute h = refl
held-no_root holder Space h = refl
held-no_root holder Text h = refl
held-no_root holder Comment h = refl
held-no_root holder Pi h = refl

-- a node with a parent is no root
pub parent-no_root : (rs : List Record) (k p : ℕ) → IsTree rs → k < length rs → (at rs k).parent ≡ Some p → is_root_kind (at rs k).kind ≡ false
parent-no_root rs k p t h e = held-no_root (at rs p).kind (at rs k).kind (IsPlaced-at rs k p t h e).held

pub inside-no_root : (rs : List Record) (n k : ℕ) → IsTree rs → k < length rs → HasParentFrom n (at rs k) → is_root_kind (at rs k).kind ≡ false
inside-no_root rs n k t h inside = by_parent (at rs k).parent refl inside
  where
    by_parent : (o : Option ℕ) → (at rs k).parent ≡ o → IsSomeAnd o (λ q. n ≤ q) → is_root_kind (at rs k).kind ≡ false
    by_parent None e i = absurd i
    by_parent (Some p) e i = parent-no_root rs k p t h e

-- and a node without one is a root
pub no_parent-root : (rs : List Record) (k : ℕ) → IsTree rs → k < length rs → (at rs k).parent ≡ None → (at rs k).kind ≡ Root
no_parent-root rs k t h e =
    let M : Option ℕ → Type 0 = λ o. MatchOption o ((at rs k).kind ≡ Root) (λ p. IsPlaced rs k p) in
    subst M e (t.placed k h)

-- ---- the root of a document

pub root_of-le : (rs : List Record) (k : ℕ) → root_of rs k ≤ k
root_of-le rs zero = omega arith
root_of-le rs (suc k) = by_kind (is_root_kind (at rs (suc k)).kind) refl (root_of-le rs k)
  where
    by_kind : (b : Bool) → is_root_kind (at rs (suc k)).kind ≡ b → root_of rs k ≤ k → root_of rs (suc k) ≤ suc k
    by_kind true e le = rw e (omega arith)
    by_kind false e le = rw e (omega (arith, le))

root-true : (kind : Kind) → kind ≡ Root → is_root_kind kind ≡ true
root-true kind e = ap is_root_kind e

-- a root is its own document's
pub root_of-root : (rs : List Record) (k : ℕ) → (at rs k).kind ≡ Root → root_of rs k ≡ k
root_of-root rs zero e = refl
root_of-root rs (suc k) e = rw (root-true (at rs (suc k)).kind e) refl

pub kind-root : (kind : Kind) → is_root_kind kind ≡ true → kind ≡ Root
kind-root Root e = refl
kind-root Element e = cc
kind-root Attribute e = cc
kind-root Space e = cc
kind-root Text e = cc
kind-root Comment e = cc
kind-root Pi e = cc

-- a document's root is a root
pub root_of-kind : (rs : List Record) (k : ℕ) → IsTree rs → (at rs (root_of rs k)).kind ≡ Root
root_of-kind rs zero t = ap (λ r. r.kind) t.first
root_of-kind rs (suc k) t = by_kind (is_root_kind (at rs (suc k)).kind) refl (root_of-kind rs k t)
  where
    by_kind : (b : Bool) → is_root_kind (at rs (suc k)).kind ≡ b → (at rs (root_of rs k)).kind ≡ Root → (at rs (root_of rs (suc k))).kind ≡ Root
    by_kind true e earlier = rw e (kind-root (at rs (suc k)).kind e)
    by_kind false e earlier = rw e earlier

-- with no root between them two nodes have the same
pub root_of-same : (rs : List Record) (r k : ℕ) → r ≤ k → ((j : ℕ) → r < j → j ≤ k → is_root_kind (at rs j).kind ≡ false) → root_of rs k ≡ root_of rs r
root_of-same rs r zero le none = let e : r ≡ 0 = omega arith in rw e refl
root_of-same rs r (suc k) le none =
    elim (eq-or-lt_of_le le) [
      | inl same ↦ rw same refl
      | inr before ↦ rw (none (suc k) before (omega arith)) (root_of-same rs r k (omega (arith, before)) (λ j a b. none j a (omega (arith, b))))
    ]

-- no root of a node's document comes before a root that is not after the node
pub root_of-ge : (rs : List Record) (r k : ℕ) → r ≤ k → (at rs r).kind ≡ Root → r ≤ root_of rs k
root_of-ge rs r zero le e = omega arith
root_of-ge rs r (suc k) le e =
    elim (eq-or-lt_of_le le) [
      | inl same ↦ (let q : r ≡ root_of rs (suc k) = same ∙ sym (root_of-root rs (suc k) (rw (← same) e)) in omega (arith, q))
      | inr before ↦ by_kind (is_root_kind (at rs (suc k)).kind) refl before (root_of-ge rs r k (omega (arith, before)) e)
    ]
  where
    by_kind : (b : Bool) → is_root_kind (at rs (suc k)).kind ≡ b → r < suc k → r ≤ root_of rs k → r ≤ root_of rs (suc k)
    by_kind true f before ge = rw f (omega (arith, before))
    by_kind false f before ge = rw f ge

-- a node is in its parent's document
pub root_of-parent : (rs : List Record) (k p : ℕ) → IsTree rs → k < length rs → (at rs k).parent ≡ Some p → root_of rs k ≡ root_of rs p
root_of-parent rs k p t h e =
    root_of-same rs p k (omega (arith, placed.before)) (λ j a b. elim (eq-or-lt_of_le b) [
      | inl same ↦ rw same (parent-no_root rs k p t h e)
      | inr before ↦ inside-no_root rs p j t (omega (arith, before, h)) (placed.inside j a before)
    ])
  where
    placed : IsPlaced rs k p
    placed = IsPlaced-at rs k p t h e

-- ---- the nodes of one document

-- no node after the root of a node's document, and up to the node, is a root
pub no_root-before : (rs : List Record) (n j : ℕ) → root_of rs n < j → j ≤ n → is_root_kind (at rs j).kind ≡ false
no_root-before rs n j a b = by_kind (is_root_kind (at rs j).kind) refl
  where
    by_kind : (b : Bool) → is_root_kind (at rs j).kind ≡ b → is_root_kind (at rs j).kind ≡ false
    by_kind false e = e
    by_kind true e = absurd (omega (arith, a, root_of-ge rs j n b (kind-root (at rs j).kind e)))

-- what comes after the root of a node's document, and not after the node, is in that document
pub same-before : (rs : List Record) (n k : ℕ) → IsTree rs → root_of rs n ≤ k → k ≤ n → is_same_document rs n k ≡ true
same-before rs n k t a b =
    eq-eqb (root_of rs n) (root_of rs k) (sym (root_of-same rs (root_of rs n) k a (λ j x y. no_root-before rs n j x (omega (arith, y, b)))
    ∙ root_of-root rs (root_of rs n) (root_of-kind rs n t)))

-- and what comes before the root is not
pub other-before : (rs : List Record) (n k : ℕ) → k < root_of rs n → is_same_document rs n k ≡ false
other-before rs n k a =
    ne_eqb (root_of rs n) (root_of rs k) (λ e. omega (arith, a, e, root_of-le rs k))

-- what is inside the root of a node's document is in that document
pub same-inside : (rs : List Record) (n e k : ℕ) → IsTree rs → EndsAt rs (root_of rs n) e → root_of rs n ≤ k → k < e → is_same_document rs n k ≡ true
same-inside rs n e k t ends a b =
    eq-eqb (root_of rs n) (root_of rs k) (sym
    (root_of-same rs (root_of rs n) k a (λ j x y. inside-no_root rs (root_of rs n) j t (omega (arith, y, b, ends.within))
    (ends.inside j x (omega (arith, y, b)))) ∙ root_of-root rs (root_of rs n) (root_of-kind rs n t)))

-- what is inside a root has that root
pub root_of-inside : (rs : List Record) (r e k : ℕ) → IsTree rs → (at rs r).kind ≡ Root → EndsAt rs r e → r ≤ k → k < e → root_of rs k ≡ r
root_of-inside rs r e k t root ends a b =
    root_of-same rs r k a (λ j x y. inside-no_root rs r j t (omega (arith, y, b, ends.within)) (ends.inside j x (omega (arith, y, b))))
    ∙ root_of-root rs r root

-- the node after all that is inside a root is a root
pub end-root : (rs : List Record) (r e : ℕ) → IsTree rs → r < length rs → (at rs r).kind ≡ Root → EndsAt rs r e → e < length rs → (at rs e).kind ≡ Root
end-root rs r e t h root ends w = by_parent (at rs e).parent refl
  where
    not_inside : (q : ℕ) → HasParentFrom q (at rs r) → ⊥
    not_inside q inside = let f : is_root_kind (at rs r).kind ≡ false = inside-no_root rs q r t h inside in let g : is_root_kind (at rs r).kind ≡ true =
        root-true (at rs r).kind root in cc

    by_place : (q : ℕ) → (at rs e).parent ≡ Some q → (r ≤ q) ⊎ (q < r) → ⊥
    by_place q f (inl le) = ends.outside w (rw f le)
    by_place q f (inr before) = not_inside q ((IsPlaced-at rs e q t w f).inside r before ends.after)

    by_parent : (o : Option ℕ) → (at rs e).parent ≡ o → (at rs e).kind ≡ Root
    by_parent None f = no_parent-root rs e t w f
    by_parent (Some q) f = absurd (by_place q f (le_or_gt r q))

-- and what is not is in another document
pub other-past : (rs : List Record) (n e k : ℕ) → IsTree rs → n < length rs → EndsAt rs (root_of rs n) e → e ≤ k → k < length rs
    → is_same_document rs n k ≡ false
other-past rs n e k t h ends a b =
    let root : (at rs e).kind ≡ Root = end-root rs (root_of rs n) e t (omega (arith, h, root_of-le rs n)) (root_of-kind rs n t) ends (omega (arith, a, b)) in
    ne_eqb (root_of rs n) (root_of rs k) (λ f. omega (arith, f, ends.after, root_of-ge rs e k a root))

-- a node is before the end of its document
pub end-after : (rs : List Record) (n e : ℕ) → IsTree rs → n < length rs → EndsAt rs (root_of rs n) e → n < e
end-after rs n e t h ends = by_place (le_or_gt e n)
  where
    by_place : (e ≤ n) ⊎ (n < e) → n < e
    by_place (inr before) = before
    by_place (inl le) =
        let root : (at rs e).kind ≡ Root = end-root rs (root_of rs n) e t (omega (arith, h, root_of-le rs n)) (root_of-kind rs n t) ends
        (omega (arith, le, h)) in
        absurd (omega (arith, ends.after, root_of-ge rs e n le root))
