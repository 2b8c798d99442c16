-- The laws of the axes.
use Rattle.std.proofs.Common.{◌≡◌, ℕ, ◌<◌, ◌≤◌, ◌==◌, ◌||◌, ◌&&◌, not, Bool, true, false, List, Option, None, Some, length, refl, sym, ◌∙◌, ap, arith, ◌⊎◌, inl}
use Rattle.std.proofs.Common.{inr}
use Rattle.std.proofs.lemmas.Bool.{eqb-true, eq-eqb, ne_eqb, lt-ltb, le-ltb, ltb-true, or_cases}
use Rattle.std.proofs.Math.Nat.{eq-or-lt_of_le}
use Rattle.std.specs.Prelude.{IsSomeAnd, nat_lt}
use Rattle.std.specs.List.{count_by}
use Rattle.std.specs.Option.{option_map_or}
use Rattle.xs_tree.specs.declared.axes.Axis.{Axis}
use Rattle.xs_tree.specs.declared.axes.Axis.TheVariants.{Child, Descendant, Parent, Ancestor, FollowingSibling, PrecedingSibling, Following, Preceding}
use Rattle.xs_tree.specs.declared.axes.Axis.TheVariants.{SelfNode, DescendantOrSelf, AncestorOrSelf, Namespace}
use Rattle.xs_tree.specs.declared.axes.Axis.TheVariants.{Attribute as AttributeAxis}
use Rattle.xs_tree.specs.Kinds.{is_child_kind, is_root_kind}
use Rattle.xs_tree.specs.Record.{Record, at, is_child, is_inside, is_place}
use Rattle.xs_tree.specs.Shape.{HasParentFrom, IsTree}
use Rattle.xs_tree.specs.Axis.{is_on, is_reverse, is_same_document, is_sibling, root_of}
use Rattle.xs_tree.proofs.WalkLemmas.{IsPlaced-at, IsWithin, climbs-within, is_inside-within}
use Rattle.xs_axes.specs.AxisLaws.{AxesShareOut, AxesStayInside, ReverseAxesGoBack, five_axes}
use Rattle.xs_axes.proofs.SubtreeLemmas.{inside-after, le_or_gt}
use Rattle.xs_tree.proofs.RootLemmas.{inside-no_root, kind-root, no_parent-root, no_root-before, root_of-kind, root_of-le, root_of-parent, root_of-root}
use Rattle.xs_tree.proofs.RootLemmas.{root_of-same}

-- ---- one of five axes

-- all that comes after the root of a node's document, and not after the node, is inside the root
root-holds : (rs : List Record) (n j : ℕ) → IsTree rs → n < length rs → root_of rs n < j → j ≤ n → HasParentFrom (root_of rs n) (at rs j)
root-holds rs n j t h a b = by_parent (at rs j).parent refl
  where
    w : j < length rs
    w = omega (arith, b, h)

    by_place : (q : ℕ) → (at rs j).parent ≡ Some q → (root_of rs n ≤ q) ⊎ (q < root_of rs n) → root_of rs n ≤ q
    by_place q e (inl le) = le
    by_place q e (inr before) =
        let f : is_root_kind (at rs (root_of rs n)).kind ≡ false =
        inside-no_root rs q (root_of rs n) t (omega (arith, a, w)) ((IsPlaced-at rs j q t w e).inside (root_of rs n) before a) in
        let g : is_root_kind (at rs (root_of rs n)).kind ≡ true = ap is_root_kind (root_of-kind rs n t) in
        cc

    by_parent : (o : Option ℕ) → (at rs j).parent ≡ o → IsSomeAnd o (λ q. root_of rs n ≤ q)
    by_parent None e =
        let f : is_root_kind (at rs j).kind ≡ true = ap is_root_kind (no_parent-root rs j t w e) in
        let g : is_root_kind (at rs j).kind ≡ false = no_root-before rs n j a b in
        cc
    by_parent (Some q) e = by_place q e (le_or_gt (root_of rs n) q)

one_after : (rs : List Record) (n k : ℕ) → IsTree rs → n < length rs → k < length rs → n < k → is_same_document rs n k ≡ true
    → is_child_kind (at rs k).kind ≡ true → count_by (λ axis. is_on axis rs n k) five_axes ≡ 1
one_after rs n k t h w lt same child = by_inside (is_inside rs n k) refl
  where
    by_inside : (b : Bool) → is_inside rs n k ≡ b → count_by (λ axis. is_on axis rs n k) five_axes ≡ 1
    by_inside true e = rw (
      inside-after rs k n t h (omega (arith, lt)),
      e,
      same,
      lt-ltb n k lt,
      le-ltb k n (omega (arith, lt)),
      child,
      ne_eqb k n
          (λ f. omega (arith, f, lt)),
    ) refl
    by_inside false e = rw (
      inside-after rs k n t h (omega (arith, lt)),
      e,
      same,
      lt-ltb n k lt,
      le-ltb k n (omega (arith, lt)),
      child,
      ne_eqb k n
          (λ f. omega (arith, f, lt)),
    ) refl

one_before : (rs : List Record) (n k : ℕ) → IsTree rs → n < length rs → k < length rs → k < n → is_same_document rs n k ≡ true
    → (is_inside rs k n ≡ false → is_child_kind (at rs k).kind ≡ true) → count_by (λ axis. is_on axis rs n k) five_axes ≡ 1
one_before rs n k t h w lt same child = by_inside (is_inside rs k n) refl
  where
    by_inside : (b : Bool) → is_inside rs k n ≡ b → count_by (λ axis. is_on axis rs n k) five_axes ≡ 1
    by_inside true e = rw (
      e,
      inside-after rs n k t w (omega (arith, lt)),
      same,
      lt-ltb k n lt,
      le-ltb n k (omega (arith, lt)),
      ne_eqb k n
          (λ f. omega (arith, f, lt)),
    ) refl
    by_inside false e = rw (
      e,
      inside-after rs n k t w (omega (arith, lt)),
      same,
      lt-ltb k n lt,
      le-ltb n k (omega (arith, lt)),
      ne_eqb k n
          (λ f. omega (arith, f, lt)),
      child e,
    ) refl

one_self : (rs : List Record) (n : ℕ) → IsTree rs → n < length rs → is_same_document rs n n ≡ true → count_by (λ axis. is_on axis rs n n) five_axes ≡ 1
one_self rs n t h same = rw (inside-after rs n n t h (omega arith), same, le-ltb n n (omega arith), eq-eqb n n refl) refl

-- a node that is no root, attribute or namespace node
no_root-child : (rs : List Record) (k : ℕ) → (is_root_kind (at rs k).kind || is_child_kind (at rs k).kind) ≡ true → (is_root_kind (at rs k).kind ≡ true → ⊥)
    → is_child_kind (at rs k).kind ≡ true
no_root-child rs k some other =
    elim (or_cases (is_root_kind (at rs k).kind) (is_child_kind (at rs k).kind) some) [ inl e ↦ absurd (other e) | inr e ↦ e ]

pub axes-share_out : AxesShareOut
axes-share_out = λ rs n k t h w same some. by_place rs n k t h w same some (le_or_gt k n)
  where
    roots_are : (rs : List Record) (n k : ℕ) → is_same_document rs n k ≡ true → is_root_kind (at rs k).kind ≡ true → root_of rs n ≡ k
    roots_are rs n k same root = eqb-true (root_of rs n) (root_of rs k) same ∙ root_of-root rs k (kind-root (at rs k).kind root)

    by_place : (rs : List Record) (n k : ℕ) → IsTree rs → n < length rs → k < length rs → is_same_document rs n k ≡ true
        → (is_root_kind (at rs k).kind || is_child_kind (at rs k).kind) ≡ true → (k ≤ n) ⊎ (n < k) → count_by (λ axis. is_on axis rs n k) five_axes ≡ 1
    by_place rs n k t h w same some (inr lt) =
        one_after rs n k t h w lt same (no_root-child rs k some (λ root. omega (arith, lt, roots_are rs n k same root, root_of-le rs n)))
    by_place rs n k t h w same some (inl le) =
        elim (eq-or-lt_of_le le) [
          | inl e ↦ rw e (one_self rs n t h (rw e at same))
          | inr lt ↦ one_before rs n k t h w lt same (λ out. no_root-child rs k some (λ root. not_root rs n k t h lt same out root))
        ]
      where
        not_root : (rs : List Record) (n k : ℕ) → IsTree rs → n < length rs → k < n → is_same_document rs n k ≡ true → is_inside rs k n ≡ false
            → is_root_kind (at rs k).kind ≡ true → ⊥
        not_root rs n k t h lt same out root =
            let e : root_of rs n ≡ k = roots_are rs n k same root in
            let inside : is_inside rs k n ≡ true = (is_inside-within rs k n t h).1 (lt, λ j a b. rw e at (root-holds rs n j t h (rw e a) b)) in
            cc

-- ---- one document

and_first : (a b : Bool) → (a && b) ≡ true → a ≡ true
and_first true b h = refl
and_first false b h = cc

and_second : (a b : Bool) → (a && b) ≡ true → b ≡ true
and_second true b h = h
and_second false b h = cc

place-parent : (n : ℕ) (o : Option ℕ) → is_place n o ≡ true → o ≡ Some n
place-parent n None h = cc
place-parent n (Some p) h = ap Some (eqb-true p n h)

-- a node is in the document of its parent, and of what it is inside
parent-same : (rs : List Record) (n k : ℕ) → IsTree rs → k < length rs → is_place n (at rs k).parent ≡ true → root_of rs n ≡ root_of rs k
parent-same rs n k t w h = sym (root_of-parent rs k n t w (place-parent n (at rs k).parent h))

inside-same : (rs : List Record) (n k : ℕ) → IsTree rs → k < length rs → is_inside rs n k ≡ true → root_of rs n ≡ root_of rs k
inside-same rs n k t w h =
    let within : IsWithin rs n k = climbs-within rs t k n k w h in
    sym (root_of-same rs n k (omega (arith, within.0)) (λ j a b. inside-no_root rs n j t (omega (arith, b, w)) (within.1 j a b)))

sibling-same : (rs : List Record) (n k : ℕ) → IsTree rs → n < length rs → k < length rs → is_sibling rs n k ≡ true → root_of rs n ≡ root_of rs k
sibling-same rs n k t h w s = by_parent (at rs n).parent refl (and_second (is_child_kind (at rs n).kind) _ s)
  where
    by_parent : (o : Option ℕ) → (at rs n).parent ≡ o → option_map_or (λ p. is_child rs p k) o false ≡ true → root_of rs n ≡ root_of rs k
    by_parent None e f = cc
    by_parent (Some p) e f =
        root_of-parent rs n p t h e ∙ parent-same rs p k t w (and_first (is_place p (at rs k).parent) _ f)

self-same : (rs : List Record) (n k : ℕ) → (k == n) ≡ true → root_of rs n ≡ root_of rs k
self-same rs n k h = ap (λ j. root_of rs j) (sym (eqb-true k n h))

root-same : (axis : Axis) (rs : List Record) (n k : ℕ) → IsTree rs → n < length rs → k < length rs → is_on axis rs n k ≡ true → root_of rs n ≡ root_of rs k
root-same Child rs n k t h w on = parent-same rs n k t w (and_first (is_place n (at rs k).parent) _ on)
root-same Descendant rs n k t h w on = inside-same rs n k t w (and_first (is_inside rs n k) _ on)
root-same Parent rs n k t h w on = sym (parent-same rs k n t h on)
root-same Ancestor rs n k t h w on = sym (inside-same rs k n t h on)
root-same FollowingSibling rs n k t h w on = sibling-same rs n k t h w (and_first (is_sibling rs n k) _ on)
root-same PrecedingSibling rs n k t h w on = sibling-same rs n k t h w (and_first (is_sibling rs n k) _ on)
root-same Following rs n k t h w on =
    eqb-true (root_of rs n) (root_of rs k) (and_first _ _
    (and_first _ _ (and_first (is_same_document rs n k && nat_lt n k && not (is_inside rs n k)) (is_child_kind (at rs k).kind) on)))
root-same Preceding rs n k t h w on =
    eqb-true (root_of rs n) (root_of rs k) (and_first _ _
    (and_first _ _ (and_first (is_same_document rs n k && nat_lt k n && not (is_inside rs k n)) (is_child_kind (at rs k).kind) on)))
root-same AttributeAxis rs n k t h w on = parent-same rs n k t w (and_first (is_place n (at rs k).parent) _ on)
root-same Namespace rs n k t h w on = parent-same rs n k t w (and_first (is_place n (at rs k).parent) _ on)
root-same SelfNode rs n k t h w on = self-same rs n k on
root-same DescendantOrSelf rs n k t h w on =
    elim (or_cases (k == n) _ on) [ inl e ↦ self-same rs n k e | inr e ↦ inside-same rs n k t w (and_first (is_inside rs n k) _ e) ]
root-same AncestorOrSelf rs n k t h w on =
    elim (or_cases (k == n) _ on) [ inl e ↦ self-same rs n k e | inr e ↦ sym (inside-same rs k n t h e) ]

pub axes-stay_inside : AxesStayInside
axes-stay_inside = λ axis rs n k t h w on. eq-eqb (root_of rs n) (root_of rs k) (root-same axis rs n k t h w on)

-- ---- backwards

back : (axis : Axis) (rs : List Record) (n k : ℕ) → IsTree rs → n < length rs → is_reverse axis ≡ true → is_on axis rs n k ≡ true → k ≤ n
back Child rs n k t h r on = cc
back Descendant rs n k t h r on = cc
back Parent rs n k t h r on = cc
back Ancestor rs n k t h r on = omega (arith, (climbs-within rs t n k n h on).0)
back FollowingSibling rs n k t h r on = cc
back PrecedingSibling rs n k t h r on = omega (arith, ltb-true k n (and_second (is_sibling rs n k) _ on))
back Following rs n k t h r on = cc
back Preceding rs n k t h r on =
    omega (
      arith,
      ltb-true k n (and_second (is_same_document rs n k) _
          (and_first _ _ (and_first (is_same_document rs n k && nat_lt k n && not (is_inside rs k n)) (is_child_kind (at rs k).kind) on))),
    )
back AttributeAxis rs n k t h r on = cc
back Namespace rs n k t h r on = cc
back SelfNode rs n k t h r on = cc
back DescendantOrSelf rs n k t h r on = cc
back AncestorOrSelf rs n k t h r on =
    elim (or_cases (k == n) _ on) [ inl e ↦ omega (arith, eqb-true k n e) | inr e ↦ omega (arith, (climbs-within rs t n k n h e).0) ]

pub reverse-axes_go_back : ReverseAxesGoBack
reverse-axes_go_back = back
