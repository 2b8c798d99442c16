-- The axes that go backwards, as walks from place to place.
use Rattle.std.proofs.Common.{◌≡◌, ℕ, zero, suc, ◌+◌, ◌<◌, ◌≤◌, ◌==◌, ◌||◌, ◌&&◌, not, Bool, true, false, List, [], ◌∷◌, None, Some, length, refl, sym, ◌∙◌, ap}
use Rattle.std.proofs.Common.{arith, ◌⊎◌, inl, inr, if◌then◌else◌}
use Rattle.std.proofs.lemmas.Bool.{le-leb, lt-leb, and_left, and_right, eq-eqb, ne_eqb, lt-ltb, le-ltb}
use Rattle.std.proofs.Math.Nat.{eq-or-lt_of_le}
use Rattle.std.proofs.Math.Bool.{and-true}
use Rattle.std.specs.Prelude.{IsSomeAnd, nat_lt, nat_le}
use Rattle.xs_tree.specs.declared.axes.Axis.TheVariants.{Ancestor, AncestorOrSelf, PrecedingSibling, Preceding}
use Rattle.xs_tree.specs.declared.kinds.Kind.{Kind}
use Rattle.xs_tree.specs.declared.kinds.Kind.TheVariants.{Root, Element, Attribute, Space, Text, Comment, Pi}
use Rattle.xs_tree.specs.Axis.{axis_list, is_ancestor, is_preceding, is_same_document, is_sibling, root_of}
use Rattle.xs_tree.specs.Kinds.{is_child_kind, is_root_kind, rank}
use Rattle.xs_tree.specs.Record.{Record, at, climbs, is_child, is_inside, is_place}
use Rattle.xs_tree.specs.Shape.{EndsAt, IsPlaced, IsTree}
use Rattle.xs_tree.proofs.WalkLemmas.{IsPlaced-at, climbs-within, climbs-from_within, IsWithin}
use Rattle.xs_axes.specs.Walks.{passing_before}
use Rattle.xs_axes.proofs.ForwardAxisLemmas.{not_second, no_sibling, sibling-is}
use Rattle.xs_axes.proofs.SubtreeLemmas.{le_or_gt, inside-after, inside-before_end, inside-past_end, is_false, place-after, place-inside}
use Rattle.xs_axes.proofs.RangeLemmas.{before-none, before-same, before-skip, before-true, down-to}
use Rattle.xs_tree.proofs.RootLemmas.{other-before, parent-no_root, same-before}

bool-same : (a b : Bool) → (a ≡ true → b ≡ true) → (b ≡ true → a ≡ true) → a ≡ b
bool-same true b f g = sym (f refl)
bool-same false b f g = sym (is_false b (λ h. let e : false ≡ true = g h in cc))

-- ---- ancestors

pub axis-ancestors : (rs : List Record) (n : ℕ) → IsTree rs → n < length rs → passing_before (is_ancestor rs n) n ≡ axis_list Ancestor rs n
unfolding axis_list
axis-ancestors rs n t h =
    sym (down-to (is_ancestor rs n) (is_ancestor rs n) rs n (omega (arith, h)) (λ j b. refl) (λ j a b. inside-after rs j n t h a))

pub axis-self_and_ancestors : (rs : List Record) (n : ℕ) → IsTree rs → n < length rs → n ∷ passing_before (is_ancestor rs n) n ≡ axis_list AncestorOrSelf rs n
unfolding axis_list
axis-self_and_ancestors rs n t h =
    sym (before-true test n (length rs) h (rw (eq-eqb n n refl) refl)
    (λ j a b. rw (ne_eqb j n (λ e. omega (arith, e, a)), inside-after rs j n t h (omega (arith, a))) refl)
    ∙ ap (λ xs. n ∷ xs) (before-same test (is_ancestor rs n) n (λ j b. rw (ne_eqb j n (λ e. omega (arith, e, b))) refl)))
  where
    test : ℕ → Bool
    test = λ k. k == n || is_ancestor rs n k

-- a chain of parents needs no more steps than there are nodes before its first
climbs-same : (rs : List Record) (steps n k : ℕ) → IsTree rs → k < length rs → k ≤ steps → climbs steps rs n k ≡ climbs k rs n k
climbs-same rs steps n k t w le =
    bool-same (climbs steps rs n k) (climbs k rs n k)
    (λ h. let within : IsWithin rs n k = climbs-within rs t steps n k w h in climbs-from_within rs t k n k w (omega arith) within.0 within.1)
    (λ h. let within : IsWithin rs n k = climbs-within rs t k n k w h in climbs-from_within rs t steps n k w le within.0 within.1)

-- the ancestors of a node are its parent and the ancestors of that
ancestor-parent : (rs : List Record) (n p k : ℕ) → IsTree rs → n < length rs → (at rs n).parent ≡ Some p → is_ancestor rs n k ≡ (p == k || is_ancestor rs p k)
ancestor-parent rs zero p k t h e = absurd (omega (arith, (IsPlaced-at rs 0 p t h e).before))
ancestor-parent rs (suc m) p k t h e =
    let before : p < suc m = (IsPlaced-at rs (suc m) p t h e).before in
    rw (e, climbs-same rs m k p t (omega (arith, before, h)) (omega (arith, before))) refl

pub ancestors-step : (rs : List Record) (n p : ℕ) → IsTree rs → n < length rs → (at rs n).parent ≡ Some p
    → passing_before (is_ancestor rs n) n ≡ p ∷ passing_before (is_ancestor rs p) p
ancestors-step rs n p t h e =
    before-true (is_ancestor rs n) p n before (ancestor-parent rs n p p t h e ∙ rw (eq-eqb p p refl) refl)
    (λ j a b. ancestor-parent rs n p j t h e ∙ rw
    (ne_eqb p j (λ f. omega (arith, f, a)), inside-after rs j p t (omega (arith, before, h)) (omega (arith, a))) refl)
    ∙ ap (λ xs. p ∷ xs) (before-same (is_ancestor rs n) (is_ancestor rs p) p (λ j b. ancestor-parent rs n p j t h e
    ∙ rw (ne_eqb p j (λ f. omega (arith, f, b))) refl))
  where
    before : p < n
    before = (IsPlaced-at rs n p t h e).before

no_ancestor : (rs : List Record) (n k : ℕ) → (at rs n).parent ≡ None → is_ancestor rs n k ≡ false
no_ancestor rs zero k e = refl
no_ancestor rs (suc m) k e = rw e refl

pub ancestors-none : (rs : List Record) (n : ℕ) → (at rs n).parent ≡ None → passing_before (is_ancestor rs n) n ≡ []
ancestors-none rs n e = before-none (is_ancestor rs n) n (λ j b. no_ancestor rs n j e)

-- ---- siblings

pub axis-siblings_before : (rs : List Record) (n p : ℕ) → n < length rs → is_child_kind (at rs n).kind ≡ true → (at rs n).parent ≡ Some p
    → passing_before (is_child rs p) n ≡ axis_list PrecedingSibling rs n
unfolding axis_list
axis-siblings_before rs n p h e f =
    sym (down-to (λ k. is_sibling rs n k && nat_lt k n) (is_child rs p) rs n (omega (arith, h))
    (λ j b. rw (sibling-is rs n p j e f, lt-ltb j n b) (and-true (is_child rs p j)))
    (λ j a b. and_right (is_sibling rs n j) _ (le-ltb j n a)))

pub axis-no_siblings_before : (rs : List Record) (n : ℕ) → (if is_child_kind (at rs n).kind then (at rs n).parent else None) ≡ None
    → [] ≡ axis_list PrecedingSibling rs n
unfolding axis_list
axis-no_siblings_before rs n e =
    sym (before-none (λ k. is_sibling rs n k && nat_lt k n) (length rs) (λ j b. and_left (is_sibling rs n j) _ (no_sibling rs n e j)))

-- a node whose parent is another than p
other_parent : (rs : List Record) (p k q : ℕ) → (at rs k).parent ≡ Some q → (q ≡ p → ⊥) → is_child rs p k ≡ false
other_parent rs p k q e h = and_left (is_place p (at rs k).parent) _ (rw e (ne_eqb q p h))

-- from a node inside p, and not its child, to that node's parent: what is between is no child of p
pub siblings-up : (rs : List Record) (p k q : ℕ) → IsTree rs → k < length rs → (at rs k).parent ≡ Some q → p < q
    → passing_before (is_child rs p) (k + 1) ≡ passing_before (is_child rs p) (q + 1)
siblings-up rs p k q t w e h =
    before-skip (is_child rs p) (q + 1) (k + 1) (omega (arith, placed.before))
    (λ j a b. elim (eq-or-lt_of_le (at_most j b)) [
      | inl same ↦ rw same (other_parent rs p k q e (λ f. omega (arith, f, h)))
      | inr before ↦ and_left (is_place p (at rs j).parent) _ (place-inside p q (at rs j) h (placed.inside j (omega (arith, a)) before))
    ])
  where
    placed : IsPlaced rs k q
    placed = IsPlaced-at rs k q t w e

    at_most : (j : ℕ) → j < k + 1 → j ≤ k
    at_most j b = omega (arith, b)

pub siblings-found : (rs : List Record) (p k : ℕ) → (at rs k).parent ≡ Some p → is_child_kind (at rs k).kind ≡ true
    → passing_before (is_child rs p) (k + 1) ≡ k ∷ passing_before (is_child rs p) k
siblings-found rs p k e f =
    before-true (is_child rs p) k (k + 1) (omega arith) (rw (e, eq-eqb p p refl, f) refl) (λ j a b. absurd (omega (arith, a, b)))

-- nothing up to p is a child of p
pub siblings-none : (rs : List Record) (p : ℕ) → IsTree rs → p < length rs → passing_before (is_child rs p) (p + 1) ≡ []
siblings-none rs p t h =
    before-none (is_child rs p) (p + 1) (λ j b. and_left (is_place p (at rs j).parent) _ (place-after rs p j t (omega (arith, b, h)) (omega (arith, b))))

child-rank : (kind : Kind) → is_child_kind kind ≡ true → rank kind ≡ 2
child-rank Root e = cc
child-rank Element e = refl
child-rank Attribute e = cc
child-rank Space e = cc
child-rank Text e = refl
child-rank Comment e = refl
child-rank Pi e = refl

-- a node with a parent that is no child: an attribute or a namespace node
low-rank : (kind : Kind) → is_root_kind kind ≡ false → is_child_kind kind ≡ false → rank kind < 2
low-rank Root r e = cc
low-rank Element r e = cc
low-rank Attribute r e = omega arith
low-rank Space r e = omega arith
low-rank Text r e = cc
low-rank Comment r e = cc
low-rank Pi r e = cc

-- nothing before an attribute or a namespace node of p is a child of p
pub siblings-stop : (rs : List Record) (p k : ℕ) → IsTree rs → k < length rs → (at rs k).parent ≡ Some p → is_child_kind (at rs k).kind ≡ false
    → passing_before (is_child rs p) (k + 1) ≡ []
siblings-stop rs p k t w e f =
    before-none (is_child rs p) (k + 1) (λ j b. elim (le_or_gt j p) [
      | inl c ↦ and_left (is_place p (at rs j).parent) _ (place-after rs p j t (omega (arith, b, w)) c)
      | inr c ↦ and_right (is_place p (at rs j).parent) _
          (is_false (is_child_kind (at rs j).kind) (λ h. omega (arith, low, child-rank (at rs j).kind h, low_order j c b)))
    ])
  where
    placed : IsPlaced rs k p
    placed = IsPlaced-at rs k p t w e

    low : rank (at rs k).kind < 2
    low = low-rank (at rs k).kind (parent-no_root rs k p t w e) f

    low_order : (j : ℕ) → p < j → j < k + 1 → rank (at rs j).kind ≤ rank (at rs k).kind
    low_order j a b =
        let le : j ≤ k = omega (arith, b) in
        elim (eq-or-lt_of_le le) [
          | inl same ↦ (let r : rank (at rs j).kind ≡ rank (at rs k).kind = ap (λ i. rank (at rs i).kind) same in omega (arith, r))
          | inr before ↦ placed.order j a before
        ]

-- ---- what precedes

pub axis-preceding : (rs : List Record) (n : ℕ) → n < length rs → passing_before (is_preceding rs n) n ≡ axis_list Preceding rs n
unfolding axis_list
axis-preceding rs n h =
    sym (down-to (is_preceding rs n) (is_preceding rs n) rs n (omega (arith, h)) (λ j b. refl)
    (λ j a b. not_second (is_same_document rs n j) (nat_lt j n) _ _ (le-ltb j n a)))

-- a node that ends before n, or at it, is no ancestor of n
pub precedes-ended : (rs : List Record) (n k e : ℕ) → IsTree rs → n < length rs → root_of rs n ≤ k → k < n → EndsAt rs k e
    → is_child_kind (at rs k).kind ≡ true → is_preceding rs n k ≡ nat_le e n
precedes-ended rs n k e t h a b ends f = by_place (le_or_gt e n)
  where
    by_place : (e ≤ n) ⊎ (n < e) → is_preceding rs n k ≡ nat_le e n
    by_place (inl le) = rw (same-before rs n k t a (omega (arith, b)), lt-ltb k n b, inside-past_end rs k e n t ends le h, f, le-leb e n le) refl
    by_place (inr gt) = rw (same-before rs n k t a (omega (arith, b)), lt-ltb k n b, inside-before_end rs k e n t ends b gt, lt-leb e n gt) refl

pub precedes-no_child : (rs : List Record) (n k : ℕ) → is_child_kind (at rs k).kind ≡ false → is_preceding rs n k ≡ false
precedes-no_child rs n k e = and_right (is_same_document rs n k && nat_lt k n && not (is_inside rs k n)) _ e

-- nothing before the root of a node's document precedes the node
pub preceding-none : (rs : List Record) (n b : ℕ) → b ≤ root_of rs n → passing_before (is_preceding rs n) b ≡ []
preceding-none rs n b le =
    before-none (is_preceding rs n) b (λ j h. rw (other-before rs n j (omega (arith, h, le))) refl)

pub preceding-found : (rs : List Record) (n k : ℕ) → is_preceding rs n k ≡ true
    → passing_before (is_preceding rs n) (k + 1) ≡ k ∷ passing_before (is_preceding rs n) k
preceding-found rs n k e =
    before-true (is_preceding rs n) k (k + 1) (omega arith) e (λ j a b. absurd (omega (arith, a, b)))

pub preceding-passed : (rs : List Record) (n k : ℕ) → is_preceding rs n k ≡ false
    → passing_before (is_preceding rs n) (k + 1) ≡ passing_before (is_preceding rs n) k
preceding-passed rs n k e =
    before-skip (is_preceding rs n) k (k + 1) (omega arith) (λ j a b. let same : j ≡ k = omega (arith, a, b) in rw same e)

-- the parent of a node between a child of p and p is p or comes after it
pub parent-between : (rs : List Record) (p b k q : ℕ) → IsTree rs → b < length rs → (at rs b).parent ≡ Some p → p < k → k < b → (at rs k).parent ≡ Some q
    → p ≤ q
parent-between rs p b k q t w e above below f =
    let inside : IsSomeAnd (at rs k).parent (λ x. p ≤ x) = (IsPlaced-at rs b p t w e).inside k above below in
    rw f at inside
