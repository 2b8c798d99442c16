-- The axes that go forwards, as walks from place to place.
use Rattle.std.proofs.Common.{◌≡◌, ℕ, ◌+◌, ◌<◌, ◌≤◌, ◌==◌, ◌||◌, ◌&&◌, Bool, true, false, List, [], ◌∷◌, Option, None, Some, length, refl, sym, ◌∙◌, ap, arith}
use Rattle.std.proofs.Common.{IsTrue, inl, inr, if◌then◌else◌}
use Rattle.std.proofs.lemmas.Bool.{eqb-true, and_left, and_right, eq-eqb, ne_eqb, lt-ltb, le-ltb}
use Rattle.std.proofs.Math.Bool.{and-false, and-true}
use Rattle.std.specs.Prelude.{nat_lt}
use Rattle.xs_tree.specs.declared.axes.Axis.TheVariants.{Child, Descendant, Parent, FollowingSibling, Following, SelfNode, DescendantOrSelf, Namespace}
use Rattle.xs_tree.specs.declared.axes.Axis.TheVariants.{Attribute as AttributeAxis}
use Rattle.xs_tree.specs.declared.kinds.Kind.{Kind}
use Rattle.xs_tree.specs.declared.kinds.Kind.TheVariants.{Root, Element, Attribute, Space, Text, Comment, Pi}
use Rattle.xs_tree.specs.Axis.{axis_list, is_descendant, is_following, is_same_document, is_sibling, root_of}
use Rattle.xs_tree.specs.Kinds.{can_hold, is_attribute_kind, is_child_kind}
use Rattle.xs_tree.specs.Record.{Record, at, is_attribute, is_child, is_place}
use Rattle.xs_tree.specs.Shape.{EndsAt, IsTree}
use Rattle.xs_tree.specs.Walk.{attributes_from, children_from, namespaces_from}
use Rattle.xs_tree.proofs.NamespaceLemmas.{namespaces-after}
use Rattle.xs_tree.proofs.WalkLemmas.{IsPlaced-at, attributes-after, children-after}
use Rattle.xs_axes.specs.Walks.{is_content, passing_between}
use Rattle.xs_axes.proofs.SubtreeLemmas.{ends-nested, inside-after, inside-before_end, inside-past_end, le_or_gt, place-inside, is_false}
use Rattle.xs_axes.proofs.RangeLemmas.{between-cut, between-none, between-same, between-skip, between-true, from-to, one-passes, places-between}
use Rattle.xs_tree.proofs.RootLemmas.{end-after, other-past, root_of-le, same-inside}

pub axis-children : (rs : List Record) (n : ℕ) → IsTree rs → n < length rs → children_from rs n (n + 1) ≡ axis_list Child rs n
unfolding axis_list
axis-children rs n t h = sym (children-after rs n t h)

pub axis-attributes : (rs : List Record) (n : ℕ) → IsTree rs → n < length rs → attributes_from rs n (n + 1) ≡ axis_list AttributeAxis rs n
unfolding axis_list
axis-attributes rs n t h = sym (attributes-after rs n t h)

and_both : (a b : Bool) → (a && b) ≡ true → (IsTrue a) × (b ≡ true)
and_both true b h = (refl, h)
and_both false b h = cc

place-true : (n : ℕ) (o : Option ℕ) → IsTrue (is_place n o) → o ≡ Some n
place-true n None h = cc
place-true n (Some p) h = ap Some (eqb-true p n h)

holds-attribute : (holder held : Kind) → IsTrue (can_hold holder held) → is_attribute_kind held ≡ true → holder ≡ Element
holds-attribute Root Attribute h e = cc
holds-attribute Root Root h e = cc
holds-attribute Root Element h e = cc
holds-attribute Root Space h e = cc
holds-attribute Root Text h e = cc
holds-attribute Root Comment h e = cc
holds-attribute Root Pi h e = cc
holds-attribute Element held h e = refl
holds-attribute Attribute held h e = cc
holds-attribute Space held h e = cc
holds-attribute Text held h e = cc
holds-attribute Comment held h e = cc
holds-attribute Pi held h e = cc

-- only an element has attributes
pub axis-no_attributes : (rs : List Record) (n : ℕ) → IsTree rs → ((at rs n).kind ≡ Element → ⊥) → [] ≡ axis_list AttributeAxis rs n
unfolding axis_list
axis-no_attributes rs n t other =
    sym (places-between (is_attribute rs n) rs ∙ between-none (is_attribute rs n) 0 (length rs)
    (λ j a b. is_false (is_attribute rs n j) (λ h. not_one j b (and_both (is_place n (at rs j).parent) (is_attribute_kind (at rs j).kind) h))))
  where
    not_one : (j : ℕ) → j < length rs → (IsTrue (is_place n (at rs j).parent)) × (is_attribute_kind (at rs j).kind ≡ true) → ⊥
    not_one j b parts = other (holds-attribute (at rs n).kind (at rs j).kind (IsPlaced-at rs j n t b (place-true n (at rs j).parent parts.0)).held parts.1)

pub axis-namespaces : (rs : List Record) (n : ℕ) → IsTree rs → n < length rs → namespaces_from rs n (n + 1) ≡ axis_list Namespace rs n
unfolding axis_list
axis-namespaces rs n t h = sym (namespaces-after rs n t h)

pub axis-parent : (rs : List Record) (n p : ℕ) → IsTree rs → n < length rs → (at rs n).parent ≡ Some p → p ∷ [] ≡ axis_list Parent rs n
unfolding axis_list
axis-parent rs n p t h e =
    sym (one-passes (λ k. is_place k (at rs n).parent) rs p (omega (arith, h, (IsPlaced-at rs n p t h e).before)) (rw e (eq-eqb p p refl))
    (λ j f. rw e (ne_eqb p j (λ g. f (sym g)))))

pub axis-no_parent : (rs : List Record) (n : ℕ) → (at rs n).parent ≡ None → [] ≡ axis_list Parent rs n
unfolding axis_list
axis-no_parent rs n e =
    sym (places-between (λ k. is_place k (at rs n).parent) rs ∙ between-none (λ k. is_place k (at rs n).parent) 0 (length rs) (λ j a b. rw e refl))

pub axis-self : (rs : List Record) (n : ℕ) → n < length rs → n ∷ [] ≡ axis_list SelfNode rs n
unfolding axis_list
axis-self rs n h = sym (one-passes (λ k. k == n) rs n h (eq-eqb n n refl) (λ j f. ne_eqb j n f))

-- ---- descendants

pub axis-descendants : (rs : List Record) (n e : ℕ) → IsTree rs → n < length rs → EndsAt rs n e
    → passing_between (is_content rs) (n + 1) e ≡ axis_list Descendant rs n
unfolding axis_list
axis-descendants rs n e t h ends =
    sym (from-to (is_descendant rs n) (is_content rs) rs (n + 1) e (omega (arith, ends.after)) ends.within
    (λ j b. rw (inside-after rs n j t (omega (arith, b, h)) (omega (arith, b))) refl)
    (λ j a b. rw (inside-before_end rs n e j t ends (omega (arith, a)) b) refl)
    (λ j a b. rw (inside-past_end rs n e j t ends a b) refl))

pub axis-self_and_descendants : (rs : List Record) (n e : ℕ) → IsTree rs → n < length rs → EndsAt rs n e
    → n ∷ passing_between (is_content rs) (n + 1) e ≡ axis_list DescendantOrSelf rs n
unfolding axis_list
axis-self_and_descendants rs n e t h ends =
    sym (places-between test rs
    ∙ between-skip test 0 n (length rs) (omega arith) (omega (arith, h))
    (λ j a b. rw (ne_eqb j n (λ f. omega (arith, f, b)), inside-after rs n j t (omega (arith, b, h)) (omega (arith, b))) refl)
    ∙ between-true test n (length rs) h (rw (eq-eqb n n refl) refl)
    ∙ ap (λ xs. n ∷ xs) (between-cut test (n + 1) e (length rs) (omega (arith, ends.after)) ends.within
    (λ j a b. rw (ne_eqb j n (λ f. omega (arith, f, a, ends.after)), inside-past_end rs n e j t ends a b) refl)
    ∙ between-same test (is_content rs) (n + 1) e
    (λ j a b. rw (ne_eqb j n (λ f. omega (arith, f, a)), inside-before_end rs n e j t ends (omega (arith, a)) b) refl)))
  where
    test : ℕ → Bool
    test = λ k. k == n || is_descendant rs n k

-- ---- what follows

pub not_second : (a b c d : Bool) → b ≡ false → (a && b && c && d) ≡ false
not_second a b c d e = rw (e, and-false a) refl

not_third : (a b c d : Bool) → c ≡ false → (a && b && c && d) ≡ false
not_third a b c d e = rw (e, and-false (a && b)) refl

pub axis-following : (rs : List Record) (n s e : ℕ) → IsTree rs → n < length rs → EndsAt rs n s → EndsAt rs (root_of rs n) e
    → passing_between (is_content rs) s e ≡ axis_list Following rs n
unfolding axis_list
axis-following rs n s e t h own all =
    sym (from-to (is_following rs n) (is_content rs) rs s e nested all.within
    (λ j b. elim (le_or_gt j n) [
      | inl c ↦ not_second (is_same_document rs n j) _ _ _ (le-ltb n j c)
      | inr c ↦ not_third (is_same_document rs n j) (nat_lt n j) _ _ (rw (inside-before_end rs n s j t own c b) refl)
    ])
    (λ j a b. rw (
      same-inside rs n e j t all (omega (arith, a, own.after, root_of-le rs n)) b,
      lt-ltb n j
          (omega (arith, a, own.after)),
      inside-past_end rs n s j t own a (omega (arith, b, all.within)),
    ) refl)
    (λ j a b. rw (other-past rs n e j t h all a b) refl))
  where
    nested : s ≤ e
    nested = ends-nested rs (root_of rs n) n s e (root_of-le rs n) (end-after rs n e t h all) own all

-- ---- siblings

pub sibling-is : (rs : List Record) (n p k : ℕ) → is_child_kind (at rs n).kind ≡ true → (at rs n).parent ≡ Some p → is_sibling rs n k ≡ is_child rs p k
sibling-is rs n p k e f = rw (e, f) refl

pub axis-following_siblings : (rs : List Record) (n p s : ℕ) → IsTree rs → n < length rs → EndsAt rs n s → is_child_kind (at rs n).kind ≡ true
    → (at rs n).parent ≡ Some p → children_from rs p s ≡ axis_list FollowingSibling rs n
unfolding axis_list
axis-following_siblings rs n p s t h ends e f =
    sym (from-to (λ k. is_sibling rs n k && nat_lt n k) (is_child rs p) rs s (length rs) ends.within (omega arith)
    (λ j b. elim (le_or_gt j n) [
      | inl c ↦ and_right (is_sibling rs n j) _ (le-ltb n j c)
      | inr c ↦ and_left (is_sibling rs n j) _ (sibling-is rs n p j e f
          ∙ and_left (is_place p (at rs j).parent) _ (place-inside p n (at rs j) (IsPlaced-at rs n p t h f).before (ends.inside j c b)))
    ])
    (λ j a b. rw (sibling-is rs n p j e f, lt-ltb n j (omega (arith, a, ends.after))) (and-true (is_child rs p j)))
    (λ j a b. absurd (omega (arith, a, b))))

-- a node that is the child of no other has no siblings
pub no_sibling : (rs : List Record) (n : ℕ) → (if is_child_kind (at rs n).kind then (at rs n).parent else None) ≡ None → (k : ℕ) → is_sibling rs n k ≡ false
no_sibling rs n e k = by_kind (is_child_kind (at rs n).kind) refl e
  where
    by_kind : (b : Bool) → is_child_kind (at rs n).kind ≡ b → (if b then (at rs n).parent else None) ≡ None → is_sibling rs n k ≡ false
    by_kind true f g = rw (f, g) refl
    by_kind false f g = rw f refl

pub axis-no_following_siblings : (rs : List Record) (n : ℕ) → (if is_child_kind (at rs n).kind then (at rs n).parent else None) ≡ None
    → [] ≡ axis_list FollowingSibling rs n
unfolding axis_list
axis-no_following_siblings rs n e =
    sym (places-between (λ k. is_sibling rs n k && nat_lt n k) rs
    ∙ between-none (λ k. is_sibling rs n k && nat_lt n k) 0 (length rs) (λ j a b. and_left (is_sibling rs n j) _ (no_sibling rs n e j)))

-- a node that is a child, and of which
pub some_child : (rs : List Record) (n p : ℕ) → (if is_child_kind (at rs n).kind then (at rs n).parent else None) ≡ Some p
    → (is_child_kind (at rs n).kind ≡ true) × ((at rs n).parent ≡ Some p)
some_child rs n p e = by_kind (is_child_kind (at rs n).kind) refl e
  where
    by_kind : (b : Bool) → is_child_kind (at rs n).kind ≡ b → (if b then (at rs n).parent else None) ≡ Some p → (is_child_kind (at rs n).kind ≡ true)
        × ((at rs n).parent ≡ Some p)
    by_kind true f g = (f, g)
    by_kind false f g = cc
