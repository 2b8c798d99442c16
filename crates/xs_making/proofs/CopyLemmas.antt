-- The copy of a node, by those of its children.
use Rattle.std.proofs.Common.{◌≡◌, ℕ, zero, suc, ◌+◌, ◌<◌, ◌≤◌, Bool, true, false, List, [], ◌∷◌, ◌++◌, Option, Some, None, length, refl, sym, ap, ◌∙◌, append_assoc, arith}
use Rattle.std.proofs.lemmas.Bool.{and_parts, eqb-true}
use Rattle.std.specs.List.{flat_map}
use Rattle.xs_trace.specs.declared.event.Event.{Event}
use Rattle.xs_trace.specs.declared.event.Event.TheVariants.{End}
use Rattle.xs_tree.specs.declared.kinds.Kind.{Kind}
use Rattle.xs_tree.specs.declared.kinds.Kind.TheVariants.{Root, Element, Attribute, Space, Text, Comment, Pi}
use Rattle.xs_tree.specs.Kinds.{is_child_kind}
use Rattle.xs_tree.specs.Record.{Record, at, children, is_child, is_place}
use Rattle.xs_tree.specs.Shape.{IsTree}
use Rattle.xs_tree.proofs.WalkLemmas.{IsPlaced-at, child-within, children-after, passing-passes}
use Rattle.xs_making.specs.Copies.{copy_within, deep_copy, leaf_events, tag_events, whole_as}
use Rattle.xs_making.specs.steps.Walk.{inside}

-- two functions that agree on the items of a list
flat_map-same : (f g : ℕ → List Event) (all before xs : List ℕ) → ((before after : List ℕ) (k : ℕ) → all ≡ before ++ k ∷ after → f k ≡ g k)
    → all ≡ before ++ xs → flat_map f xs ≡ flat_map g xs
flat_map-same f g all before [] same e = refl
flat_map-same f g all before (x ∷ xs) same e =
    ap (λ ys. ys ++ flat_map f xs) (same before xs x e)
    ∙ ap (λ ys. g x ++ ys) (flat_map-same f g all (before ++ x ∷ []) xs same (e ∙ sym (append_assoc before (x ∷ []) xs)))

pub place-true : (n : ℕ) (o : Option ℕ) → is_place n o ≡ true → o ≡ Some n
place-true n None h = absurd (cc)
place-true n (Some p) h = ap Some (eqb-true p n h)

pub child-kind : (rs : List Record) (n k : ℕ) → is_child rs n k ≡ true → is_child_kind (at rs k).kind ≡ true
child-kind rs n k is = (and_parts (is_place n (at rs k).parent) (is_child_kind (at rs k).kind) is).1

-- a child comes after its parent
pub child-parent : (rs : List Record) (n k : ℕ) → is_child rs n k ≡ true → (at rs k).parent ≡ Some n
child-parent rs n k is = place-true n (at rs k).parent (and_parts (is_place n (at rs k).parent) (is_child_kind (at rs k).kind) is).0

child-after : (rs : List Record) (n : ℕ) → IsTree rs → (before after : List ℕ) (k : ℕ) → children rs n ≡ before ++ k ∷ after → n < k
child-after rs n t before after k e =
    (IsPlaced-at rs k n t (child-within rs n before after k e) (child-parent rs n k (passing-passes (is_child rs n) rs before after k e))).before

-- levels that suffice give one copy
within-same : (rs : List Record) → IsTree rs → (a b n : ℕ) → n < length rs → length rs ≤ a + n → length rs ≤ b + n → copy_within a rs n ≡ copy_within b rs n
unfolding copy_within
within-same rs t zero b n w la lb = absurd (omega (arith, w, la))
within-same rs t (suc a) zero n w la lb = absurd (omega (arith, w, lb))
within-same rs t (suc a) (suc b) n w la lb =
    ap (λ xs. whole_as (at rs n).kind rs n xs)
    (flat_map-same (copy_within a rs) (copy_within b rs) (children rs n) [] (children rs n)
    (λ before after k e. within-same rs t a b k (child-within rs n before after k e) (fewer a k la (child-after rs n t before after k e))
    (fewer b k lb (child-after rs n t before after k e))) refl)
  where
    fewer : (d k : ℕ) → length rs ≤ suc d + n → n < k → length rs ≤ d + k
    fewer d k le lt = omega (arith, le, lt)

copy_is : (rs : List Record) (n : ℕ) → IsTree rs → n < length rs
    → deep_copy rs n ≡ whole_as (at rs n).kind rs n (flat_map (deep_copy rs) (children rs n))
unfolding deep_copy copy_within
copy_is rs n t w = within-same rs t (length rs) (suc (length rs)) n w (omega arith) (omega arith)

pub copy-element : (rs : List Record) (n : ℕ) → IsTree rs → n < length rs → (at rs n).kind ≡ Element
    → deep_copy rs n ≡ tag_events rs n ++ (inside rs n ++ End ∷ [])
copy-element rs n t w e =
    copy_is rs n t w ∙ ap (λ kind. whole_as kind rs n (flat_map (deep_copy rs) (children rs n))) e
    ∙ ap (λ ks. tag_events rs n ++ (flat_map (deep_copy rs) ks ++ End ∷ [])) (children-after rs n t w)

pub copy-root : (rs : List Record) (n : ℕ) → IsTree rs → n < length rs → (at rs n).kind ≡ Root → deep_copy rs n ≡ inside rs n
copy-root rs n t w e =
    copy_is rs n t w ∙ ap (λ kind. whole_as kind rs n (flat_map (deep_copy rs) (children rs n))) e
    ∙ ap (flat_map (deep_copy rs)) (children-after rs n t w)

-- the other kinds of node
abbrev pub is_leaf : Kind → Bool
is_leaf Root = false
is_leaf Element = false
is_leaf Attribute = true
is_leaf Space = true
is_leaf Text = true
is_leaf Comment = true
is_leaf Pi = true

pub leaf-other : (kind : Kind) → (kind ≡ Root → ⊥) → (kind ≡ Element → ⊥) → is_leaf kind ≡ true
leaf-other Root no_root no_element = absurd (no_root refl)
leaf-other Element no_root no_element = absurd (no_element refl)
leaf-other Attribute no_root no_element = refl
leaf-other Space no_root no_element = refl
leaf-other Text no_root no_element = refl
leaf-other Comment no_root no_element = refl
leaf-other Pi no_root no_element = refl

whole-leaf : (kind : Kind) (rs : List Record) (n : ℕ) (xs : List Event) → is_leaf kind ≡ true → whole_as kind rs n xs ≡ leaf_events kind (at rs n)
whole-leaf Root rs n xs e = absurd (cc)
whole-leaf Element rs n xs e = absurd (cc)
whole-leaf Attribute rs n xs e = refl
whole-leaf Space rs n xs e = refl
whole-leaf Text rs n xs e = refl
whole-leaf Comment rs n xs e = refl
whole-leaf Pi rs n xs e = refl

pub copy-leaf : (rs : List Record) (n : ℕ) → IsTree rs → n < length rs → is_leaf (at rs n).kind ≡ true
    → deep_copy rs n ≡ leaf_events (at rs n).kind (at rs n)
copy-leaf rs n t w e = copy_is rs n t w ∙ whole-leaf (at rs n).kind rs n (flat_map (deep_copy rs) (children rs n)) e
