-- A walk through what is in a node puts the copies of its children.
use Rattle.std.proofs.Common.{◌≡◌, ℕ, ◌+◌, ◌-◌, ◌*◌, ◌<◌, ◌≤◌, Bool, true, false, if◌then◌else◌, List, [], ◌∷◌, ◌++◌, Some, All, IsSome, Result, Err}
use Rattle.std.proofs.Common.{length, refl, sym, ap, subst, ◌∙◌, append_assoc, arith, inl, inr}
use Rattle.std.proofs.Math.Nat.{eq-or-lt_of_le, mul_comm}
use Rattle.std.proofs.lemmas.Nat.{mul-add-lt, mul-le}
use Rattle.std.proofs.lemmas.List.{append-nil}
use Rattle.std.proofs.lemmas.List.Elements.{All-filter, All-from_get_or, All-head, All-same, filter_passes}
use Rattle.std.proofs.lemmas.List.FromFn.{get_or-range_with_len, length-range_with_len}
use Rattle.std.specs.List.{flat_map, range_with_len}
use Rattle.xs_trace.specs.Play.{goes}
use Rattle.xs_trace.specs.State.{State}
use Rattle.xs_trace.specs.declared.event.Event.{Event}
use Rattle.xs_trace.specs.declared.event.Event.TheVariants.{End}
use Rattle.xs_trace.specs.declared.item.Site.{Site}
use Rattle.xs_trace.specs.declared.recorder.Halt.{Halt}
use Rattle.xs_tree.specs.declared.kinds.Kind.{Kind}
use Rattle.xs_tree.specs.declared.kinds.Kind.TheVariants.{Root, Element, Attribute, Space, Text, Comment, Pi}
use Rattle.xs_tree.specs.Kinds.{is_child_kind, is_element_kind}
use Rattle.xs_tree.specs.Record.{Record, at, is_child}
use Rattle.xs_tree.specs.Shape.{EndsAt, HasParentFrom, IsPlaced, IsTree}
use Rattle.xs_tree.specs.Walk.{children_from}
use Rattle.xs_tree.proofs.WalkLemmas.{HasParentFrom-own, IsPlaced-at, children-next, from_earlier, le_or_gt}
use Rattle.xs_making.specs.Copies.{deep_copy, leaf_events, tag_events}
use Rattle.xs_making.specs.Putting.{Puts, events_steps}
use Rattle.xs_making.specs.steps.Walk.{copies_from, inside, opening, opening_as}
use Rattle.xs_making.proofs.CopyLemmas.{child-kind, child-parent, copy-element, copy-leaf, is_leaf}
use Rattle.xs_making.proofs.PutLemmas.{events-after, events-then-end}

-- What is still to be put when the children of the node at n have been: its end, its later siblings, and so on up to the top.
data Rests (rs : List Record) (top : ℕ) : ℕ → List Event → Type 0 where
  at_top : Rests rs top top []
  below : (n p : ℕ) (rest : List Event) → top < n → (at rs n).parent ≡ Some p → Rests rs top p rest
      → Rests rs top n (End ∷ (copies_from rs p (n + 1) ++ rest))

-- The children of the node at holder are being put, from a place on: what is left to be put. All between is in that node.
pub record IsLeft (rs : List Record) (top holder from : ℕ) (left : List Event) : Type 0 where
  rest : List Event
  rests : Rests rs top holder rest
  is : left ≡ copies_from rs holder from ++ rest
  pub within : holder < length rs
  pub before : holder < from
  pub near : from ≤ length rs
  between : (j : ℕ) → holder < j → j < from → HasParentFrom holder (at rs j)

-- what is put first of what is left, and what is left then
pub record Next (rs : List Record) (top holder from : ℕ) (left first : List Event) : Type 0 where
  pub others : List Event
  pub is : left ≡ first ++ others
  pub after : IsLeft rs top holder from others

pub record HasEnd (left : List Event) : Type 0 where
  pub others : List Event
  pub is : left ≡ (End ∷ []) ++ others

-- what was put so far led to a state, from which the rest is put
pub record IsCopying {H : Type 0} (p : Site) (rs : List Record) (top : ℕ) (old new : State H) (holder from : ℕ) : Type 0 where
  pub left : List Event
  pub is : IsLeft rs top holder from left
  pub reported : events_steps p (inside rs top) old ≡ events_steps p left new

left-start : (rs : List Record) (top : ℕ) → top < length rs → IsLeft rs top top (top + 1) (inside rs top)
left-start rs top w = record {
  rest = [];
  rests = at_top;
  is = sym (append-nil (inside rs top));
  within = w;
  before = omega arith;
  near = omega (arith, w);
  between = λ j a b. absurd (omega (arith, a, b));
}

pub copying-start : {H : Type 0} → (p : Site) (rs : List Record) (top : ℕ) (s : State H) → top < length rs → IsCopying p rs top s s top (top + 1)
copying-start p rs top s w = record { left = inside rs top; is = left-start rs top w; reported = refl }

-- ---- a child comes next
range-from : (k n : ℕ) → All (λ j. k ≤ j) (range_with_len k n)
range-from k n =
    All-from_get_or (λ j. k ≤ j) (range_with_len k n) 0
    (λ i h. rw (get_or-range_with_len k n i 0 (omega (arith, h, length-range_with_len k n))) (omega arith))

pub record IsNext (rs : List Record) (holder from child : ℕ) : Type 0 where
  pub is_child : is_child rs holder child ≡ true
  pub later : from ≤ child

pub next_is : (rs : List Record) (holder from child : ℕ) (more : List ℕ) → children_from rs holder from ≡ child ∷ more → IsNext rs holder from child
next_is rs holder from child more e = record {
  is_child =
      All-head (λ k. is_child rs holder k ≡ true) child more
      (All-same (λ k. is_child rs holder k ≡ true) (child ∷ more) (children_from rs holder from) (sym e)
      (filter_passes (is_child rs holder) (range_with_len from (length rs - from))));
  later =
      All-head (λ k. from ≤ k) child more
      (All-same (λ k. from ≤ k) (child ∷ more) (children_from rs holder from) (sym e)
      (All-filter (is_child rs holder) (λ k. from ≤ k) (range_with_len from (length rs - from)) (range-from from (length rs - from))));
}

rests-after : (rs : List Record) (top n : ℕ) (rest : List Event) → Rests rs top n rest → top ≤ n
rests-after rs top n rest at_top = omega arith
rests-after rs top n rest (below m p more after parent more_rests) = omega (arith, after)

-- all up to a child is in its parent
up_to : (rs : List Record) (holder child : ℕ) → IsTree rs → child < length rs → (at rs child).parent ≡ Some holder
    → (j : ℕ) → holder < j → j < child + 1 → HasParentFrom holder (at rs j)
up_to rs holder child t w parent j a b =
    elim (eq-or-lt_of_le (le j child b)) [
      | inl same ↦ rw same (HasParentFrom-own (at rs child) holder parent)
      | inr earlier ↦ (IsPlaced-at rs child holder t w parent).inside j a earlier
    ]
  where
    le : (j child : ℕ) → j < child + 1 → j ≤ child
    le j child h = omega (arith, h)

-- a child that holds none
leaf_next : (rs : List Record) (top holder from child : ℕ) (left : List Event) → IsTree rs → child < length rs → holder < child
    → IsLeft rs top holder from left → children_from rs holder from ≡ child ∷ children_from rs holder (child + 1)
    → (own : List Event) → deep_copy rs child ≡ own → Next rs top holder (child + 1) left own
leaf_next rs top holder from child left t w after c next own is =
    let parent : (at rs child).parent ≡ Some holder =
    child-parent rs holder child (next_is rs holder from child (children_from rs holder (child + 1)) next).is_child in
    let later : List Event = copies_from rs holder (child + 1) in
    let all : copies_from rs holder from ≡ own ++ later = ap (flat_map (deep_copy rs)) next ∙ ap (λ xs. xs ++ later) is in
    record {
      others = later ++ c.rest;
      is = c.is ∙ ap (λ xs. xs ++ c.rest) all ∙ append_assoc own later c.rest;
      after = record {
        rest = c.rest;
        rests = c.rests;
        is = refl;
        within = c.within;
        before = omega (arith, after);
        near = omega (arith, w);
        between = up_to rs holder child t w parent;
      };
    }

-- an element, whose children come next
element_next : (rs : List Record) (top holder from child : ℕ) (left : List Event) → IsTree rs → child < length rs → holder < child
    → IsLeft rs top holder from left → children_from rs holder from ≡ child ∷ children_from rs holder (child + 1)
    → (at rs child).kind ≡ Element → Next rs top child (child + 1) left (tag_events rs child)
element_next rs top holder from child left t w after c next kind =
    let parent : (at rs child).parent ≡ Some holder =
    child-parent rs holder child (next_is rs holder from child (children_from rs holder (child + 1)) next).is_child in
    let tag : List Event = tag_events rs child in
    let later : List Event = copies_from rs holder (child + 1) in
    let all : copies_from rs holder from ≡ tag ++ (inside rs child ++ (End ∷ later)) =
    ap (flat_map (deep_copy rs)) next ∙ ap (λ xs. xs ++ later) (copy-element rs child t w kind)
    ∙ append_assoc tag (inside rs child ++ End ∷ []) later ∙ ap (λ xs. tag ++ xs) (append_assoc (inside rs child) (End ∷ []) later) in
    let joined : (tag ++ (inside rs child ++ (End ∷ later))) ++ c.rest ≡ tag ++ (inside rs child ++ (End ∷ (later ++ c.rest))) =
    append_assoc tag (inside rs child ++ (End ∷ later)) c.rest ∙ ap (λ xs. tag ++ xs) (append_assoc (inside rs child) (End ∷ later) c.rest) in
    record {
      others = inside rs child ++ (End ∷ (later ++ c.rest));
      is = c.is ∙ ap (λ xs. xs ++ c.rest) all ∙ joined;
      after = record {
        rest = End ∷ (later ++ c.rest);
        rests = below child holder c.rest (omega (arith, after, rests-after rs top holder c.rest c.rests)) parent c.rests;
        is = refl;
        within = w;
        before = omega arith;
        near = omega (arith, w);
        between = λ j a b. absurd (omega (arith, a, b));
      };
    }

child_next : (rs : List Record) (top holder from child : ℕ) (left : List Event) → IsTree rs → child < length rs → holder < child
    → IsLeft rs top holder from left → children_from rs holder from ≡ child ∷ children_from rs holder (child + 1)
    → Next rs top (if is_element_kind (at rs child).kind then child else holder) (child + 1) left (opening rs child)
child_next rs top holder from child left t w after c next =
    by_kind (at rs child).kind refl
    (child-kind rs holder child (next_is rs holder from child (children_from rs holder (child + 1)) next).is_child)
  where
    OfKind : Kind → Type 0
    OfKind kind = Next rs top (if is_element_kind kind then child else holder) (child + 1) left (opening_as kind rs child)

    leaf : (kind : Kind) → (at rs child).kind ≡ kind → is_leaf kind ≡ true → opening_as kind rs child ≡ leaf_events kind (at rs child)
        → Next rs top holder (child + 1) left (opening_as kind rs child)
    leaf kind is is_it opens =
        leaf_next rs top holder from child left t w after c next (opening_as kind rs child)
        (copy-leaf rs child t w (ap is_leaf is ∙ is_it) ∙ ap (λ k. leaf_events k (at rs child)) is ∙ sym opens)

    by_kind : (kind : Kind) → (at rs child).kind ≡ kind → is_child_kind (at rs child).kind ≡ true → OfKind (at rs child).kind
    by_kind Root is held = absurd (let no_child : is_child_kind Root ≡ true = ap is_child_kind (sym is) ∙ held in cc)
    by_kind Attribute is held = absurd (let no_child : is_child_kind Attribute ≡ true = ap is_child_kind (sym is) ∙ held in cc)
    by_kind Space is held = absurd (let no_child : is_child_kind Space ≡ true = ap is_child_kind (sym is) ∙ held in cc)
    by_kind Element is held = subst OfKind (sym is) (element_next rs top holder from child left t w after c next is)
    by_kind Text is held = subst OfKind (sym is) (leaf Text is refl refl)
    by_kind Comment is held = subst OfKind (sym is) (leaf Comment is refl refl)
    by_kind Pi is held = subst OfKind (sym is) (leaf Pi is refl refl)

pub copying-next : {H : Type 0} → (p : Site) (rs : List Record) (top : ℕ) (old s m : State H) (holder from child place after : ℕ) → IsTree rs
    → child < length rs → holder < child → IsCopying p rs top old s holder from
    → children_from rs holder from ≡ child ∷ children_from rs holder (child + 1) → events_steps p (opening rs child) s ≡ goes m
    → after ≡ (if is_element_kind (at rs child).kind then child else holder) → place ≡ child + 1 → IsCopying p rs top old m after place
copying-next p rs top old s m holder from child place after t w gt c next put is at_place =
    let n = child_next rs top holder from child c.left t w gt c.is next in
    record {
      left = n.others;
      is =
          subst (λ k. IsLeft rs top after k n.others) (sym at_place)
          (subst (λ k. IsLeft rs top k (child + 1) n.others) (sym is) n.after);
      reported = c.reported ∙ events-after p c.left (opening rs child) n.others s m n.is put;
    }

-- an end while a child is put
pub copying-stops : {H : Type 0} → (p : Site) (rs : List Record) (top : ℕ) (old s m : State H) (holder from child : ℕ) (result : Result (Unit {0}) Halt)
    (y h : Halt) → IsTree rs → child < length rs → holder < child → IsCopying p rs top old s holder from
    → children_from rs holder from ≡ child ∷ children_from rs holder (child + 1) → result ≡ Err y → y ≡ h → Puts p (opening rs child) s (Err h) m
    → Puts p (inside rs top) old result m
copying-stops p rs top old s m holder from child result y h t w gt c next a b put =
    let n = child_next rs top holder from child c.left t w gt c.is next in
    events-then-end p (inside rs top) c.left (opening rs child) n.others old s m result y h c.reported n.is a b put

-- ---- no child is left
-- below the top an element ends
pub copying-parent : {H : Type 0} → (p : Site) (rs : List Record) (top : ℕ) (old s : State H) (holder from : ℕ) → IsCopying p rs top old s holder from
    → (holder ≡ top → ⊥) → IsSome (at rs holder).parent
copying-parent p rs top old s holder from c other = by_rests holder c.is.rest c.is.rests other
  where
    by_rests : (n : ℕ) (rest : List Event) → Rests rs top n rest → (n ≡ top → ⊥) → IsSome (at rs n).parent
    by_rests n rest at_top no_top = absurd (no_top refl)
    by_rests n rest (below m p more after parent more_rests) no_top = rw parent refl

-- what is left has its end first, whatever its parent is
ends : (rs : List Record) (top holder from : ℕ) (left : List Event) → IsLeft rs top holder from left → (holder ≡ top → ⊥)
    → children_from rs holder from ≡ [] → HasEnd left
ends rs top holder from left c other none = by_rests holder c.rest c.rests refl c.is
  where
    by_rests : (n : ℕ) (rest : List Event) → Rests rs top n rest → n ≡ holder → left ≡ copies_from rs holder from ++ rest → HasEnd left
    by_rests n rest at_top is whole = absurd (other (sym is))
    by_rests n rest (below m q more after held more_rests) is whole = record {
      others = copies_from rs q (m + 1) ++ more;
      is = whole ∙ ap (λ ks. flat_map (deep_copy rs) ks ++ rest) none;
    }

end_next : (rs : List Record) (top holder from p e : ℕ) (left : List Event) → IsTree rs → IsLeft rs top holder from left → (holder ≡ top → ⊥)
    → children_from rs holder from ≡ [] → (at rs holder).parent ≡ Some p → EndsAt rs holder e → Next rs top p e left (End ∷ [])
end_next rs top holder from p e left t c other none parent ends = by_rests holder c.rest c.rests refl c.is
  where
    placed : IsPlaced rs holder p
    placed = IsPlaced-at rs holder p t c.within parent

    in_parent : (j : ℕ) → p < j → j < e → HasParentFrom p (at rs j)
    in_parent j a b =
        elim (le_or_gt j holder) [
          | inl le ↦ up_to rs p holder t c.within parent j a (omega (arith, le))
          | inr gt ↦ from_earlier (at rs j).parent p holder (omega (arith, placed.before)) (ends.inside j gt b)
        ]

    by_rests : (n : ℕ) (rest : List Event) → Rests rs top n rest → n ≡ holder → left ≡ copies_from rs holder from ++ rest
        → Next rs top p e left (End ∷ [])
    by_rests n rest at_top is whole = absurd (other (sym is))
    by_rests n rest (below m q more after held more_rests) is whole =
        let own : (at rs holder).parent ≡ Some q = subst (λ k. (at rs k).parent ≡ Some q) is held in
        let same : q ≡ p = (let both : Some q ≡ Some p = sym own ∙ parent in cc) in
        let later : copies_from rs q (m + 1) ≡ copies_from rs p e =
        ap (λ k. copies_from rs q (k + 1)) is ∙ ap (λ k. copies_from rs k (holder + 1)) same
        ∙ ap (flat_map (deep_copy rs)) (children-next rs p holder e placed.before ends) in
        record {
          others = copies_from rs p e ++ more;
          is = whole ∙ ap (λ ks. flat_map (deep_copy rs) ks ++ rest) none ∙ ap (λ xs. End ∷ (xs ++ more)) later;
          after = record {
            rest = more;
            rests = subst (λ k. Rests rs top k more) same more_rests;
            is = refl;
            within = omega (arith, placed.before, c.within);
            before = omega (arith, placed.before, ends.after);
            near = ends.within;
            between = in_parent;
          };
        }

pub copying-end : {H : Type 0} → (p : Site) (rs : List Record) (top : ℕ) (old s m : State H) (holder from q e : ℕ) → IsTree rs
    → IsCopying p rs top old s holder from → (holder ≡ top → ⊥) → children_from rs holder from ≡ [] → (at rs holder).parent ≡ Some q
    → EndsAt rs holder e → events_steps p (End ∷ []) s ≡ goes m → IsCopying p rs top old m q e
copying-end p rs top old s m holder from q e t c other none parent ends put =
    let n = end_next rs top holder from q e c.left t c.is other none parent ends in
    record {
      left = n.others;
      is = n.after;
      reported = c.reported ∙ events-after p c.left (End ∷ []) n.others s m n.is put;
    }

-- an end while it is put
pub copying-stops-end : {H : Type 0} → (p : Site) (rs : List Record) (top : ℕ) (old s m : State H) (holder from : ℕ) (result : Result (Unit {0}) Halt)
    (y h : Halt) → IsCopying p rs top old s holder from → (holder ≡ top → ⊥) → children_from rs holder from ≡ [] → result ≡ Err y → y ≡ h
    → Puts p (End ∷ []) s (Err h) m → Puts p (inside rs top) old result m
copying-stops-end p rs top old s m holder from result y h c other none a b put =
    let n = ends rs top holder from c.left c.is other none in
    events-then-end p (inside rs top) c.left (End ∷ []) n.others old s m result y h c.reported n.is a b put

-- at the top all is put
pub copying-all : {H : Type 0} → (p : Site) (rs : List Record) (top : ℕ) (old s : State H) (holder from : ℕ) → IsCopying p rs top old s holder from
    → holder ≡ top → children_from rs holder from ≡ [] → events_steps p (inside rs top) old ≡ goes s
copying-all p rs top old s holder from c is none =
    c.reported ∙ ap (λ es. events_steps p es s) (by_rests holder c.is.rest c.is.rests is c.is.is)
  where
    by_rests : (n : ℕ) (rest : List Event) → Rests rs top n rest → n ≡ top → c.left ≡ copies_from rs holder from ++ rest → c.left ≡ []
    by_rests n rest at_top same whole = whole ∙ ap (λ ks. flat_map (deep_copy rs) ks ++ []) none
    by_rests n rest (below m p more after parent more_rests) same whole = absurd (omega (arith, after, same))

-- ---- it ends
-- a number of two digits
lexical : (a b m x y : ℕ) → a < b → x ≤ m → a * (m + 1) + x < b * (m + 1) + y
lexical a b m x y lt le = omega (arith, mul-add-lt a (m + 1) x b lt (omega (arith, le)), mul_comm (m + 1) b)

smaller-child : (rs : List Record) (holder from child next : ℕ) → from ≤ child → child < length rs → next ≤ length rs
    → (length rs - (child + 1)) * (length rs + 1) + next < (length rs - from) * (length rs + 1) + holder
smaller-child rs holder from child next le w small = lexical (length rs - (child + 1)) (length rs - from) (length rs) next holder (omega (arith, le, w)) small

within_either : (b : Bool) (n child holder : ℕ) → child ≤ n → holder ≤ n → (if b then child else holder) ≤ n
within_either true n child holder a b = a
within_either false n child holder a b = b

pub smaller-next : {H : Type 0} → (p : Site) (rs : List Record) (top : ℕ) (old s : State H) (holder from child place after : ℕ)
    → IsCopying p rs top old s holder from → child < length rs → children_from rs holder from ≡ child ∷ children_from rs holder (child + 1)
    → after ≡ (if is_element_kind (at rs child).kind then child else holder) → place ≡ child + 1
    → (length rs - place) * (length rs + 1) + after < (length rs - from) * (length rs + 1) + holder
smaller-next p rs top old s holder from child place after c w next is at_place =
    let most : (if is_element_kind (at rs child).kind then child else holder) ≤ length rs =
    within_either (is_element_kind (at rs child).kind) (length rs) child holder (omega (arith, w)) (omega (arith, c.is.within)) in
    let small : after ≤ length rs = subst (λ k. k ≤ length rs) (sym is) most in
    subst (λ k. (length rs - k) * (length rs + 1) + after < (length rs - from) * (length rs + 1) + holder) (sym at_place)
    (smaller-child rs holder from child after (next_is rs holder from child (children_from rs holder (child + 1)) next).later w small)

-- an element ends at a place from which on its children are put, or later
from-end : (rs : List Record) (top holder from e : ℕ) (left : List Event) → IsLeft rs top holder from left → EndsAt rs holder e → from ≤ e
from-end rs top holder from e left c ends =
    elim (le_or_gt from e) [
      | inl le ↦ le
      | inr gt ↦ absurd (ends.outside (omega (arith, gt, c.near)) (c.between e ends.after gt))
    ]

pub smaller-end : {H : Type 0} → (p : Site) (rs : List Record) (top : ℕ) (old s : State H) (holder from q e : ℕ) → IsTree rs
    → IsCopying p rs top old s holder from → (at rs holder).parent ≡ Some q → EndsAt rs holder e
    → (length rs - e) * (length rs + 1) + q < (length rs - from) * (length rs + 1) + holder
smaller-end p rs top old s holder from q e t c parent ends =
    let le : from ≤ e = from-end rs top holder from e c.left c.is ends in
    let lt : q < holder = (IsPlaced-at rs holder q t c.is.within parent).before in
    let less : (length rs - e) * (length rs + 1) ≤ (length rs - from) * (length rs + 1) =
    mul-le (length rs - e) (length rs + 1) (length rs - from) (length rs + 1) (omega (arith, le)) (omega arith) in
    omega (arith, lt, less)
