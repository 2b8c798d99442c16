-- Walks in document order may stop at the end of a run of attributes or of what is inside a node.
use Rattle.std.proofs.Common.{◌≡◌, ℕ, zero, suc, ◌+◌, ◌-◌, ◌<◌, ◌≤◌, ◌==◌, ◌||◌, Bool, true, false, List, [], ◌∷◌, ◌++◌, Option, None, Some, filter, length}
use Rattle.std.proofs.Common.{refl, sym, ◌∙◌, ap, subst, arith, All, length-append, append_assoc, take, eq-eqb, eqb-true, if◌then◌else◌, MatchOption, IsTrue}
use Rattle.std.proofs.Common.{IsSomeAnd, ◌↔◌, ◌⊎◌, inl, inr}
use Rattle.std.proofs.Math.Nat.{eq-or-lt_of_le}
use Rattle.std.proofs.lemmas.Bool.Decides.{leb_tells}
use Rattle.std.proofs.lemmas.Bool.{or_cases, or_left, or_right}
use Rattle.std.proofs.lemmas.List.Elements.{All-filter, filter_passes}
use Rattle.std.proofs.lemmas.List.FromFn.{get_or-range_with_len, length-range_with_len}
use Rattle.std.proofs.Math.Seq.{get_or-append_seam}
use Rattle.std.proofs.lemmas.List.{append-nil, take-append-le, take_all}
use Rattle.std.proofs.Math.Bool.{and-false}
use Rattle.std.specs.List.{range_with_len, flat_map}
use Rattle.std.specs.Option.{option_map_or}
use Rattle.xs_tree.specs.declared.kinds.Kind.{Kind}
use Rattle.xs_tree.specs.declared.kinds.Kind.TheVariants.{Root, Element, Attribute, Space, Text, Comment, Pi}
use Rattle.xs_tree.specs.Kinds.{rank, is_attribute_kind, is_text_kind, has_content}
use Rattle.xs_tree.specs.Record.{Record, at, is_place, is_child, is_attribute, children, attributes, climbs, is_inside, is_text_inside, own_text, places}
use Rattle.xs_tree.specs.Record.{string_value, texts}
use Rattle.xs_tree.specs.Shape.{HasParentFrom, IsPlaced, IsTree, EndsAt}
use Rattle.xs_tree.specs.Walk.{passing_from, children_from, attributes_from, text_nodes_from, texts_from}

range-step : (k m : ℕ) → k < m → range_with_len k (m - k) ≡ k ∷ range_with_len (k + 1) (m - (k + 1))
range-step k m h =
    let e : m - k ≡ suc (m - (k + 1)) = omega arith in
    rw e refl

-- a place that passes, one that does not, and the end
pub passing-true : (test : ℕ → Bool) (rs : List Record) (k : ℕ) → k < length rs → test k ≡ true → passing_from test rs k ≡ k ∷ passing_from test rs (k + 1)
passing-true test rs k h e = rw (range-step k (length rs) h, e) refl

pub passing-false : (test : ℕ → Bool) (rs : List Record) (k : ℕ) → k < length rs → test k ≡ false → passing_from test rs k ≡ passing_from test rs (k + 1)
passing-false test rs k h e = rw (range-step k (length rs) h, e) refl

none_pass : (test : ℕ → Bool) (k n : ℕ) → ((j : ℕ) → k ≤ j → j < k + n → test j ≡ false) → filter test (range_with_len k n) ≡ []
none_pass test k zero h = refl
none_pass test k (suc n) h =
    rw (h k (omega arith) (omega arith)) (none_pass test (k + 1) n (λ j a b. h j (omega arith) (omega arith)))

pub passing-none : (test : ℕ → Bool) (rs : List Record) (k : ℕ) → ((j : ℕ) → k ≤ j → j < length rs → test j ≡ false) → passing_from test rs k ≡ []
passing-none test rs k h = none_pass test k (length rs - k) (λ j a b. h j a (omega (arith, a, b)))

pub passing-end : (test : ℕ → Bool) (rs : List Record) (k : ℕ) → length rs ≤ k → passing_from test rs k ≡ []
passing-end test rs k h = let e : length rs - k ≡ 0 = omega arith in rw e refl

-- what does not pass before k may be left out
pub passing-skip : (test : ℕ → Bool) (rs : List Record) (k : ℕ) → k ≤ length rs → ((j : ℕ) → j < k → test j ≡ false)
    → filter test (range_with_len 0 (length rs)) ≡ passing_from test rs k
passing-skip test rs zero h none =
    let e : length rs - 0 ≡ length rs = omega arith in rw e refl
passing-skip test rs (suc k) h none =
    let e : suc k ≡ k + 1 = omega arith in
    passing-skip test rs k (omega arith) (λ j b. none j (omega arith))
    ∙ rw e (passing-false test rs k (omega arith) (none k (omega arith)))

-- and so may what does not pass between two places
passing-over : (test : ℕ → Bool) (rs : List Record) (k m : ℕ) → k + m ≤ length rs → ((j : ℕ) → k ≤ j → j < k + m → test j ≡ false)
    → passing_from test rs k ≡ passing_from test rs (k + m)
passing-over test rs k zero h none = let e : k + 0 ≡ k = omega arith in rw e refl
passing-over test rs k (suc m) h none =
    let e : k + suc m ≡ (k + 1) + m = omega arith in
    passing-false test rs k (omega arith) (none k (omega arith) (omega arith))
    ∙ rw e (passing-over test rs (k + 1) m (omega arith) (λ j a b. none j (omega arith) (omega (arith, b))))

-- the parent that a node has
pub IsPlaced-at : (rs : List Record) (k p : ℕ) → IsTree rs → k < length rs → (at rs k).parent ≡ Some p → IsPlaced rs k p
IsPlaced-at rs k p t h e =
    let M : Option ℕ → Type 0 = λ o. MatchOption o ((at rs k).kind ≡ Root) (λ p. IsPlaced rs k p) in
    subst M e (t.placed k h)

eqb-no : (a b : ℕ) → (a ≡ b → ⊥) → (a == b) ≡ false
eqb-no a b h = grind (arith, h)

pub is_place-false : (n : ℕ) (o : Option ℕ) → (o ≡ Some n → ⊥) → is_place n o ≡ false
is_place-false n None h = refl
is_place-false n (Some p) h = eqb-no p n (λ e. h (ap Some e))

pub HasParentFrom-own : (r : Record) (n : ℕ) → r.parent ≡ Some n → HasParentFrom n r
HasParentFrom-own r n e = let le : n ≤ n = omega arith in rw e le

pub not_before : (rs : List Record) (n : ℕ) → IsTree rs → n < length rs → (j : ℕ) → j < n + 1 → (at rs j).parent ≡ Some n → ⊥
not_before rs n t h j b e = omega (arith, b, (IsPlaced-at rs j n t (omega arith) e).before)

-- no child follows the first node whose parent is before n
pub not_child-past : (rs : List Record) (n k : ℕ) → IsTree rs → n < k → k < length rs → (HasParentFrom n (at rs k) → ⊥) → children_from rs n k ≡ []
not_child-past rs n k t a h out =
    passing-none (is_child rs n) rs k (λ j b w. rw (is_place-false n (at rs j).parent (λ e. not_own j b w e)) refl)
  where
    not_own : (j : ℕ) → k ≤ j → j < length rs → (at rs j).parent ≡ Some n → ⊥
    not_own j b w e =
        elim (eq-or-lt_of_le b) [
          | inl same ↦ out (rw same (HasParentFrom-own (at rs j) n e))
          | inr later ↦ out ((IsPlaced-at rs j n t w e).inside k a later)
        ]

-- and none is inside another child: after a child comes the first place that is not in its subtree
pub children-next : (rs : List Record) (n k e : ℕ) → n < k → EndsAt rs k e → children_from rs n (k + 1) ≡ children_from rs n e
children-next rs n k e a ends =
    let e_is : (k + 1) + (e - (k + 1)) ≡ e = omega (arith, ends.after) in
    subst (λ x. children_from rs n (k + 1) ≡ children_from rs n x) e_is
    (passing-over (is_child rs n) rs (k + 1) (e - (k + 1)) (omega (arith, e_is, ends.within))
    (λ j b c. rw (is_place-false n (at rs j).parent (λ f. not_own j b (omega (arith, c, e_is)) f)) refl))
  where
    not_own : (j : ℕ) → k + 1 ≤ j → j < e → (at rs j).parent ≡ Some n → ⊥
    not_own j b c f = let le : k ≤ n = rw f at (ends.inside j (omega (arith, b)) c) in omega (arith, le, a)

rank-attribute : (kind : Kind) → is_attribute_kind kind ≡ true → rank kind ≡ 1
rank-attribute Root e = cc
rank-attribute Element e = cc
rank-attribute Attribute e = refl
rank-attribute Space e = cc
rank-attribute Text e = cc
rank-attribute Comment e = cc
rank-attribute Pi e = cc

-- no attribute follows the first node after n that is neither an attribute nor a namespace node
pub not_attribute-past : (rs : List Record) (n k : ℕ) → IsTree rs → n < k → k < length rs → 1 < rank (at rs k).kind → attributes_from rs n k ≡ []
not_attribute-past rs n k t a h late =
    passing-none (is_attribute rs n) rs k (λ j b w. not_own j b w (at rs j).parent refl (is_attribute_kind (at rs j).kind) refl)
  where
    early : (j : ℕ) → k ≤ j → j < length rs → (at rs j).parent ≡ Some n → rank (at rs j).kind ≡ 1 → ⊥
    early j b w e one =
        elim (eq-or-lt_of_le b) [
          | inl same ↦ (let r : rank (at rs k).kind ≡ 1 = rw same one in omega (arith, late, r))
          | inr later ↦ (let r : rank (at rs k).kind ≤ rank (at rs j).kind = (IsPlaced-at rs j n t w e).order k a later in omega (arith, late, r, one))
        ]

    not_own : (j : ℕ) → k ≤ j → j < length rs → (o : Option ℕ) → (at rs j).parent ≡ o → (b : Bool) → is_attribute_kind (at rs j).kind ≡ b
        → is_attribute rs n j ≡ false
    not_own j b w o e false f = rw f (and-false (is_place n (at rs j).parent))
    not_own j b w o e true f = rw (is_place-false n (at rs j).parent (λ e. early j b w e (rank-attribute (at rs j).kind f))) refl

-- a test that fails refutes what it decides
pub refuted : (b : Bool) (P : Type 0) → (IsTrue b ↔ P) → b ≡ false → P → ⊥
refuted b P decides fails p = let holds : b ≡ true = decides.1 p in cc

-- the first place of a walk: a node's children and attributes come after it
pub children-after : (rs : List Record) (n : ℕ) → IsTree rs → n < length rs → children rs n ≡ children_from rs n (n + 1)
children-after rs n t h =
    passing-skip (is_child rs n) rs (n + 1) (omega arith) (λ j b. rw (is_place-false n (at rs j).parent (λ e. not_before rs n t h j b e)) refl)

pub attributes-after : (rs : List Record) (n : ℕ) → IsTree rs → n < length rs → attributes rs n ≡ attributes_from rs n (n + 1)
attributes-after rs n t h =
    passing-skip (is_attribute rs n) rs (n + 1) (omega arith) (λ j b. rw (is_place-false n (at rs j).parent (λ e. not_before rs n t h j b e)) refl)

-- ---- chains of parents

pub le_or_gt : (a b : ℕ) → (a ≤ b) ⊎ (b < a)
le_or_gt a b = elim (leb_tells a b) [ inl h ↦ inl h.1 | inr h ↦ inr h.1 ]

pub from_earlier : (o : Option ℕ) (p q : ℕ) → p ≤ q → IsSomeAnd o (λ x. q ≤ x) → IsSomeAnd o (λ x. p ≤ x)
from_earlier None p q le h = absurd h
from_earlier (Some x) p q le h = omega (arith, le, h)

-- the nodes after n up to k are inside n, and there is one
abbrev pub IsWithin : List Record → ℕ → ℕ → Type 0
IsWithin rs n k = (n < k) × ((j : ℕ) → n < j → j ≤ k → HasParentFrom n (at rs j))

-- from the parent of a node to that node
within-step : (rs : List Record) → IsTree rs → (n p k : ℕ) → k < length rs → (at rs k).parent ≡ Some p → n ≤ p
    → ((j : ℕ) → n < j → j ≤ p → HasParentFrom n (at rs j)) → IsWithin rs n k
within-step rs t n p k w e le up =
    (omega (arith, le, placed.before), λ j a b. by_place j a b (le_or_gt j p))
  where
    placed : IsPlaced rs k p
    placed = IsPlaced-at rs k p t w e

    own : HasParentFrom n (at rs k)
    own = rw e le

    by_place : (j : ℕ) → n < j → j ≤ k → (j ≤ p) ⊎ (p < j) → HasParentFrom n (at rs j)
    by_place j a b (inl c) = up j a c
    by_place j a b (inr c) =
        elim (eq-or-lt_of_le b) [
          | inl same ↦ rw same own
          | inr before ↦ from_earlier (at rs j).parent n p le (placed.inside j c before)
        ]

-- a chain of parents from k to n passes only nodes inside n, and so does what lies between
pub climbs-within : (rs : List Record) → IsTree rs → (steps n k : ℕ) → k < length rs → climbs steps rs n k ≡ true → IsWithin rs n k
climbs-within rs t zero n k w h = cc
climbs-within rs t (suc steps) n k w h = by_parent (at rs k).parent refl h (λ p v g. climbs-within rs t steps n p v g)
  where
    by_parent : (o : Option ℕ) → (at rs k).parent ≡ o → option_map_or (λ p. p == n || climbs steps rs n p) o false ≡ true
        → ((p : ℕ) → p < length rs → climbs steps rs n p ≡ true → IsWithin rs n p) → IsWithin rs n k
    by_parent None e h again = cc
    by_parent (Some p) e h again =
        let before : p < k = (IsPlaced-at rs k p t w e).before in
        elim (or_cases (p == n) (climbs steps rs n p) h) [
          | inl own ↦ (let same : p ≡ n = eqb-true p n own in within-step rs t n p k w e (omega (arith, same)) (λ j a b. absurd (omega (arith, same, a, b))))
          | inr up ↦ (let within : IsWithin rs n p = again p (omega (arith, before, w)) up in within-step rs t n p k w e (omega (arith, within.0)) within.1)
        ]

-- and where all from n to k is inside n, the chain of parents from k comes to n
pub climbs-from_within : (rs : List Record) → IsTree rs → (steps n k : ℕ) → k < length rs → k ≤ steps → n < k
    → ((j : ℕ) → n < j → j ≤ k → HasParentFrom n (at rs j)) → climbs steps rs n k ≡ true
climbs-from_within rs t zero n k w le a h = absurd (omega (arith, le, a))
climbs-from_within rs t (suc steps) n k w le a h =
    by_parent (at rs k).parent refl (h k a (omega arith)) (λ p v l b g. climbs-from_within rs t steps n p v l b g)
  where
    by_parent : (o : Option ℕ) → (at rs k).parent ≡ o → IsSomeAnd o (λ q. n ≤ q)
        → ((p : ℕ) → p < length rs → p ≤ steps → n < p → ((j : ℕ) → n < j → j ≤ p → HasParentFrom n (at rs j)) → climbs steps rs n p ≡ true)
        → option_map_or (λ p. p == n || climbs steps rs n p) o false ≡ true
    by_parent None e q again = absurd q
    by_parent (Some p) e q again =
        let before : p < k = (IsPlaced-at rs k p t w e).before in
        elim (eq-or-lt_of_le q) [
          | inl same ↦ or_left (p == n) (climbs steps rs n p) (eq-eqb p n (sym same))
          | inr later ↦ or_right (p == n) (climbs steps rs n p)
              (again p (omega (arith, before, w)) (omega (arith, before, le)) later (λ j a b. h j a (omega (arith, b, before))))
        ]

-- what is inside a node is what comes after it up to the first node whose parent is before it
pub is_inside-within : (rs : List Record) (n k : ℕ) → IsTree rs → k < length rs → is_inside rs n k ≡ true ↔ IsWithin rs n k
is_inside-within rs n k t w = (λ h. climbs-within rs t k n k w h, λ h. climbs-from_within rs t k n k w (omega arith) h.0 h.1)

-- ---- the texts inside a node

not_inside : (rs : List Record) (n k : ℕ) → (is_inside rs n k ≡ true → ⊥) → is_text_inside rs n k ≡ false
not_inside rs n k h = by_test (is_inside rs n k) refl
  where
    by_test : (b : Bool) → is_inside rs n k ≡ b → is_text_inside rs n k ≡ false
    by_test true e = absurd (h e)
    by_test false e = rw e refl

-- no text inside n follows the first node whose parent is before n
text_nodes-past : (rs : List Record) (n k : ℕ) → IsTree rs → n < k → k < length rs → (HasParentFrom n (at rs k) → ⊥) → text_nodes_from rs n k ≡ []
text_nodes-past rs n k t a h out =
    passing-none (is_text_inside rs n) rs k (λ j b w. not_inside rs n j (λ e. out ((climbs-within rs t j n j w e).1 k a b)))

pub texts-past : (rs : List Record) (n k : ℕ) → IsTree rs → n < k → k < length rs → (HasParentFrom n (at rs k) → ⊥) → texts_from rs n k ≡ []
texts-past rs n k t a h out = rw (text_nodes-past rs n k t a h out) refl

-- and none comes before n
pub text_nodes-after : (rs : List Record) (n : ℕ) → IsTree rs → n < length rs → texts rs n ≡ text_nodes_from rs n (n + 1)
text_nodes-after rs n t h =
    passing-skip (is_text_inside rs n) rs (n + 1) (omega arith)
    (λ j b. not_inside rs n j (λ e. omega (arith, b, (climbs-within rs t j n j (omega arith) e).0)))

pub texts-after : (rs : List Record) (n : ℕ) → IsTree rs → n < length rs → flat_map (λ k. (at rs k).text) (texts rs n) ≡ texts_from rs n (n + 1)
texts-after rs n t h = ap (λ ks. flat_map (λ k. (at rs k).text) ks) (text_nodes-after rs n t h)

pub texts-end : (rs : List Record) (n k : ℕ) → length rs ≤ k → texts_from rs n k ≡ []
texts-end rs n k h = let e : length rs - k ≡ 0 = omega arith in rw e refl

-- nor the end of its subtree
pub text_nodes-over : (rs : List Record) (n e : ℕ) → IsTree rs → EndsAt rs n e → text_nodes_from rs n e ≡ []
text_nodes-over rs n e t ends =
    elim (le_or_gt (length rs) e) [
      | inl past ↦ passing-end (is_text_inside rs n) rs e past
      | inr within ↦ text_nodes-past rs n e t ends.after within (ends.outside within)
    ]

pub texts-over : (rs : List Record) (n e : ℕ) → IsTree rs → EndsAt rs n e → texts_from rs n e ≡ []
texts-over rs n e t ends = rw (text_nodes-over rs n e t ends) refl

-- the node at k, before the end of the subtree of the node at n, is a text node, or is passed over
pub text_nodes-true : (rs : List Record) (n e k : ℕ) → IsTree rs → EndsAt rs n e → n < k → k < e → is_text_kind (at rs k).kind ≡ true →
    text_nodes_from rs n k ≡ k ∷ text_nodes_from rs n (k + 1)
text_nodes-true rs n e k t ends a b kind =
    let w : k < length rs = omega (arith, b, ends.within) in
    let inside : is_inside rs n k ≡ true = (is_inside-within rs n k t w).1 (a, λ j c d. ends.inside j c (omega (arith, d, b))) in
    passing-true (is_text_inside rs n) rs k w (rw (inside, kind) refl)

pub text_nodes-false : (rs : List Record) (n e k : ℕ) → EndsAt rs n e → k < e → is_text_kind (at rs k).kind ≡ false
    → text_nodes_from rs n k ≡ text_nodes_from rs n (k + 1)
text_nodes-false rs n e k ends b kind =
    passing-false (is_text_inside rs n) rs k (omega (arith, b, ends.within)) (rw kind (and-false (is_inside rs n k)))

-- the next node inside n
pub texts-step : (rs : List Record) (n k : ℕ) → IsTree rs → n < k → k < length rs → ((j : ℕ) → n < j → j ≤ k → HasParentFrom n (at rs j))
    → texts_from rs n k ≡ own_text (at rs k) ++ texts_from rs n (k + 1)
texts-step rs n k t a w h = by_kind (is_text_kind (at rs k).kind) refl
  where
    inside : is_inside rs n k ≡ true
    inside = (is_inside-within rs n k t w).1 (a, h)

    by_kind : (b : Bool) → is_text_kind (at rs k).kind ≡ b → texts_from rs n k ≡ (if b then (at rs k).text else []) ++ texts_from rs n (k + 1)
    by_kind true e = rw (passing-true (is_text_inside rs n) rs k w (rw (inside, e) refl)) refl
    by_kind false e = rw (passing-false (is_text_inside rs n) rs k w (rw (inside, e) refl)) refl

-- a buffer has got the texts inside n before a place, and the others are still to come
pub record HasAppended (rs : List Record) (n : ℕ) (old new : List ℕ) (place : ℕ) : Type 0 where
  pub extra : List ℕ
  pub added : new ≡ old ++ extra
  pub rest : texts_from rs n (n + 1) ≡ extra ++ texts_from rs n place

pub appended-start : (rs : List Record) (n : ℕ) (old : List ℕ) → HasAppended rs n old old (n + 1)
appended-start rs n old = record { extra = []; added = sym (append-nil old); rest = refl }

pub appended-step : (rs : List Record) (n : ℕ) (old new newer own : List ℕ) (place : ℕ) → HasAppended rs n old new place → newer ≡ new ++ own
    → texts_from rs n place ≡ own ++ texts_from rs n (place + 1) → HasAppended rs n old newer (place + 1)
appended-step rs n old new newer own place h e step =
    record {
      extra = h.extra ++ own;
      added = e ∙ ap (λ xs. xs ++ own) h.added ∙ append_assoc old h.extra own;
      rest = h.rest ∙ ap (λ xs. h.extra ++ xs) step ∙ sym (append_assoc h.extra own (texts_from rs n (place + 1)));
    }

pub appended-end : (rs : List Record) (n : ℕ) (old new : List ℕ) (place : ℕ) → HasAppended rs n old new place → texts_from rs n place ≡ []
    → new ≡ old ++ texts_from rs n (n + 1)
appended-end rs n old new place h none =
    h.added ∙ ap (λ xs. old ++ xs) (sym (h.rest ∙ ap (λ xs. h.extra ++ xs) none ∙ append-nil h.extra))

pub appended-cut : (rs : List Record) (n : ℕ) (old new : List ℕ) (place size : ℕ) → HasAppended rs n old new place → size ≡ length old → take size new ≡ old
appended-cut rs n old new place size h e =
    rw (e, h.added, take-append-le (length old) old h.extra (omega arith)) (take_all (length old) old (omega arith))

-- the string value of a root or an element
pub string_value-content : (rs : List Record) (n : ℕ) → IsTree rs → n < length rs → has_content (at rs n).kind ≡ true
    → string_value rs n ≡ texts_from rs n (n + 1)
string_value-content rs n t h e = rw e (texts-after rs n t h)

-- ---- for callers that go over a list of places

-- what holds of each item holds of one that stands between others
All-between : {X : Type 0} (P : X → Type 0) (xs before after : List X) (x : X) → All P xs → xs ≡ before ++ x ∷ after → P x
All-between {X} P xs before after x all e =
    let M : List X → Type 0 = λ ys. All P ys in
    let there : All P (before ++ x ∷ after) = subst M e all in
    subst P (get_or-append_seam before x after x) (there (length before) x (omega (arith, length-append before (x ∷ after))))

places-within : (rs : List Record) → All (λ k. k < length rs) (places rs)
places-within rs = λ i d h. rw (get_or-range_with_len 0 (length rs) i d (omega (arith, h, length-range_with_len 0 (length rs))))
    (omega (arith, h, length-range_with_len 0 (length rs)))

-- each place of a walk is in the tree
pub passing-within : (test : ℕ → Bool) (rs : List Record) (before after : List ℕ) (k : ℕ) → filter test (places rs) ≡ before ++ k ∷ after → k < length rs
passing-within test rs before after k e =
    All-between (λ k. k < length rs) (filter test (places rs)) before after k (All-filter test (λ k. k < length rs) (places rs) (places-within rs)) e

-- and passes the test
pub passing-passes : (test : ℕ → Bool) (rs : List Record) (before after : List ℕ) (k : ℕ) → filter test (places rs) ≡ before ++ k ∷ after → test k ≡ true
passing-passes test rs before after k e =
    All-between (λ k. test k ≡ true) (filter test (places rs)) before after k (filter_passes test (places rs)) e

-- a child, wherever it stands among the children, is in the tree
pub child-within : (rs : List Record) (n : ℕ) (before after : List ℕ) (k : ℕ) → children rs n ≡ before ++ k ∷ after → k < length rs
child-within rs n before after k e = passing-within (is_child rs n) rs before after k e

pub attribute-within : (rs : List Record) (n : ℕ) (before after : List ℕ) (k : ℕ) → attributes rs n ≡ before ++ k ∷ after → k < length rs
attribute-within rs n before after k e = passing-within (is_attribute rs n) rs before after k e

-- a text node inside a node, wherever it stands among them, is in the tree
pub text-within : (rs : List Record) (n : ℕ) (before after : List ℕ) (k : ℕ) → texts rs n ≡ before ++ k ∷ after → k < length rs
text-within rs n before after k e = passing-within (is_text_inside rs n) rs before after k e
