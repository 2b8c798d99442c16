-- Local bindings that come into force, and are visible.
use Rattle.std.proofs.Common.{◌≡◌, ◌∙◌, ◌<◌, ◌≤◌, ◌+◌, ◌-◌, ℕ, zero, suc, ap, refl, sym, arith, Bool, true, false, List, [], ◌∷◌, length, Option, None, Some, inl, inr}
use Rattle.std.proofs.lemmas.Bool.{lt-ltb, le-ltb, ltb-true, le-leb, lt-leb}
use Rattle.std.specs.List.{list_any, range_with_len}
use Rattle.std.specs.Option.{option_map_or, option_to_list}
use Rattle.std.proofs.lemmas.List.Folds.{list_any-append}
use Rattle.std.proofs.lemmas.List.{reverse-append}
use Rattle.std.proofs.lemmas.Option.{get_or_from_slice_get, slice_get_within}
use Rattle.std.specs.Prelude.{◌++◌, ◌&&◌, ◌||◌, get_or, reverse, slice_get, nat_le, nat_lt, not, if◌then◌else◌}
use Rattle.xs_elements.specs.Nodes.{Name, is_named, is_same_name, name_data, own_name}
use Rattle.xs_structure.proofs.NameLemmas.{bool_same}
use Rattle.xs_structure.specs.Bindings.{is_local, has_binding, is_visible_as, reaches, local_name}
use Rattle.xs_static.specs.declared.locals.OpenBinding.{OpenBinding}
use Rattle.xs_static.specs.steps.Locals.{AreNested, EndFrom, any_visible, comes, comes_as}
use Rattle.xs_tree.proofs.PlaceLemmas.{range-more}
use Rattle.xs_tree.proofs.WalkLemmas.{IsPlaced-at, climbs-within, from_earlier, is_inside-within, le_or_gt}
use Rattle.xs_tree.specs.Record.{Record, at, is_inside}
use Rattle.xs_tree.specs.Shape.{EndsAt, IsTree}

-- ---- a node by the end of another
pub inside-end : (rs : List Record) (n e k : ℕ) → IsTree rs → EndsAt rs n e → n < k → k < length rs → is_inside rs n k ≡ nat_lt k e
inside-end rs n e k tree ends after inside = bool_same (is_inside rs n k) (nat_lt k e) there back
  where
    there : is_inside rs n k ≡ true → nat_lt k e ≡ true
    there h =
        lt-ltb k e (elim (le_or_gt e k) [
          | inl past ↦ absurd (ends.outside (omega (arith, past, inside)) ((climbs-within rs tree k n k inside h).1 e ends.after past))
          | inr before ↦ before
        ])

    back : nat_lt k e ≡ true → is_inside rs n k ≡ true
    back h = (is_inside-within rs n k tree inside).1 (after, λ j a b. ends.inside j a (omega (arith, b, ltb-true k e h)))

-- a node ends no later than one that it is inside
pub ends-nested : (rs : List Record) (r n s e : ℕ) → r ≤ n → n < e → EndsAt rs n s → EndsAt rs r e → s ≤ e
ends-nested rs r n s e le lt inner outer =
    elim (le_or_gt s e) [
      | inl h ↦ h
      | inr h ↦ absurd (outer.outside (omega (arith, h, inner.within)) (from_earlier (at rs e).parent r n le (inner.inside e lt h)))
    ]

-- ---- the open bindings
-- those that end behind a place are not visible there
pub none-comes : (rs : List Record) (os : List OpenBinding) (count k end : ℕ) (uri local : List ℕ) → k < end → EndFrom end os → AreNested rs count os
    → comes os uri local k ≡ false
unfolding comes AreNested
none-comes rs [] count k end uri local lt from nested = refl
none-comes rs (o ∷ os) count k end uri local lt from nested =
    rw (lt-leb o.end k (omega (arith, lt, from)))
    (rw (and-none (is_same_name (uri, local) (name_data o.name))) (none-comes rs os count k o.end uri local (omega (arith, lt, from)) nested.1 nested.2))
  where
    and-none : (b : Bool) → (b && false) ≡ false
    and-none true = refl
    and-none false = refl

pub later-count : (rs : List Record) (os : List OpenBinding) (n : ℕ) → AreNested rs n os → AreNested rs (n + 1) os
unfolding AreNested
later-count rs [] n nested = nested
later-count rs (o ∷ os) n nested =
    (record { node = nested.0.node; before = omega (arith, nested.0.before); ends = nested.0.ends }, nested.1, later-count rs os n nested.2)

-- one that ended comes into force
pub passed-one : (o : OpenBinding) (os : List OpenBinding) (uri local : List ℕ) (k n : ℕ) (old now : Bool) → o.end ≤ n → n ≤ k
    → now ≡ (is_same_name (uri, local) (name_data o.name) && nat_lt k o.reach || old)
    → (now || comes os uri local k) ≡ (old || comes (o ∷ os) uri local k)
unfolding comes
passed-one o os uri local k n old now ended le e =
    ap (λ x. x || comes os uri local k) e
    ∙ rw (le-leb o.end k (omega (arith, ended, le))) (regroup (is_same_name (uri, local) (name_data o.name) && nat_lt k o.reach) old (comes os uri local k))
  where
    regroup : (a b c : Bool) → ((a || b) || c) ≡ (b || (a || c))
    regroup true true c = refl
    regroup true false c = refl
    regroup false b c = refl

-- ---- the next node
pub visible-more : (rs : List Record) (name : Name) (k n : ℕ) → any_visible rs name k (n + 1) ≡ (is_visible_as rs name k n || any_visible rs name k n)
unfolding any_visible
visible-more rs name k n = let n_is : n + 1 ≡ suc n = omega arith in ap (any_visible rs name k) n_is

-- what the definition says of a node, by the name of the binding that it is
pub visible-by_name : (rs : List Record) (name : Name) (k b : ℕ)
    → is_visible_as rs name k b ≡ (is_named name (local_name rs b) && reaches rs b k)
visible-by_name rs name k b = by_local (is_local rs b) (reaches rs b k)
  where
    swap : (x y : Bool) → (x && y) ≡ (y && x)
    swap true true = refl
    swap true false = refl
    swap false true = refl
    swap false false = refl

    by_local : (l r : Bool) → (l && r && is_named name (own_name rs b)) ≡ (is_named name (if l then own_name rs b else None) && r)
    by_local false r = refl
    by_local true r = swap r (is_named name (own_name rs b))

-- a node that is none changes nothing
pub no-binding : (rs : List Record) (n k : ℕ) (uri local : List ℕ) (old : Bool) → ◌≡◌ {A = Option Name} None (local_name rs n)
    → old ≡ any_visible rs (uri, local) k n
    → old ≡ any_visible rs (uri, local) k (n + 1)
no-binding rs n k uri local old e h =
    h ∙ ap (λ x. (is_named (uri, local) x && reaches rs n k) || any_visible rs (uri, local) k n) e
    ∙ ap (λ x. x || any_visible rs (uri, local) k n) (sym (visible-by_name rs (uri, local) k n))
    ∙ sym (visible-more rs (uri, local) k n)

-- a binding reaches what stands between its end and that of its parent
pub reaches-is : (rs : List Record) (n p e q k : ℕ) → IsTree rs → n < length rs → (at rs n).parent ≡ Some p → EndsAt rs n e → EndsAt rs p q → n < k
    → k < length rs → (nat_le e k && nat_lt k q) ≡ reaches rs n k
reaches-is rs n p e q k tree inside parent ends reach after within =
    let before : p < n = (IsPlaced-at rs n p tree inside parent).before in
    sym (ap (λ x. nat_lt n k && not (is_inside rs n k) && option_map_or (λ p. is_inside rs p k) x false) parent
    ∙ ap (λ x. x && not (is_inside rs n k) && is_inside rs p k) (lt-ltb n k after)
    ∙ ap (λ x. not x && is_inside rs p k) (inside-end rs n e k tree ends after within)
    ∙ ap (λ x. not (nat_lt k e) && x) (inside-end rs p q k tree reach (omega (arith, before, after)) within)
    ∙ ap (λ x. x && nat_lt k q) (not-lt k e))
  where
    not-lt : (a b : ℕ) → not (nat_lt a b) ≡ nat_le b a
    not-lt a b =
        elim (le_or_gt b a) [
          | inl le ↦ rw (le-ltb a b le) (sym (le-leb b a le))
          | inr lt ↦ rw (lt-ltb a b lt) (sym (lt-leb b a lt))
        ]

pub new-binding : (rs : List Record) (n p k : ℕ) (o : OpenBinding) (os : List OpenBinding) (uri local : List ℕ) (force : Bool) → IsTree rs → n < length rs
    → (at rs n).parent ≡ Some p → EndsAt rs n o.end → EndsAt rs p o.reach → local_name rs n ≡ Some (name_data o.name) → n + 1 ≤ k → k < length rs
    → (force || comes os uri local k) ≡ any_visible rs (uri, local) k n → (force || comes (o ∷ os) uri local k) ≡ any_visible rs (uri, local) k (n + 1)
unfolding comes
new-binding rs n p k o os uri local force tree inside parent ends reach named after within h =
    regroup force (comes_as uri local k o) (comes os uri local k) ∙ ap (λ x. comes_as uri local k o || x) h
    ∙ ap (λ x. (is_same_name (uri, local) (name_data o.name) && x) || any_visible rs (uri, local) k n)
    (reaches-is rs n p o.end o.reach k tree inside parent ends reach (omega (arith, after)) within)
    ∙ ap (λ x. (is_named (uri, local) x && reaches rs n k) || any_visible rs (uri, local) k n) (sym named)
    ∙ ap (λ x. x || any_visible rs (uri, local) k n) (sym (visible-by_name rs (uri, local) k n))
    ∙ sym (visible-more rs (uri, local) k n)
  where
    regroup : (a b c : Bool) → (a || (b || c)) ≡ (b || (a || c))
    regroup true true c = refl
    regroup true false c = refl
    regroup false b c = refl

-- ---- all that are visible
or-turn : (a b : Bool) → (a || (b || false)) ≡ (b || a)
or-turn true true = refl
or-turn true false = refl
or-turn false true = refl
or-turn false false = refl

visible-range : (rs : List Record) (name : Name) (k count : ℕ) → list_any (is_visible_as rs name k) (range_with_len 0 count) ≡ any_visible rs name k count
unfolding any_visible
visible-range rs name k zero = refl
visible-range rs name k (suc n) =
    let n_is : suc n ≡ n + 1 = omega arith in
    ap (λ m. list_any (is_visible_as rs name k) (range_with_len 0 m)) n_is
    ∙ ap (list_any (is_visible_as rs name k)) (range-more n)
    ∙ list_any-append (is_visible_as rs name k) (range_with_len 0 n) (n ∷ [])
    ∙ ap (λ x. x || (is_visible_as rs name k n || false)) (visible-range rs name k n)
    ∙ or-turn (any_visible rs name k n) (is_visible_as rs name k n)

and-none : (b : Bool) → (b && false) ≡ false
and-none true = refl
and-none false = refl

visible-past : (rs : List Record) (name : Name) (n m : ℕ) → any_visible rs name n (m + n) ≡ any_visible rs name n n
visible-past rs name n zero = ap (any_visible rs name n) (omega arith)
visible-past rs name n (suc m) =
    let m_is : suc m + n ≡ (m + n) + 1 = omega arith in
    let none : reaches rs (m + n) n ≡ false = ap (λ x. x && not (is_inside rs (m + n) n) && option_map_or (λ p. is_inside rs p n)
    (at rs (m + n)).parent false) (le-ltb (m + n) n (omega arith)) in
    let hidden : is_visible_as rs name n (m + n) ≡ false = visible-by_name rs name n (m + n) ∙ ap (λ x. is_named name (local_name rs (m + n)) && x) none
    ∙ and-none (is_named name (local_name rs (m + n))) in
    ap (any_visible rs name n) m_is ∙ visible-more rs name n (m + n) ∙ ap (λ x. x || any_visible rs name n (m + n)) hidden ∙ visible-past rs name n m

pub visible-is : (rs : List Record) (n : ℕ) (name : Name) → n < length rs → any_visible rs name n n ≡ has_binding rs n name
visible-is rs n name inside =
    let m_is : (length rs - n) + n ≡ length rs = omega (arith, inside) in
    sym (visible-past rs name n (length rs - n)) ∙ ap (any_visible rs name n) m_is ∙ sym (visible-range rs name n (length rs))

-- where the walk passed all that ended, a name is in force where it is visible
pub in_force-is : (rs : List Record) (n : ℕ) (os : List OpenBinding) (uri local : List ℕ) (force : Bool) → n < length rs → EndFrom (n + 1) os
    → AreNested rs n os
    → (force || comes os uri local n) ≡ any_visible rs (uri, local) n n → force ≡ has_binding rs n (uri, local)
in_force-is rs n os uri local force inside passed nested h =
    or-false force ∙ ap (λ x. force || x) (sym (none-comes rs os n n (n + 1) uri local (omega arith) passed nested)) ∙ h ∙ visible-is rs n (uri, local) inside
  where
    or-false : (b : Bool) → b ≡ (b || false)
    or-false true = refl
    or-false false = refl

-- ---- the stack in its vector
pub stack-pushed : (xs : List OpenBinding) (x : OpenBinding) → reverse (xs ++ x ∷ []) ≡ x ∷ reverse xs
stack-pushed xs x = reverse-append xs (x ∷ [])

pub stack-popped : (xs ys : List OpenBinding) (o : OpenBinding) (r : Option OpenBinding) → xs ≡ ys ++ option_to_list r → r ≡ Some o
    → reverse xs ≡ o ∷ reverse ys
stack-popped xs ys o r e f = ap reverse (e ∙ ap (λ r. ys ++ option_to_list r) f) ∙ stack-pushed ys o

pub popped-last : (xs : List OpenBinding) (size : ℕ) (o : OpenBinding) (r : Option OpenBinding) → size ≡ length xs → Some o ≡ slice_get xs (length xs - 1)
    → ((d : OpenBinding) → 0 < size → r ≡ Some (get_or xs (size - 1) d)) → r ≡ Some o
popped-last xs size o r e last h =
    let within : length xs - 1 < length xs = slice_get_within xs (length xs - 1) o (sym last) in
    h o (omega (arith, within, e)) ∙ ap Some (ap (λ k. get_or xs (k - 1) o) e ∙ get_or_from_slice_get xs (length xs - 1) o o (sym last))

pub rest-nested : (rs : List Record) (count : ℕ) (o : OpenBinding) (os : List OpenBinding) → AreNested rs count (o ∷ os) → AreNested rs count os
unfolding AreNested
rest-nested rs count o os nested = nested.2

nested-from : (rs : List Record) (n : ℕ) (o : OpenBinding) (os : List OpenBinding) → EndsAt rs n o.end → EndFrom (n + 1) os → AreNested rs n os
    → EndFrom o.end os
unfolding AreNested
nested-from rs n o [] ends passed nested = tt
nested-from rs n o (p ∷ ps) ends passed nested =
    ends-nested rs nested.0.node n o.end p.end (omega (arith, nested.0.before)) (omega (arith, passed)) ends nested.0.ends

pub nested-more : (rs : List Record) (n : ℕ) (o : OpenBinding) (os : List OpenBinding) → EndsAt rs n o.end → EndFrom (n + 1) os → AreNested rs n os
    → AreNested rs (n + 1) (o ∷ os)
unfolding AreNested
nested-more rs n o os ends passed nested =
    (record { node = n; before = omega arith; ends = ends }, nested-from rs n o os ends passed nested, later-count rs os n nested)
