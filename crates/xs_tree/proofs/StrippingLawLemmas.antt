-- Of a tree without some of its text nodes: who holds whom, what is inside what, and string values are those of the nodes that stay.
use Rattle.std.proofs.Common.{◌≡◌, ℕ, zero, suc, ◌+◌, ◌<◌, ◌≤◌, ◌==◌, ◌&&◌, Bool, true, false, List, [], ◌∷◌, ◌++◌, Option, None, Some, filter, length}
use Rattle.std.proofs.Common.{map}
use Rattle.std.proofs.Common.{refl, sym, ◌∙◌, ap, subst, arith, if◌then◌else◌}
use Rattle.std.proofs.lemmas.Bool.{eq-eqb, eqb-true}
use Rattle.std.proofs.lemmas.List.{map-append}
use Rattle.std.proofs.lemmas.Grind.{flat_map-append}
use Rattle.std.proofs.lemmas.List.Elements.{filter-append}
use Rattle.std.specs.List.{range_with_len, flat_map}
use Rattle.std.specs.Option.{option_map}
use Rattle.xs_tree.specs.Kinds.{has_content, is_attribute_kind, is_child_kind, is_namespace_kind, is_text_kind}
use Rattle.xs_tree.specs.Record.{Record, at, attributes, children, climbs, is_attribute, is_child, is_inside, is_namespace, is_place, is_text_inside}
use Rattle.xs_tree.specs.Record.{namespaces}
use Rattle.xs_tree.specs.Record.{places, string_value, texts}
use Rattle.xs_tree.specs.Shape.{IsTree}
use Rattle.xs_tree.specs.Stripping.{stays, staying, new_place, renumbered, without}
use Rattle.xs_tree.specs.StrippingLaws.{HasTextsThatStay, KeepsInside, KeepsNodes, moved}
use Rattle.xs_tree.proofs.PlaceLemmas.{before, place, before-false, before-true, place-after, place-below, place-false, place-true, range-more}
use Rattle.xs_tree.proofs.StrippingLemmas.{at-new, length-without, holder-stays}
use Rattle.xs_tree.proofs.WalkLemmas.{IsPlaced-at}

same_test : (b c : Bool) → (b ≡ true → c ≡ true) → (c ≡ true → b ≡ true) → b ≡ c
same_test true c f g = sym (f refl)
same_test false true f g = g refl
same_test false false f g = refl

same_eqb : (a b c d : ℕ) → (a ≡ b → c ≡ d) → (c ≡ d → a ≡ b) → (a == b) ≡ (c == d)
same_eqb a b c d f g = same_test (a == b) (c == d) (λ h. eq-eqb c d (f (eqb-true a b h))) (λ h. eq-eqb a b (g (eqb-true c d h)))

-- what passes at the new places is what passes among the numbers that stay
passing_upto : (stay test new_test : ℕ → Bool) (n : ℕ) → ((k : ℕ) → k < n → stay k ≡ true → new_test (place stay k) ≡ test k)
    → filter new_test (range_with_len 0 (place stay n)) ≡ map (place stay) (filter test (before stay n))
passing_upto stay test new_test zero agree = refl
passing_upto stay test new_test (suc n) agree =
    let n_is : suc n ≡ n + 1 = omega arith in
    subst (λ x. filter new_test (range_with_len 0 (place stay x)) ≡ map (place stay) (filter test (before stay x))) (sym n_is)
    (step (passing_upto stay test new_test n (λ k h s. agree k (omega (arith, h)) s)) (stay n) refl)
  where
    last : (b : Bool) → test n ≡ b → new_test (place stay n) ≡ b → filter new_test (place stay n ∷ []) ≡ map (place stay) (filter test (n ∷ []))
    last true e f = rw (e, f) refl
    last false e f = rw (e, f) refl

    step : filter new_test (range_with_len 0 (place stay n)) ≡ map (place stay) (filter test (before stay n)) → (b : Bool) → stay n ≡ b
        → filter new_test (range_with_len 0 (place stay (n + 1))) ≡ map (place stay) (filter test (before stay (n + 1)))
    step again false e = rw (place-false stay n e, before-false stay n e) again
    step again true e =
        rw (place-true stay n e, before-true stay n e, range-more (place stay n))
        (filter-append new_test (range_with_len 0 (place stay n)) (place stay n ∷ [])
        ∙ ap (λ xs. xs ++ filter new_test (place stay n ∷ [])) again
        ∙ ap (λ xs. map (place stay) (filter test (before stay n)) ++ xs) (last (test n) refl (agree n (omega arith) e))
        ∙ sym (ap (map (place stay)) (filter-append test (before stay n) (n ∷ []))
        ∙ map-append (place stay) (filter test (before stay n)) (filter test (n ∷ []))))

-- a chain of parents that is none
climbs-none : (steps : ℕ) (rs : List Record) (n k : ℕ) → (at rs k).parent ≡ None → climbs steps rs n k ≡ false
climbs-none zero rs n k e = refl
climbs-none (suc steps) rs n k e = rw e refl

module _ (flags : List Bool) (rs : List Record) (t : IsTree rs) where
  abbrev new : ℕ → ℕ
  new = new_place flags rs

  abbrev stay : ℕ → Bool
  stay = stays flags rs

  -- places that pass a test, which says of new places what another says of the old ones
  passing-new : (test new_test : ℕ → Bool) → ((k : ℕ) → k < length rs → stay k ≡ true → new_test (new k) ≡ test k)
      → filter new_test (places (without flags rs)) ≡ map new (filter test (staying flags rs))
  passing-new test new_test agree =
      ap (λ n. filter new_test (range_with_len 0 n)) (length-without flags rs) ∙ passing_upto stay test new_test (length rs) agree

  same_place : (q n : ℕ) → stay q ≡ true → stay n ≡ true → (new q == new n) ≡ (q == n)
  same_place q n sq sn =
      same_eqb (new q) (new n) q n
      (λ e. omega (arith, place-after stay q n sn (omega (arith, e)), place-after stay n q sq (omega (arith, e))))
      (λ e. ap new e)

  is_place-new : (n : ℕ) (o : Option ℕ) → stay n ≡ true → ((q : ℕ) → o ≡ Some q → stay q ≡ true) → is_place (new n) (option_map new o) ≡ is_place n o
  is_place-new n None s h = refl
  is_place-new n (Some q) s h = same_place q n (h q refl) s

  holds-new : (n k : ℕ) → stay n ≡ true → k < length rs → is_place (new n) (renumbered flags rs k).parent ≡ is_place n (at rs k).parent
  holds-new n k s w = is_place-new n (at rs k).parent s (λ q e. holder-stays flags rs t k q w e)

  -- the children, the attributes and the namespace nodes of a node are those that stay
  pub children-without : (n : ℕ) → stay n ≡ true → children (without flags rs) (new n) ≡ map new (filter (is_child rs n) (staying flags rs))
  children-without n s =
      passing-new (is_child rs n) (is_child (without flags rs) (new n))
      (λ k w q. rw (at-new flags rs k w q) (ap (λ b. b && is_child_kind (at rs k).kind) (holds-new n k s w)))

  pub attributes-without : (n : ℕ) → stay n ≡ true → attributes (without flags rs) (new n) ≡ map new (filter (is_attribute rs n) (staying flags rs))
  attributes-without n s =
      passing-new (is_attribute rs n) (is_attribute (without flags rs) (new n))
      (λ k w q. rw (at-new flags rs k w q) (ap (λ b. b && is_attribute_kind (at rs k).kind) (holds-new n k s w)))

  pub namespaces-without : (n : ℕ) → stay n ≡ true → namespaces (without flags rs) (new n) ≡ map new (filter (is_namespace rs n) (staying flags rs))
  namespaces-without n s =
      passing-new (is_namespace rs n) (is_namespace (without flags rs) (new n))
      (λ k w q. rw (at-new flags rs k w q) (ap (λ b. b && is_namespace_kind (at rs k).kind) (holds-new n k s w)))

  parent-new : (k : ℕ) (o : Option ℕ) → k < length rs → stay k ≡ true → (at rs k).parent ≡ o → (at (without flags rs) (new k)).parent ≡ option_map new o
  parent-new k o w s e = ap (λ r. r.parent) (at-new flags rs k w s) ∙ ap (option_map new) e

  no_parent : (k : ℕ) → ((p : ℕ) → (at rs k).parent ≡ Some p → ⊥) → (at rs k).parent ≡ None
  no_parent k h = by_parent (at rs k).parent refl
    where
      by_parent : (o : Option ℕ) → (at rs k).parent ≡ o → (at rs k).parent ≡ None
      by_parent None e = e
      by_parent (Some p) e = absurd (h p e)

  parent-before : (k p : ℕ) → k < length rs → (at rs k).parent ≡ Some p → (p < k) × (new p < new k)
  parent-before k p w e =
      let before : p < k = (IsPlaced-at rs k p t w e).before in (before, place-below stay p k (holder-stays flags rs t k p w e) before)

  -- chains of parents lead where they led
  climbs-new : (steps new_steps n k : ℕ) → stay n ≡ true → k < length rs → stay k ≡ true → k ≤ steps → new k ≤ new_steps
      → climbs new_steps (without flags rs) (new n) (new k) ≡ climbs steps rs n k
  climbs-new zero new_steps n k sn w s le new_le =
      let none : (at rs k).parent ≡ None = no_parent k (λ p e. omega (arith, le, (parent-before k p w e).0)) in
      climbs-none new_steps (without flags rs) (new n) (new k) (parent-new k None w s none)
  climbs-new (suc steps) zero n k sn w s le new_le =
      let none : (at rs k).parent ≡ None = no_parent k (λ p e. omega (arith, new_le, (parent-before k p w e).1)) in
      sym (climbs-none (suc steps) rs n k none)
  climbs-new (suc steps) (suc new_steps) n k sn w s le new_le =
      by_parent (at rs k).parent refl (λ p v q a b. climbs-new steps new_steps n p sn v q a b)
    where
      by_parent : (o : Option ℕ) → (at rs k).parent ≡ o
          → ((p : ℕ) → p < length rs → stay p ≡ true → p ≤ steps → new p ≤ new_steps
          → climbs new_steps (without flags rs) (new n) (new p) ≡ climbs steps rs n p)
          → climbs (suc new_steps) (without flags rs) (new n) (new k) ≡ climbs (suc steps) rs n k
      by_parent None e again = climbs-none (suc new_steps) (without flags rs) (new n) (new k) (parent-new k None w s e) ∙ sym (climbs-none (suc steps) rs n k e)
      by_parent (Some p) e again =
          let ps : stay p ≡ true = holder-stays flags rs t k p w e in
          let before : (p < k) × (new p < new k) = parent-before k p w e in
          let there : climbs new_steps (without flags rs) (new n) (new p) ≡ climbs steps rs n p =
          again p (omega (arith, w, before.0)) ps (omega (arith, le, before.0)) (omega (arith, new_le, before.1)) in
          rw (parent-new k (Some p) w s e, e, same_place p n ps sn, there) refl

  pub is_inside-without : (n k : ℕ) → stay n ≡ true → k < length rs → stay k ≡ true → is_inside (without flags rs) (new n) (new k) ≡ is_inside rs n k
  is_inside-without n k sn w s = climbs-new k (new k) n k sn w s (omega arith) (omega arith)

  is_text_inside-without : (n k : ℕ) → stay n ≡ true → k < length rs → stay k ≡ true
      → is_text_inside (without flags rs) (new n) (new k) ≡ is_text_inside rs n k
  is_text_inside-without n k sn w s =
      ap (λ b. b && is_text_kind (at (without flags rs) (new k)).kind) (is_inside-without n k sn w s)
      ∙ ap (λ r. is_inside rs n k && is_text_kind r.kind) (at-new flags rs k w s)

  -- the texts inside a node are those that stay
  pub texts-without : (n : ℕ) → stay n ≡ true → texts (without flags rs) (new n) ≡ map new (filter (is_text_inside rs n) (staying flags rs))
  texts-without n s =
      passing-new (is_text_inside rs n) (is_text_inside (without flags rs) (new n)) (λ k w q. is_text_inside-without n k s w q)

  gather : (test : ℕ → Bool) (n : ℕ) → n ≤ length rs
      → flat_map (λ k. (at (without flags rs) k).text) (map new (filter test (before stay n))) ≡ flat_map (λ k. (at rs k).text) (filter test (before stay n))
  gather test zero h = refl
  gather test (suc n) h =
      let n_is : suc n ≡ n + 1 = omega arith in
      subst (λ x. flat_map (λ k. (at (without flags rs) k).text) (map new (filter test (before stay x)))
      ≡ flat_map (λ k. (at rs k).text) (filter test (before stay x)))
      (sym n_is) (step (gather test n (omega (arith, h))) (stay n) refl)
    where
      last : stay n ≡ true → (b : Bool) → test n ≡ b
          → flat_map (λ k. (at (without flags rs) k).text) (map new (filter test (n ∷ []))) ≡ flat_map (λ k. (at rs k).text) (filter test (n ∷ []))
      last s true e = rw (e, at-new flags rs n (omega (arith, h)) s) refl
      last s false e = rw e refl

      step : flat_map (λ k. (at (without flags rs) k).text) (map new (filter test (before stay n)))
          ≡ flat_map (λ k. (at rs k).text) (filter test (before stay n))
          → (b : Bool) → stay n ≡ b
          → flat_map (λ k. (at (without flags rs) k).text) (map new (filter test (before stay (n + 1))))
          ≡ flat_map (λ k. (at rs k).text) (filter test (before stay (n + 1)))
      step again false e = rw (before-false stay n e) again
      step again true e =
          rw (before-true stay n e)
          (ap (λ xs. flat_map (λ k. (at (without flags rs) k).text) (map new xs)) (filter-append test (before stay n) (n ∷ []))
          ∙ ap (flat_map (λ k. (at (without flags rs) k).text)) (map-append new (filter test (before stay n)) (filter test (n ∷ [])))
          ∙ flat_map-append (λ k. (at (without flags rs) k).text) (map new (filter test (before stay n))) (map new (filter test (n ∷ [])))
          ∙ ap (λ xs. xs ++ flat_map (λ k. (at (without flags rs) k).text) (map new (filter test (n ∷ [])))) again
          ∙ ap (λ xs. flat_map (λ k. (at rs k).text) (filter test (before stay n)) ++ xs) (last e (test n) refl)
          ∙ sym (ap (flat_map (λ k. (at rs k).text)) (filter-append test (before stay n) (n ∷ []))
          ∙ flat_map-append (λ k. (at rs k).text) (filter test (before stay n)) (filter test (n ∷ []))))

  -- the string value of a root or an element is that of the texts inside it that stay, and that of any other node is as it was
  pub string_value-without : (n : ℕ) → n < length rs → stay n ≡ true → string_value (without flags rs) (new n)
      ≡ (if has_content (at rs n).kind then flat_map (λ k. (at rs k).text) (filter (is_text_inside rs n) (staying flags rs)) else (at rs n).text)
  string_value-without n w s =
      ap (λ r. if has_content r.kind then flat_map (λ k. (at (without flags rs) k).text) (texts (without flags rs) (new n)) else r.text)
      (at-new flags rs n w s)
      ∙ ap (λ xs. if has_content (at rs n).kind then xs else (at rs n).text)
      (ap (flat_map (λ k. (at (without flags rs) k).text)) (texts-without n s) ∙ gather (is_text_inside rs n) (length rs) (omega arith))

filter-true : (p : ℕ → Bool) (x : ℕ) (xs : List ℕ) → p x ≡ true → filter p (x ∷ xs) ≡ x ∷ filter p xs
filter-true p x xs e = rw e refl

filter-false : (p : ℕ → Bool) (x : ℕ) (xs : List ℕ) → p x ≡ false → filter p (x ∷ xs) ≡ filter p xs
filter-false p x xs e = rw e refl

-- two tests in either order
filter-swap : (p q : ℕ → Bool) (xs : List ℕ) → filter p (filter q xs) ≡ filter q (filter p xs)
filter-swap p q [] = refl
filter-swap p q (x ∷ xs) = by_tests (filter-swap p q xs) (p x) refl (q x) refl
  where
    by_tests : filter p (filter q xs) ≡ filter q (filter p xs) → (a : Bool) → p x ≡ a → (b : Bool) → q x ≡ b
        → filter p (filter q (x ∷ xs)) ≡ filter q (filter p (x ∷ xs))
    by_tests again true e true f =
        ap (filter p) (filter-true q x xs f) ∙ filter-true p x (filter q xs) e ∙ ap (λ ys. x ∷ ys) again
        ∙ sym (filter-true q x (filter p xs) f) ∙ sym (ap (filter q) (filter-true p x xs e))
    by_tests again true e false f =
        ap (filter p) (filter-false q x xs f) ∙ again ∙ sym (filter-false q x (filter p xs) f) ∙ sym (ap (filter q) (filter-true p x xs e))
    by_tests again false e true f =
        ap (filter p) (filter-true q x xs f) ∙ filter-false p x (filter q xs) e ∙ again ∙ sym (ap (filter q) (filter-false p x xs e))
    by_tests again false e false f = ap (filter p) (filter-false q x xs f) ∙ again ∙ sym (ap (filter q) (filter-false p x xs e))

-- nodes that pass a test, among those that stay and among all
passing_kept : (flags : List Bool) (rs : List Record) (test : ℕ → Bool)
    → map (new_place flags rs) (filter test (staying flags rs)) ≡ moved flags rs (filter test (places rs))
passing_kept flags rs test = ap (map (new_place flags rs)) (filter-swap test (stays flags rs) (places rs))

pub children_kept : KeepsNodes children
children_kept flags rs n t s = children-without flags rs t n s ∙ passing_kept flags rs (is_child rs n)

pub attributes_kept : KeepsNodes attributes
attributes_kept flags rs n t s = attributes-without flags rs t n s ∙ passing_kept flags rs (is_attribute rs n)

pub namespaces_kept : KeepsNodes namespaces
namespaces_kept flags rs n t s = namespaces-without flags rs t n s ∙ passing_kept flags rs (is_namespace rs n)

pub texts_kept : KeepsNodes texts
texts_kept flags rs n t s = texts-without flags rs t n s ∙ passing_kept flags rs (is_text_inside rs n)

pub inside_kept : KeepsInside
inside_kept flags rs n k t s w q = is_inside-without flags rs t n k s w q

pub texts_that_stay : HasTextsThatStay
texts_that_stay flags rs n t w s =
    string_value-without flags rs t n w s
    ∙ ap (λ ks. if has_content (at rs n).kind then flat_map (λ k. (at rs k).text) ks else (at rs n).text)
    (filter-swap (is_text_inside rs n) (stays flags rs) (places rs))
