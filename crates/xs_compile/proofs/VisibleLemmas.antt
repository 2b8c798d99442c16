-- Where no local binding shadows another one, the binding of a name that is visible at a node is the only one.
use Rattle.std.proofs.Common.{◌≡◌, ◌∙◌, ◌<◌, ◌+◌, ◌==◌, ℕ, zero, suc, ap, refl, sym, subst, arith, Bool, true, false, List, [], ◌∷◌, length, cond, Option, None, Some, inl, inr, filter, eq-eqb, eqb-true}
use Rattle.std.proofs.Math.Nat.{eq-or-lt_of_le}
use Rattle.std.proofs.lemmas.Bool.{and_from, and_parts, or_cases, or_left, or_right, false≢true, true≢false}
use Rattle.std.proofs.lemmas.List.Folds.{list_any-append}
use Rattle.std.proofs.lemmas.Slice.Eq.{bytes_eq-Decides}
use Rattle.std.specs.List.{list_any, range_with_len}
use Rattle.std.specs.Option.{option_map_or}
use Rattle.std.specs.Prelude.{◌&&◌, ◌||◌, find, option_map, if◌then◌else◌}
use Rattle.std.specs.Str.{bytes_eq}
use Rattle.xs_structure.proofs.NameLemmas.{name-same}
use Rattle.xs_compile.proofs.ReachLemmas.{Reaches, child-reaches, reaches-of, reaches-second, reaches-to}
use Rattle.xs_compile.specs.Slots.{is_visible, local_slot, slot_of}
use Rattle.xs_compile.specs.Locals.{IsApart, IsBindingIn}
use Rattle.xs_elements.specs.Nodes.{Name, is_named, is_same_name, own_name}
use Rattle.xs_structure.specs.Bindings.{is_local, has_binding, is_visible_as, reaches, shadows}
use Rattle.xs_tree.proofs.PlaceLemmas.{range-more}
use Rattle.xs_tree.proofs.WalkLemmas.{le_or_gt}
use Rattle.xs_tree.specs.Record.{Record, places}
use Rattle.xs_tree.specs.Shape.{IsTree}
use Rattle.xs_xpath.specs.declared.name.Slot.TheVariants.{Local}

-- one of the first so many places passes a test
pub any-place : (test : ℕ → Bool) (n b : ℕ) → b < n → test b ≡ true → list_any test (range_with_len 0 n) ≡ true
any-place test zero b lt h = absurd (omega (arith, lt))
any-place test (suc n) b lt h =
    let n_is : suc n ≡ n + 1 = omega arith in
    ap (λ m. list_any test (range_with_len 0 m)) n_is ∙ ap (list_any test) (range-more n) ∙ list_any-append test (range_with_len 0 n) (n ∷ [])
    ∙ elim (le_or_gt n b) [
      | inl here ↦ (let b_is : b ≡ n = omega (arith, here, lt) in
          or_right (list_any test (range_with_len 0 n)) (test n || false) (or_left (test n) false (subst (λ x. test x ≡ true) b_is h)))
      | inr before ↦ or_left (list_any test (range_with_len 0 n)) (test n || false) (any-place test n b before h)
    ]

-- ---- names
same-is : (a b : Name) → is_same_name a b ≡ true → a ≡ b
same-is a b h =
    let both = and_parts (bytes_eq a.0 b.0) (bytes_eq a.1 b.1) h in
    ap (λ x. (x, a.1)) ((bytes_eq-Decides a.0 b.0).0 both.0) ∙ ap (λ x. (b.0, x)) ((bytes_eq-Decides a.1 b.1).0 both.1)

pub named-is : (name : Name) (o : Option Name) → is_named name o ≡ true → o ≡ Some name
named-is name None h = absurd (false≢true h)
named-is name (Some other) h = ap Some (sym (same-is name other h))

pub named-own : (name : Name) (o : Option Name) → o ≡ Some name → is_named name o ≡ true
named-own name o e = subst (λ (o : Option Name). is_named name o ≡ true) (sym e) (name-same name)

-- a local binding of a name that reaches a node
pub record Sees (rs : List Record) (name : Name) (n b : ℕ) : Type 0 where
  pub is_local : is_local rs b ≡ true
  pub reaches : Reaches rs b n
  pub named : own_name rs b ≡ Some name

module _ (rs : List Record) (tree : IsTree rs) where
  pub sees-of : (name : Name) (n b : ℕ) → n < length rs → is_visible_as rs name n b ≡ true → Sees rs name n b
  sees-of name n b w h =
      let all = and_parts (is_local rs b && reaches rs b n) (is_named name (own_name rs b)) h in
      let front = and_parts (is_local rs b) (reaches rs b n) all.0 in
      record { is_local = front.0; reaches = reaches-of rs tree b n w front.1; named = named-is name (own_name rs b) all.1 }

  pub sees-to : (name : Name) (n b : ℕ) → n < length rs → Sees rs name n b → is_visible_as rs name n b ≡ true
  sees-to name n b w s =
      and_from (is_local rs b && reaches rs b n) (is_named name (own_name rs b))
      (and_from (is_local rs b) (reaches rs b n) s.is_local (reaches-to rs tree b n w s.reaches)) (named-own name (own_name rs b) s.named)

  -- a local binding that sees another one of its name shadows it
  pub sees-shadows : (name : Name) (c b : ℕ) → c < length rs → is_local rs c ≡ true → own_name rs c ≡ Some name → Sees rs name c b → shadows rs c ≡ true
  sees-shadows name c b w bound named s =
      and_from (is_local rs c) (option_map_or (has_binding rs c) (own_name rs c) false) bound
      (subst (λ (o : Option Name). option_map_or (has_binding rs c) o false ≡ true) (sym named)
      (any-place (is_visible_as rs name c) (length rs) b (omega (arith, s.reaches.before, w)) (sees-to name c b w s)))

module _ (rs : List Record) (tree : IsTree rs) (apart : IsApart rs) where
  pub none-seen : (name : Name) (c b : ℕ) → c < length rs → is_local rs c ≡ true → own_name rs c ≡ Some name → Sees rs name c b → ⊥
  none-seen name c b w bound named s = true≢false (sym (sees-shadows rs tree name c b w bound named s) ∙ apart c w)

  -- two that are visible at a node are one
  pub only-seen : (name : Name) (n b c : ℕ) → n < length rs → Sees rs name n b → Sees rs name n c → b ≡ c
  only-seen name n b c w s t =
      elim (le_or_gt b c) [
        | inl le ↦ elim (eq-or-lt_of_le le) [ inl own ↦ own | inr lt ↦ absurd (clash b c lt s t) ]
        | inr gt ↦ absurd (clash c b gt t s)
      ]
    where
      clash : (b c : ℕ) → b < c → Sees rs name n b → Sees rs name n c → ⊥
      clash b c lt s t =
          none-seen name c b (omega (arith, t.reaches.before, w)) t.is_local t.named
          (record { is_local = s.is_local; reaches = reaches-second rs tree b c n w lt s.reaches t.reaches; named = s.named })

  -- and so are two in one element
  pub only-in : (p b c : ℕ) (uri local : List ℕ) → b < length rs → c < length rs → IsBindingIn rs p uri local b → IsBindingIn rs p uri local c → b ≡ c
  only-in p b c uri local v w s t =
      elim (le_or_gt b c) [
        | inl le ↦ elim (eq-or-lt_of_le le) [ inl own ↦ own | inr lt ↦ absurd (clash b c lt w s t) ]
        | inr gt ↦ absurd (clash c b gt v t s)
      ]
    where
      clash : (b c : ℕ) → b < c → c < length rs → IsBindingIn rs p uri local b → IsBindingIn rs p uri local c → ⊥
      clash b c lt w s t =
          none-seen (uri, local) c b w t.is_local (named-is (uri, local) (own_name rs c) t.named)
          (record {
            is_local = s.is_local;
            reaches = child-reaches rs tree b c p w t.inside lt s.inside;
            named = named-is (uri, local) (own_name rs b) s.named;
          })

-- ---- the slot of the binding that was found
find-none : (v p : ℕ → Bool) (xs : List ℕ) → ((x : ℕ) → v x ≡ true → p x ≡ true → ⊥) → find p (filter v xs) ≡ None
find-none v p [] h = refl
find-none v p (x ∷ xs) h = by_visible (v x) refl (find-none v p xs h)
  where
    by_named : (b : Bool) → p x ≡ b → v x ≡ true → find p (filter v xs) ≡ None → cond b (Some x) (find p (filter v xs)) ≡ None
    by_named true e g again = absurd (h x g e)
    by_named false e g again = again

    by_visible : (b : Bool) → v x ≡ b → find p (filter v xs) ≡ None → find p (if b then x ∷ filter v xs else filter v xs) ≡ None
    by_visible true e again = by_named (p x) refl e again
    by_visible false e again = again

-- a place at which a test fails is not one at which it holds
not-there : (test : ℕ → Bool) (b x : ℕ) → test b ≡ true → test x ≡ false → (x == b) ≡ false
not-there test b x holds fails = by_test (x == b) refl
  where
    by_test : (c : Bool) → (x == b) ≡ c → (x == b) ≡ false
    by_test true f = absurd (false≢true (sym fails ∙ subst (λ y. test y ≡ true) (sym (eqb-true x b f)) holds))
    by_test false f = f

find-only : (v p : ℕ → Bool) (b : ℕ) → v b ≡ true → p b ≡ true → ((x : ℕ) → v x ≡ true → p x ≡ true → x ≡ b) → (xs : List ℕ)
    → list_any (λ x. x == b) xs ≡ true → find p (filter v xs) ≡ Some b
find-only v p b seen named only [] h = absurd (false≢true h)
find-only v p b seen named only (x ∷ xs) h = by_visible (v x) refl (λ g. find-only v p b seen named only xs g)
  where
    later : (list_any (λ x. x == b) xs ≡ true → find p (filter v xs) ≡ Some b) → (x == b) ≡ false → find p (filter v xs) ≡ Some b
    later again e = again (elim (or_cases (x == b) (list_any (λ x. x == b) xs) h) [
      | inl own ↦ absurd (false≢true (sym e ∙ own))
      | inr more ↦ more
    ])

    by_named : (c : Bool) → p x ≡ c → v x ≡ true → (list_any (λ x. x == b) xs ≡ true → find p (filter v xs) ≡ Some b)
        → cond c (Some x) (find p (filter v xs)) ≡ Some b
    by_named true e g again = ap Some (only x g e)
    by_named false e g again = later again (not-there p b x named e)

    by_visible : (c : Bool) → v x ≡ c → (list_any (λ x. x == b) xs ≡ true → find p (filter v xs) ≡ Some b)
        → find p (if c then x ∷ filter v xs else filter v xs) ≡ Some b
    by_visible true e again = by_named (p x) refl e again
    by_visible false e again = later again (not-there v b x seen e)

module _ (rs : List Record) (tree : IsTree rs) (name : Name) (n : ℕ) where
  split : (x : ℕ) → is_visible rs n x ≡ true → is_named name (own_name rs x) ≡ true → is_visible_as rs name n x ≡ true
  split x seen named = and_from (is_local rs x && reaches rs x n) (is_named name (own_name rs x)) seen named

  -- none is visible
  pub no-slot : n < length rs → ((b : ℕ) → Sees rs name n b → ⊥) → local_slot rs n name ≡ None
  no-slot w h =
      ap (option_map (λ b. Local (slot_of rs b)))
      (find-none (is_visible rs n) (λ b. is_named name (own_name rs b)) (places rs) (λ x a b. h x (sees-of rs tree name n x w (split x a b))))

  -- one is
  pub own-slot : IsApart rs → n < length rs → (b : ℕ) → Sees rs name n b → local_slot rs n name ≡ Some (Local (slot_of rs b))
  own-slot apart w b s =
      let parts = and_parts (is_local rs b && reaches rs b n) (is_named name (own_name rs b)) (sees-to rs tree name n b w s) in
      ap (option_map (λ b. Local (slot_of rs b)))
      (find-only (is_visible rs n) (λ b. is_named name (own_name rs b)) b parts.0 parts.1
      (λ x a c. only-seen rs tree apart name n x b w (sees-of rs tree name n x w (split x a c)) s)
      (places rs) (any-place (λ x. x == b) (length rs) b (omega (arith, s.reaches.before, w)) (eq-eqb b b refl)))
