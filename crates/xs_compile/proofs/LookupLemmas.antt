-- The binding of a name that is visible at a node, looked for in the elements around it.
use Rattle.std.proofs.Common.{◌≡◌, ◌∙◌, ◌<◌, ◌≤◌, ℕ, ap, refl, sym, subst, arith, Bool, true, false, List, length, Option, None, Some, ◌⊎◌, inl, inr, IsSomeAnd}
use Rattle.std.proofs.Math.Nat.{eq-or-lt_of_le}
use Rattle.std.proofs.lemmas.Bool.{ltb-true, ltb-false}
use Rattle.std.proofs.lemmas.Option.{none-some}
use Rattle.std.specs.Option.{option_and_then}
use Rattle.std.specs.Prelude.{nat_lt, if◌then◌else◌}
use Rattle.xs_compile.proofs.ReachLemmas.{ends-around, ends-before, within-more, within-parent}
use Rattle.xs_compile.proofs.VisibleLemmas.{Sees, named-is, named-own, no-slot, only-in, own-slot}
use Rattle.xs_compile.specs.declared.slots.Local.{Local as LocalEntry}
use Rattle.xs_compile.specs.declared.slots.Locals.{Locals}
use Rattle.xs_compile.specs.Slots.{local_slot}
use Rattle.xs_compile.specs.Locals.{AreLocals, IsApart, IsBindingIn, entry_in}
use Rattle.xs_compile.specs.steps.Locals.{entry_slot, slot_among}
use Rattle.xs_tree.proofs.WalkLemmas.{IsWithin}
use Rattle.xs_tree.specs.Record.{Record, at}
use Rattle.xs_tree.specs.Shape.{HasParentFrom, IsTree}
use Rattle.xs_xpath.specs.declared.name.Slot.{Slot}
use Rattle.xs_xpath.specs.declared.name.Slot.TheVariants.{Local}

-- the node itself, or one around it
abbrev pub Around : List Record → ℕ → ℕ → Type 0
Around rs a n = (a ≡ n) ⊎ IsWithin rs a n

-- no binding of the name that is visible stands in an element from this one on
abbrev pub NoneFrom : List Record → (uri local : List ℕ) → ℕ → ℕ → Type 0
NoneFrom rs uri local n inside = (b : ℕ) (s : Sees rs (uri, local) n b) → s.reaches.parent < inside

-- an entry of the table whose place is passed
record Found (locals : Locals) (p n : ℕ) (uri local : List ℕ) (slot : Slot) : Type 0 where
  entry : LocalEntry
  here : entry_in locals p uri local ≡ Some entry
  passed : nat_lt n entry.«from» ≡ false
  same : Local entry.slot ≡ slot

found-entry : (locals : Locals) (p n : ℕ) (uri local : List ℕ) (slot : Slot) → slot_among locals p n uri local ≡ Some slot → Found locals p n uri local slot
found-entry locals p n uri local slot h = by_entry (entry_in locals p uri local) refl h
  where
    some-is : {X : Type 0} (a b : X) → Some a ≡ Some b → a ≡ b
    some-is a b e = cc

    by_place : (e : LocalEntry) → entry_in locals p uri local ≡ Some e → (b : Bool) → nat_lt n e.«from» ≡ b
        → (if b then None else Some (Local e.slot)) ≡ Some slot → Found locals p n uri local slot
    by_place e here true f g = absurd (none-some slot g)
    by_place e here false f g = record { entry = e; here = here; passed = f; same = some-is (Local e.slot) slot g }

    by_entry : (o : Option LocalEntry) → entry_in locals p uri local ≡ o → option_and_then (entry_slot n) o ≡ Some slot → Found locals p n uri local slot
    by_entry None here g = absurd (none-some slot g)
    by_entry (Some e) here g = by_place e here (nat_lt n e.«from») refl g

module _ (rs : List Record) (tree : IsTree rs) where
  pub around-up : (inside p n : ℕ) → inside < length rs → (at rs inside).parent ≡ Some p → Around rs inside n → IsWithin rs p n
  around-up inside p n w e (inl own) = subst (λ x. IsWithin rs p x) own (within-parent rs tree inside p w e)
  around-up inside p n w e (inr up) = within-more rs tree p inside n (within-parent rs tree inside p w e) up

  pub none-start : (uri local : List ℕ) (n : ℕ) → NoneFrom rs uri local n n
  none-start uri local n = λ b s. s.reaches.around.0

  -- what is around a node with a parent before another one around it has its own before that
  parent-before-of : (inside q n : ℕ) → Around rs inside n → q < inside → IsWithin rs q n → HasParentFrom q (at rs inside)
  parent-before-of inside q n (inl own) lt up = subst (λ x. HasParentFrom q (at rs x)) (sym own) (up.1 n up.0 (omega arith))
  parent-before-of inside q n (inr within) lt up = (let le : inside ≤ n = omega (arith, within.0) in up.1 inside lt le)

  module _ (apart : IsApart rs) (locals : Locals) (are : AreLocals rs (length rs) locals) (uri local : List ℕ) (n : ℕ) where
    pub lookup-found : (inside p : ℕ) (slot : Slot) → n < length rs → inside < length rs → (at rs inside).parent ≡ Some p → Around rs inside n
        → slot_among locals p n uri local ≡ Some slot → local_slot rs n (uri, local) ≡ Some slot
    lookup-found inside p slot w v e around h =
        let f = found-entry locals p n uri local slot h in
        let entry = are.sound p uri local f.entry f.here in
        let le : f.entry.«from» ≤ n = ltb-false n f.entry.«from» f.passed in
        own-slot rs tree (uri, local) n apart w entry.node (record {
          is_local = entry.binding.is_local;
          reaches = record {
            parent = p;
            before = omega (arith, le, entry.ends.after);
            outside = ends-before rs tree entry.node f.entry.«from» n w entry.ends le;
            child = entry.binding.inside;
            around = around-up inside p n v e around;
          };
          named = named-is (uri, local) _ entry.binding.named;
        })
        ∙ ap (λ k. Some (Local k)) (sym entry.slot) ∙ ap Some f.same

    pub lookup-more : (inside p : ℕ) → n < length rs → inside < length rs → (at rs inside).parent ≡ Some p → Around rs inside n
        → slot_among locals p n uri local ≡ None → NoneFrom rs uri local n inside → NoneFrom rs uri local n p
    lookup-more inside p w v e around h none b s =
        let lt = none b s in
        let from : HasParentFrom s.reaches.parent (at rs inside) = parent-before-of inside s.reaches.parent n around lt s.reaches.around in
        let le : s.reaches.parent ≤ p = subst (λ (o : Option ℕ). IsSomeAnd o (λ q. s.reaches.parent ≤ q)) e from in
        elim (eq-or-lt_of_le le) [
          | inl own ↦ absurd (not-there own)
          | inr lt ↦ lt
        ]
      where
        within : b < length rs
        within = omega (arith, s.reaches.before, w)

        binding : s.reaches.parent ≡ p → IsBindingIn rs p uri local b
        binding own = record { is_local = s.is_local; inside = s.reaches.child ∙ ap Some own; named = named-own (uri, local) _ s.named }

        not-there : s.reaches.parent ≡ p → ⊥
        not-there own =
            let there = are.complete p uri local b within (binding own) in
            let entry = are.sound p uri local there.0 there.1 in
            let same = only-in rs tree apart p entry.node b uri local entry.before within entry.binding (binding own) in
            by_place there.0 there.1 (nat_lt n there.0.«from») refl
            (λ past. s.reaches.outside (subst (λ x. IsWithin rs x n) same
            (ends-around rs tree entry.node there.0.«from» n entry.ends (omega (arith, same, s.reaches.before)) past)))
          where
            by_place : (e : LocalEntry) → entry_in locals p uri local ≡ Some e → (c : Bool) → nat_lt n e.«from» ≡ c → (n < e.«from» → ⊥) → ⊥
            by_place e here true f past = past (ltb-true n e.«from» f)
            by_place e here false f past =
                none-some {A = Slot} (Local e.slot) (sym h ∙ ap (option_and_then (entry_slot n)) here
                ∙ ap (λ (c : Bool). if c then None else Some (Local e.slot)) f)

    pub lookup-end : (inside : ℕ) → n < length rs → (at rs inside).parent ≡ None → Around rs inside n → NoneFrom rs uri local n inside
        → local_slot rs n (uri, local) ≡ None
    lookup-end inside w e around none =
        no-slot rs tree (uri, local) n w
        (λ b s. subst (λ (o : Option ℕ). IsSomeAnd o (λ q. s.reaches.parent ≤ q)) e
        (parent-before-of inside s.reaches.parent n around (none b s) s.reaches.around))
