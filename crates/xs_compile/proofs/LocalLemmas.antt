-- The tables of local bindings, node by node.
use Rattle.std.proofs.Common.{◌≡◌, ◌∙◌, ◌<◌, ◌≤◌, ◌+◌, ◌==◌, ℕ, ap, refl, sym, subst, arith, Bool, true, false, List, [], ◌∷◌, ◌++◌, length, length-append, Option, None, Some, inl, inr, get_or, eqb-true, eq-eqb}
use Rattle.std.proofs.Math.Seq.{get_or-append_seam}
use Rattle.std.proofs.Math.ListN.{get_or-append}
use Rattle.std.proofs.lemmas.Bool.{and_parts, false≢true, true≢false}
use Rattle.std.proofs.lemmas.Option.{none-some}
use Rattle.std.specs.Prelude.{◌&&◌, if◌then◌else◌}
use Rattle.xs_structure.proofs.NameLemmas.{name-same}
use Rattle.xs_compile.proofs.OpenLemmas.{one_if, opened-more, opened-own, opened-visible}
use Rattle.xs_structure.proofs.TopLemmas.{is_place-true}
use Rattle.xs_compile.proofs.ReachLemmas.{parent-before, place-is}
use Rattle.xs_compile.proofs.VisibleLemmas.{named-is}
use Rattle.xs_compile.specs.declared.slots.Local.{Local as LocalEntry}
use Rattle.xs_compile.specs.declared.slots.Locals.{Locals}
use Rattle.xs_compile.specs.Slots.{slot_of, visible_at}
use Rattle.xs_compile.specs.steps.Locals.{AreCounts, opened}
use Rattle.xs_compile.specs.Locals.{AreLocals, IsBindingIn, IsEntryFor, entry_in}
use Rattle.xs_elements.specs.Nodes.{Name, is_named, is_same_name, own_name}
use Rattle.xs_structure.specs.Bindings.{is_local}
use Rattle.xs_tree.proofs.WalkLemmas.{le_or_gt}
use Rattle.xs_tree.specs.Record.{Record, at, is_place}
use Rattle.xs_tree.specs.Shape.{EndsAt, IsTree}

-- ---- entries
later-entry : (rs : List Record) (n p : ℕ) (uri local : List ℕ) (e : LocalEntry) → IsEntryFor rs n p uri local e → IsEntryFor rs (n + 1) p uri local e
later-entry rs n p uri local e h =
    record { node = h.node; before = omega (arith, h.before); binding = h.binding; ends = h.ends; slot = h.slot }

-- a node that is no local binding of a name in an element changes nothing
pub locals-kept : (rs : List Record) (n : ℕ) (locals : Locals) → ((p : ℕ) (uri local : List ℕ) → IsBindingIn rs p uri local n → ⊥) → AreLocals rs n locals
    → AreLocals rs (n + 1) locals
locals-kept rs n locals no-binding are =
    record {
      sound = λ p uri local e h. later-entry rs n p uri local e (are.sound p uri local e h);
      complete = λ p uri local b lt s. elim (le_or_gt n b) [
        | inl here ↦ (let b_is : b ≡ n = omega (arith, here, lt) in absurd (no-binding p uri local (subst (IsBindingIn rs p uri local) b_is s)))
        | inr before ↦ are.complete p uri local b before s
      ];
    }

pub not-local : (rs : List Record) (n : ℕ) → is_local rs n ≡ false → (p : ℕ) (uri local : List ℕ) → IsBindingIn rs p uri local n → ⊥
not-local rs n e p uri local s = true≢false (sym s.is_local ∙ e)

pub not-child : (rs : List Record) (n : ℕ) → (at rs n).parent ≡ None → (p : ℕ) (uri local : List ℕ) → IsBindingIn rs p uri local n → ⊥
not-child rs n e p uri local s = none-some p (sym e ∙ s.inside)

pub not-named : (rs : List Record) (n : ℕ) → own_name rs n ≡ None → (p : ℕ) (uri local : List ℕ) → IsBindingIn rs p uri local n → ⊥
not-named rs n e p uri local s = none-some {A = Name} (uri, local) (sym e ∙ named-is (uri, local) (own_name rs n) s.named)

-- a local binding gets its entry
module _ (rs : List Record) (n p : ℕ) (name : Name) (entry : LocalEntry) (old new : Locals) where
  own-key : (q : ℕ) (uri local : List ℕ) → (p == q && is_same_name (uri, local) name) ≡ true → (p ≡ q) × (is_named (uri, local) (Some name) ≡ true)
  own-key q uri local h = let both = and_parts (p == q) (is_same_name (uri, local) name) h in (eqb-true p q both.0, both.1)

  pub locals-more : is_local rs n ≡ true → (at rs n).parent ≡ Some p → own_name rs n ≡ Some name → EndsAt rs n entry.«from» → entry.slot ≡ slot_of rs n
      → ((q : ℕ) (uri local : List ℕ) → entry_in new q uri local
      ≡ (if p == q && is_same_name (uri, local) name then Some entry else entry_in old q uri local))
      → AreLocals rs n old → AreLocals rs (n + 1) new
  locals-more bound parent named ends slot entered are =
      record {
        sound = λ q uri local e h. sound-by q uri local e (p == q && is_same_name (uri, local) name) refl (sym (entered q uri local) ∙ h);
        complete = λ q uri local b lt s. complete-by q uri local b lt s (p == q && is_same_name (uri, local) name) refl;
      }
    where
      some-is : {X : Type 0} (a b : X) → Some a ≡ Some b → a ≡ b
      some-is a b e = cc

      own : (q : ℕ) (uri local : List ℕ) → (p == q && is_same_name (uri, local) name) ≡ true → IsEntryFor rs (n + 1) q uri local entry
      own q uri local h =
          let key = own-key q uri local h in
          record {
            node = n;
            before = omega arith;
            binding = record {
              is_local = bound;
              inside = parent ∙ ap Some key.0;
              named = subst (λ (o : Option Name). is_named (uri, local) o ≡ true) (sym named) key.1;
            };
            ends = ends;
            slot = slot;
          }

      sound-by : (q : ℕ) (uri local : List ℕ) (e : LocalEntry) (c : Bool) → (p == q && is_same_name (uri, local) name) ≡ c
          → (if p == q && is_same_name (uri, local) name then Some entry else entry_in old q uri local) ≡ Some e → IsEntryFor rs (n + 1) q uri local e
      sound-by q uri local e true f h =
          subst (IsEntryFor rs (n + 1) q uri local)
          (some-is entry e (sym (ap (λ (c : Bool). if c then Some entry else entry_in old q uri local) f) ∙ h)) (own q uri local f)
      sound-by q uri local e false f h =
          later-entry rs n q uri local e
          (are.sound q uri local e (sym (ap (λ (c : Bool). if c then Some entry else entry_in old q uri local) f) ∙ h))

      key-of : (q : ℕ) (uri local : List ℕ) → IsBindingIn rs q uri local n → (p == q && is_same_name (uri, local) name) ≡ true
      key-of q uri local s =
          let q_is : p ≡ q = some-is p q (sym parent ∙ s.inside) in
          let name_is : name ≡ (uri, local) = some-is name (uri, local) (sym named ∙ named-is (uri, local) (own_name rs n) s.named) in
          ap (λ (c : Bool). c && is_same_name (uri, local) name) (eq-eqb p q q_is)
          ∙ subst (λ (x : Name). is_same_name (uri, local) x ≡ true) (sym name_is) (name-same (uri, local))

      complete-by : (q : ℕ) (uri local : List ℕ) (b : ℕ) → b < n + 1 → IsBindingIn rs q uri local b → (c : Bool)
          → (p == q && is_same_name (uri, local) name) ≡ c → (e : LocalEntry) × (entry_in new q uri local ≡ Some e)
      complete-by q uri local b lt s true f =
          (entry, entered q uri local ∙ ap (λ (c : Bool). if c then Some entry else entry_in old q uri local) f)
      complete-by q uri local b lt s false f =
          elim (le_or_gt n b) [
            | inl here ↦ (let b_is : b ≡ n = omega (arith, here, lt) in
                absurd (false≢true (sym f ∙ key-of q uri local (subst (IsBindingIn rs q uri local) b_is s))))
            | inr before ↦ (let there = are.complete q uri local b before s in
                (there.0, entered q uri local ∙ ap (λ (c : Bool). if c then Some entry else entry_in old q uri local) f ∙ there.1))
          ]

-- ---- counts

-- what is visible at a node, by the count of its parent
pub visible-counted : (rs : List Record) → IsTree rs → (n p d : ℕ) (counts : List ℕ) → n < length rs → (at rs n).parent ≡ Some p → AreCounts rs n counts
    → get_or counts p 0 ≡ length (visible_at rs n)
visible-counted rs tree n p d counts w e are = are.each p (parent-before rs tree n p w e) ∙ opened-visible rs tree n p w e

module _ (rs : List Record) (tree : IsTree rs) (n : ℕ) (counts : List ℕ) where
  -- one more count, before the parent's is raised
  pushed : (visible : ℕ) → n < length rs → AreCounts rs n counts → visible ≡ length (visible_at rs n) → (a : ℕ) → a < n + 1
      → get_or (counts ++ visible ∷ []) a 0 ≡ (if a == n then opened rs a (n + 1) else opened rs a n)
  pushed visible w are v a lt =
      elim (le_or_gt n a) [
        | inl here ↦ (let a_is : a ≡ n = omega (arith, here, lt) in
            ap (λ k. get_or (counts ++ visible ∷ []) k 0) (a_is ∙ sym are.size) ∙ get_or-append_seam counts visible [] 0 ∙ v ∙ sym (opened-own rs tree n w)
            ∙ ap (λ k. opened rs k (n + 1)) (sym a_is)
            ∙ ap (λ (c : Bool). if c then opened rs a (n + 1) else opened rs a n) (sym (eq-eqb a n a_is)))
        | inr before ↦ (let inside : a < length counts = omega (arith, before, are.size) in
            get_or-append counts (visible ∷ []) 0 a inside ∙ are.each a before
            ∙ ap (λ (c : Bool). if c then opened rs a (n + 1) else opened rs a n) (sym (not-here a before)))
      ]
    where
      not-here : (a : ℕ) → a < n → (a == n) ≡ false
      not-here a lt = by_test (a == n) refl
        where
          by_test : (c : Bool) → (a == n) ≡ c → (a == n) ≡ false
          by_test true e = absurd (omega (arith, lt, eqb-true a n e))
          by_test false e = e

  -- the next node adds nothing to what is open in a node, except its own and its parent's
  pub counts-kept : (visible : ℕ) → n < length rs → AreCounts rs n counts → visible ≡ length (visible_at rs n)
      → ((a : ℕ) → a < n → opened rs a (n + 1) ≡ opened rs a n) → AreCounts rs (n + 1) (counts ++ visible ∷ [])
  counts-kept visible w are v same =
      record {
        size = omega (arith, length-append counts (visible ∷ []), are.size);
        each = λ a lt. pushed visible w are v a lt ∙ by_place a lt (a == n) refl;
      }
    where
      by_place : (a : ℕ) → a < n + 1 → (c : Bool) → (a == n) ≡ c → (if a == n then opened rs a (n + 1) else opened rs a n) ≡ opened rs a (n + 1)
      by_place a lt true e = ap (λ (c : Bool). if c then opened rs a (n + 1) else opened rs a n) e
      by_place a lt false e =
          ap (λ (c : Bool). if c then opened rs a (n + 1) else opened rs a n) e
          ∙ sym (same a (elim (le_or_gt n a) [
            | inl here ↦ absurd (false≢true (sym e ∙ eq-eqb a n (omega (arith, here, lt))))
            | inr before ↦ before
          ]))

  pub counts-other : (visible : ℕ) → n < length rs → AreCounts rs n counts → visible ≡ length (visible_at rs n) → is_local rs n ≡ false
      → AreCounts rs (n + 1) (counts ++ visible ∷ [])
  counts-other visible w are v e =
      counts-kept visible w are v (λ a lt. (let le : a ≤ n = omega (arith, lt) in
      let more = opened-more rs tree n a le false e (is_place a (at rs n).parent) refl in omega (arith, more)))

  pub counts-rootless : (visible : ℕ) → n < length rs → AreCounts rs n counts → visible ≡ length (visible_at rs n) → (at rs n).parent ≡ None
      → AreCounts rs (n + 1) (counts ++ visible ∷ [])
  counts-rootless visible w are v e =
      counts-kept visible w are v (λ a lt. (let le : a ≤ n = omega (arith, lt) in
      let more = opened-more rs tree n a le (is_local rs n) refl false (ap (is_place a) e) in
      omega (arith, more, none (is_local rs n))))
    where
      none : (b : Bool) → one_if (b && false) ≡ 0
      none true = refl
      none false = refl

  -- a local binding is one more that is open in its parent
  pub counts-binding : (visible more p : ℕ) → n < length rs → AreCounts rs n counts → visible ≡ length (visible_at rs n) → more ≡ visible + 1
      → is_local rs n ≡ true → (at rs n).parent ≡ Some p
      → (new : List ℕ) → length new ≡ length counts + 1 → get_or new p 0 ≡ more
      → ((a : ℕ) → (a ≡ p → ⊥) → get_or new a 0 ≡ get_or (counts ++ visible ∷ []) a 0) → AreCounts rs (n + 1) new
  counts-binding visible more p w are v m bound parent new size own others =
      record {
        size = omega (arith, size, are.size);
        each = λ a lt. by_place a lt (a == p) refl;
      }
    where
      before : p < n
      before = parent-before rs tree n p w parent

      by_place : (a : ℕ) → a < n + 1 → (c : Bool) → (a == p) ≡ c → get_or new a 0 ≡ opened rs a (n + 1)
      by_place a lt true e =
          let a_is : a ≡ p = eqb-true a p e in
          let le : p ≤ n = omega (arith, before) in
          let here = opened-more rs tree n p le true bound true (place-is p (at rs n).parent parent) in
          let visible_is = opened-visible rs tree n p w parent in
          let end : more ≡ opened rs p (n + 1) = omega (arith, here, visible_is, v, m) in
          ap (λ k. get_or new k 0) a_is ∙ own ∙ end ∙ ap (λ k. opened rs k (n + 1)) (sym a_is)
      by_place a lt false e =
          others a (λ f. false≢true (sym e ∙ eq-eqb a p f)) ∙ pushed visible w are v a lt ∙ by_own (a == n) refl
        where
          not-parent : is_place a (at rs n).parent ≡ false
          not-parent = by_test (is_place a (at rs n).parent) refl
            where
              some-is : (a b : ℕ) → Some a ≡ Some b → a ≡ b
              some-is a b e = cc

              by_test : (c : Bool) → is_place a (at rs n).parent ≡ c → is_place a (at rs n).parent ≡ false
              by_test true f =
                  absurd (false≢true (sym e ∙ eq-eqb a p (some-is a p (sym (is_place-true a (at rs n).parent f) ∙ parent))))
              by_test false f = f

          by_own : (c : Bool) → (a == n) ≡ c → (if a == n then opened rs a (n + 1) else opened rs a n) ≡ opened rs a (n + 1)
          by_own true f = ap (λ (c : Bool). if c then opened rs a (n + 1) else opened rs a n) f
          by_own false f =
              let le : a ≤ n = omega (arith, lt) in
              let more = opened-more rs tree n a le true bound false not-parent in
              let end : opened rs a n ≡ opened rs a (n + 1) = omega (arith, more) in
              ap (λ (c : Bool). if c then opened rs a (n + 1) else opened rs a n) f ∙ end
