-- A tree stays a tree when text nodes are left out, since these hold nothing.
use Rattle.std.proofs.Common.{◌≡◌, ℕ, ◌<◌, ◌≤◌, ◌==◌, Bool, true, false, List, Option, None, Some, length, get_or, refl, sym, ◌∙◌, ap, subst, arith}
use Rattle.std.proofs.Common.{IsTrue, IsSomeAnd, MatchOption, inl, inr}
use Rattle.std.proofs.Math.Bool.{and-false}
use Rattle.std.proofs.Math.Nat.{eq-or-lt_of_le}
use Rattle.std.proofs.lemmas.Bool.{eq-eqb, eqb-true}
use Rattle.std.proofs.lemmas.List.{get_or-map, length-map}
use Rattle.std.proofs.lemmas.List.Elements.{All-from_get_or}
use Rattle.std.specs.Option.{option_map}
use Rattle.xs_tree.specs.declared.kinds.Kind.{Kind}
use Rattle.xs_tree.specs.declared.kinds.Kind.TheVariants.{Root, Element, Attribute, Space, Text, Comment, Pi}
use Rattle.xs_tree.specs.steps.Compaction.{end_after}
use Rattle.xs_tree.specs.Kinds.{can_hold, is_text_kind, rank}
use Rattle.xs_tree.specs.Record.{Record, root_record, at}
use Rattle.xs_tree.specs.Shape.{EndsAt, HasParentFrom, IsOpen, IsPlaced, IsRootOrPlaced, IsTree}
use Rattle.xs_tree.specs.Stripping.{stays, staying, new_place, renumbered, without}
use Rattle.xs_tree.specs.Utf8.{AreUtf8, IsUtf8Record}
use Rattle.xs_tree.specs.View.{IsEnd}
use Rattle.xs_tree.proofs.PlaceLemmas.{Stands, find, get-before, place-after, place-below, place-mono, place-reflects}
use Rattle.xs_tree.proofs.ShapeLemmas.{Bears}
use Rattle.xs_tree.proofs.WalkLemmas.{IsPlaced-at, le_or_gt}

holder-no_text : (holder held : Kind) → IsTrue (can_hold holder held) → is_text_kind holder ≡ false
holder-no_text Root held h = refl
holder-no_text Element held h = refl
holder-no_text Attribute held h = refl
holder-no_text Space held h = refl
holder-no_text Text held h = cc
holder-no_text Comment held h = refl
holder-no_text Pi held h = refl

clash : (a b : ℕ) → a ≡ b → (a == b) ≡ false → ⊥
clash a b same f = let holds : (a == b) ≡ true = eq-eqb a b same in cc

-- what is no text node stays
pub stays-no_text : (flags : List Bool) (rs : List Record) (k : ℕ) → is_text_kind (at rs k).kind ≡ false → stays flags rs k ≡ true
stays-no_text flags rs k e = rw (e, and-false (get_or flags k false)) refl

module _ (flags : List Bool) (rs : List Record) where
  abbrev new : ℕ → ℕ
  new = new_place flags rs

  -- a node that stays is at its new place
  pub at-new : (k : ℕ) → k < length rs → stays flags rs k ≡ true → at (without flags rs) (new k) ≡ renumbered flags rs k
  at-new k w s =
      get_or-map (renumbered flags rs) (staying flags rs) (new k) 0 root_record (place-below (stays flags rs) k (length rs) s w)
      ∙ ap (renumbered flags rs) (get-before (stays flags rs) (length rs) k 0 s w)

  pub length-without : length (without flags rs) ≡ new (length rs)
  length-without = length-map (staying flags rs) (renumbered flags rs)

  -- what holds of the new places of all nodes that stay holds of all places
  pub each_new : (P : ℕ → Type 0) → ((k : ℕ) → k < length rs → stays flags rs k ≡ true → P (new k)) → (i : ℕ) → i < length (without flags rs) → P i
  each_new P all i h =
      let s : Stands (stays flags rs) (length rs) i = find (stays flags rs) (length rs) i (omega (arith, h, length-without)) in
      subst P s.is (all s.from s.below s.stays)

  module _ (t : IsTree rs) where
    pub holder-stays : (k p : ℕ) → k < length rs → (at rs k).parent ≡ Some p → stays flags rs p ≡ true
    holder-stays k p w e = stays-no_text flags rs p (holder-no_text (at rs p).kind (at rs k).kind (IsPlaced-at rs k p t w e).held)

    from_new : (o : Option ℕ) (n : ℕ) → IsSomeAnd o (λ q. n ≤ q) → IsSomeAnd (option_map new o) (λ q. new n ≤ q)
    from_new None n h = absurd h
    from_new (Some q) n h = place-mono (stays flags rs) n q h

    from_old : (o : Option ℕ) (n : ℕ) → ((q : ℕ) → o ≡ Some q → stays flags rs q ≡ true) → IsSomeAnd (option_map new o) (λ q. new n ≤ q)
        → IsSomeAnd o (λ q. n ≤ q)
    from_old None n s h = absurd h
    from_old (Some q) n s h = place-after (stays flags rs) n q (s q refl) h

    parent_from-new : (n k : ℕ) → k < length rs → stays flags rs k ≡ true → HasParentFrom n (at rs k) → HasParentFrom (new n) (at (without flags rs) (new k))
    parent_from-new n k w s h = rw (at-new k w s) (from_new (at rs k).parent n h)

    parent_from-old : (n k : ℕ) → k < length rs → stays flags rs k ≡ true → HasParentFrom (new n) (at (without flags rs) (new k)) → HasParentFrom n (at rs k)
    parent_from-old n k w s h =
        let there : HasParentFrom (new n) (renumbered flags rs k) = rw (at-new k w s) at h in
        from_old (at rs k).parent n (λ q e. holder-stays k q w e) there

    kind-new : (k : ℕ) → k < length rs → stays flags rs k ≡ true → (at (without flags rs) (new k)).kind ≡ (at rs k).kind
    kind-new k w s = ap (λ r. r.kind) (at-new k w s)

    -- what lies between two nodes is inside the first still
    inside-new : (n e : ℕ) → ((k : ℕ) → n < k → k < e → HasParentFrom n (at rs k))
        → (i : ℕ) → i < length (without flags rs) → new n < i → i < new e → HasParentFrom (new n) (at (without flags rs) i)
    inside-new n e h =
        each_new (λ i. new n < i → i < new e → HasParentFrom (new n) (at (without flags rs) i))
        (λ k w s a b. parent_from-new n k w s (h k (place-reflects (stays flags rs) n k a) (place-reflects (stays flags rs) k e b)))

    within-length : (i k : ℕ) → k ≤ length rs → i < new k → i < length (without flags rs)
    within-length i k w h = omega (arith, h, length-without, place-mono (stays flags rs) k (length rs) w)

    placed-new : (k p : ℕ) → k < length rs → stays flags rs k ≡ true → (at rs k).parent ≡ Some p → IsPlaced (without flags rs) (new k) (new p)
    placed-new k p w s e =
        let placed : IsPlaced rs k p = IsPlaced-at rs k p t w e in
        let p_within : p < length rs = omega (arith, placed.before, w) in
        let p_stays : stays flags rs p ≡ true = holder-stays k p w e in
        let k_is : (at (without flags rs) (new k)).kind ≡ (at rs k).kind = kind-new k w s in
        let k_within : k ≤ length rs = omega (arith, w) in
        record {
          before = place-below (stays flags rs) p k p_stays placed.before;
          held = rw (kind-new p p_within p_stays, k_is) placed.held;
          inside = λ i a b. inside-new p k placed.inside i (within-length i k k_within b) a b;
          order = λ i a b. each_new (λ i. new p < i → i < new k → rank (at (without flags rs) i).kind ≤ rank (at (without flags rs) (new k)).kind)
              (λ j v q c d. rw (kind-new j v q, k_is)
              (placed.order j (place-reflects (stays flags rs) p j c) (place-reflects (stays flags rs) j k d)))
              i (within-length i k k_within b) a b;
        }

    root_or_placed : (k : ℕ) → k < length rs → stays flags rs k ≡ true → IsRootOrPlaced (without flags rs) (new k)
    root_or_placed k w s = by_parent (at rs k).parent refl
      where
        by_parent : (o : Option ℕ) → (at rs k).parent ≡ o → IsRootOrPlaced (without flags rs) (new k)
        by_parent None e =
            let M : Option ℕ → Type 0 = λ o. MatchOption o ((at rs k).kind ≡ Root) (λ p. IsPlaced rs k p) in
            let root : (at rs k).kind ≡ Root = subst M e (t.placed k w) in
            let none : (at (without flags rs) (new k)).parent ≡ None = ap (λ r. r.parent) (at-new k w s) ∙ ap (option_map new) e in
            rw none (kind-new k w s ∙ root)
        by_parent (Some p) e =
            let some : (at (without flags rs) (new k)).parent ≡ Some (new p) = ap (λ r. r.parent) (at-new k w s) ∙ ap (option_map new) e in
            rw some (placed-new k p w s e)

    root-stays : stays flags rs 0 ≡ true
    root-stays = stays-no_text flags rs 0 (ap (λ r. is_text_kind r.kind) t.first)

    abbrev moved : Record → Record
    moved r = record r { parent = option_map new r.parent }

    -- a tree without some of its text nodes is a tree
    pub IsTree-without : IsTree (without flags rs)
    IsTree-without =
        record {
          some = omega (arith, length-without, place-below (stays flags rs) 0 (length rs) root-stays t.some);
          first = at-new 0 t.some root-stays ∙ ap moved t.first;
          placed = each_new (λ i. IsRootOrPlaced (without flags rs) i) root_or_placed;
          borne = each_new (λ i. Bears (at (without flags rs) i)) (λ k w s. rw (at-new k w s) (t.borne k w));
        }

    -- where a subtree ended, and something follows it, it ends still
    ends-new : (n e : ℕ) → n < length rs → stays flags rs n ≡ true → EndsAt rs n e → EndsAt (without flags rs) (new n) (new e)
    ends-new n e w s ends =
        record {
          after = place-below (stays flags rs) n e s ends.after;
          within = omega (arith, length-without, place-mono (stays flags rs) e (length rs) ends.within);
          inside = λ i a b. inside-new n e ends.inside i (within-length i e ends.within b) a b;
          outside = λ b q. each_new (λ i. i ≡ new e → HasParentFrom (new n) (at (without flags rs) i) → ⊥) out (new e) b refl q;
        }
      where
        -- after the end no node has its parent inside
        past : (k q : ℕ) → k < length rs → stays flags rs k ≡ true → new k ≡ new e → e < k → (at rs k).parent ≡ Some q → n ≤ q → ⊥
        past k q v p same gt f le =
            let placed : IsPlaced rs k q = IsPlaced-at rs k q t v f in
            elim (le_or_gt e q) [
              | inl after ↦ omega (arith, same, place-below (stays flags rs) q k (holder-stays k q v f) placed.before, place-mono (stays flags rs) e q after)
              | inr before ↦ ends.outside (omega (arith, gt, v)) (lower (at rs e).parent q (placed.inside e before gt) le)
            ]
          where
            lower : (o : Option ℕ) (q : ℕ) → IsSomeAnd o (λ x. q ≤ x) → n ≤ q → IsSomeAnd o (λ x. n ≤ x)
            lower None q h le = absurd h
            lower (Some x) q h le = omega (arith, h, le)

        past_any : (o : Option ℕ) (k : ℕ) → k < length rs → stays flags rs k ≡ true → new k ≡ new e → e < k → (at rs k).parent ≡ o → IsSomeAnd o (λ q. n ≤ q)
            → ⊥
        past_any None k v p same gt f h = absurd h
        past_any (Some q) k v p same gt f h = past k q v p same gt f h

        out : (k : ℕ) → k < length rs → stays flags rs k ≡ true → new k ≡ new e → HasParentFrom (new n) (at (without flags rs) (new k)) → ⊥
        out k v p same q =
            let old : HasParentFrom n (at rs k) = parent_from-old n k v p q in
            let le : e ≤ k = place-after (stays flags rs) e k p (omega (arith, same)) in
            elim (eq-or-lt_of_le le) [
              | inl e_is ↦ ends.outside (omega (arith, e_is, v)) (rw e_is old)
              | inr gt ↦ past_any (at rs k).parent k v p same gt refl old
            ]

    -- or its node is open now, where nothing follows it
    open-new : (n e : ℕ) → ((k : ℕ) → n < k → k < e → HasParentFrom n (at rs k)) → new e ≡ length (without flags rs) → IsOpen (without flags rs) (new n)
    open-new n e h all i a b = inside-new n e h i b a (omega (arith, all, b))

    -- an entry's end is right when it has its new place
    pub IsEnd-without : (n e : ℕ) → n < length rs → stays flags rs n ≡ true → IsEnd rs n e
        → IsEnd (without flags rs) (new n) (end_after (length (without flags rs)) (new e))
    IsEnd-without n e w s (inl o) = rw (o.0, end_zero) (inl (refl, open-new n (length rs) o.1 (sym length-without)))
      where
        end_zero : end_after (length (without flags rs)) 0 ≡ 0
        end_zero = by_test (0 == length (without flags rs)) refl
          where
            by_test : (b : Bool) → (0 == length (without flags rs)) ≡ b → end_after (length (without flags rs)) 0 ≡ 0
            by_test true f = rw f refl
            by_test false f = rw f refl
    IsEnd-without n e w s (inr ends) = by_test (new e == length (without flags rs)) refl
      where
        by_test : (b : Bool) → (new e == length (without flags rs)) ≡ b
            → IsEnd (without flags rs) (new n) (end_after (length (without flags rs)) (new e))
        by_test true f = rw f (inl (refl, open-new n e ends.1.inside (eqb-true (new e) (length (without flags rs)) f)))
        by_test false f =
            let le : new e ≤ length (without flags rs) = omega (arith, length-without, place-mono (stays flags rs) e (length rs) ends.1.within) in
            let not_all : new e ≡ length (without flags rs) → ⊥ = λ same. clash (new e) (length (without flags rs)) same f in
            rw f (inr (omega (arith, le, not_all), ends-new n e w s ends.1))

  -- the texts and the names of the nodes that stay are those that they were
  pub AreUtf8-without : AreUtf8 rs → AreUtf8 (without flags rs)
  AreUtf8-without utf8 =
      All-from_get_or IsUtf8Record (without flags rs) root_record
      (each_new (λ i. IsUtf8Record (at (without flags rs) i))
      (λ k w s. rw (at-new k w s) (record { text = (utf8 k root_record w).text; name = (utf8 k root_record w).name })))
