-- Where subtrees end, while a node is added and afterwards.
use Rattle.std.proofs.Common.{◌≡◌, ◌≢◌, ℕ, ◌-◌, ◌<◌, ◌≤◌, List, [], ◌∷◌, ◌++◌, Some, All, IsSomeAnd, map, length, refl, sym, ◌∙◌, ap, subst, arith, set, get_or}
use Rattle.std.proofs.Common.{slice_get, length-append, ◌↔◌, ◌⊎◌, inl, inr}
use Rattle.std.proofs.Math.Nat.{eq-or-lt_of_le}
use Rattle.std.proofs.Math.Seq.{map-set_same}
use Rattle.std.proofs.lemmas.List.{map-append, length-map}
use Rattle.std.proofs.lemmas.Option.{slice_get-get_or, slice_get_within, get_or_from_slice_get, slice_get-map}
use Rattle.std.specs.Option.{option_map}
use Rattle.xs_tree.specs.declared.kinds.Kind.{Kind}
use Rattle.xs_tree.specs.declared.kinds.Kind.TheVariants.{Root, Element, Attribute, Space, Text, Comment, Pi}
use Rattle.xs_tree.specs.declared.entries.Entry.{Entry}
use Rattle.xs_tree.specs.declared.store.Store.{Store}
use Rattle.xs_tree.specs.Closing.{Closes}
use Rattle.xs_tree.specs.Closing.Closes.{nothing_left, ended}
use Rattle.xs_tree.specs.Record.{Record, root_record, at}
use Rattle.xs_tree.specs.Shape.{HasParentFrom, IsOpen, IsPlaced, IsTree, EndsAt}
use Rattle.xs_tree.specs.View.{parent_of, record_of, IsStored, IsEnd, HaveEnds}
use Rattle.xs_tree.proofs.ClosingLemmas.{same_or_other, written_at, written_elsewhere, get-before, get-last}
use Rattle.xs_tree.proofs.ShapeLemmas.{at-append, at-added, length-added, IsOpen-added}
use Rattle.xs_tree.proofs.WalkLemmas.{IsPlaced-at, HasParentFrom-own, le_or_gt, from_earlier}

-- an end stays right when more nodes follow
pub EndsAt-append : (rs xs : List Record) (n e : ℕ) → e < length rs → EndsAt rs n e → EndsAt (rs ++ xs) n e
EndsAt-append rs xs n e h ends =
    record {
      after = ends.after;
      within = omega (arith, h, length-append rs xs);
      inside = λ k a b. rw (at-append rs xs k (omega (arith, b, h))) (ends.inside k a b);
      outside = λ _ q. ends.outside h (rw (at-append rs xs e h) at q);
    }

-- the record of an entry
pub record_at : (s : Store) (es : List Entry) (rs : List Record) (k : ℕ) (e : Entry) → map (record_of s) es ≡ rs → slice_get es k ≡ Some e
    → at rs k ≡ record_of s e
record_at s es rs k e same is =
    get_or_from_slice_get rs k (record_of s e) root_record (ap (λ xs. slice_get xs k) (sym same) ∙ slice_get-map (record_of s) es k
    ∙ ap (option_map (record_of s)) is)

pub held_parent : (kind : Kind) (q p : ℕ) → IsSomeAnd (parent_of kind q) (λ x. p ≤ x) → (parent_of kind q ≡ Some q) × (p ≤ q)
held_parent Root q p h = absurd h
held_parent Element q p h = (refl, h)
held_parent Attribute q p h = (refl, h)
held_parent Space q p h = (refl, h)
held_parent Text q p h = (refl, h)
held_parent Comment q p h = (refl, h)
held_parent Pi q p h = (refl, h)

-- where a subtree ends that an entry says to be open, or to end
pub EndsAt-open : (rs : List Record) (n e : ℕ) → n < length rs → IsEnd rs n e → e ≡ 0 → EndsAt rs n (length rs)
EndsAt-open rs n e h (inl o) zero_is =
    record { after = h; within = omega arith; inside = o.1; outside = λ b. absurd (omega (arith, b)) }
EndsAt-open rs n e h (inr ends) zero_is = absurd (omega (arith, ends.1.after, zero_is))

pub EndsAt-closed : (rs : List Record) (n e : ℕ) → IsEnd rs n e → (e ≡ 0 → ⊥) → EndsAt rs n e
EndsAt-closed rs n e (inl o) not_zero = absurd (not_zero o.0)
EndsAt-closed rs n e (inr ends) not_zero = ends.1

-- an end says whether a node is open
pub IsOpen-end : (rs : List Record) (n e : ℕ) → IsEnd rs n e → (e ≡ 0) ↔ IsOpen rs n
IsOpen-end rs n e (inl o) = (λ _. o.1, λ _. o.0)
IsOpen-end rs n e (inr ends) =
    (λ zero_is. absurd (omega (arith, ends.1.after, zero_is)), λ o. absurd (ends.1.outside ends.0 (o e ends.1.after ends.0)))

-- what holds while the walk is at the node at w: the subtrees that end were ended after it, and not yet up to it
pub record IsEnding (s : Store) (rs : List Record) (r : Record) (p : ℕ) (es : List Entry) (w : ℕ) : Type 0 where
  pub stored : (k : ℕ) (e : Entry) → slice_get es k ≡ Some e → IsStored s e
  pub same : map (record_of s) es ≡ rs ++ r ∷ []
  pub from : p ≤ w
  pub within : w < length rs
  pub is_open : IsOpen rs w
  pub low : (k : ℕ) (e : Entry) → k ≤ w → slice_get es k ≡ Some e → IsEnd rs k e.end
  pub high : (k : ℕ) (e : Entry) → w < k → slice_get es k ≡ Some e → IsEnd (rs ++ r ∷ []) k e.end

-- and when it has come to the parent
pub record IsEnded (s : Store) (rs : List Record) (es : List Entry) : Type 0 where
  pub stored : All (IsStored s) es
  pub same : map (record_of s) es ≡ rs
  pub ends : HaveEnds rs es

module _ (s : Store) (rs : List Record) (r : Record) (p end : ℕ) (tree : IsTree rs) (above : r.parent ≡ Some p) (p_within : p < length rs)
    (p_open : IsOpen rs p) (end_is : end ≡ length rs) where
  -- an end that was right stays right
  closed_stays : (k x : ℕ) → x < length rs → EndsAt rs k x → IsEnd (rs ++ r ∷ []) k x
  closed_stays k x h ends = inr (omega (arith, h, length-added rs r), EndsAt-append rs (r ∷ []) k x h ends)

  -- the node at w, whose subtree the added node is not in
  ends_here : (w : ℕ) → p < w → w < length rs → IsOpen rs w → IsEnd (rs ++ r ∷ []) w end
  ends_here w a h o =
      let last_is : at (rs ++ r ∷ []) end ≡ r = ap (λ i. at (rs ++ r ∷ []) i) end_is ∙ at-added rs r in
      let not_in : HasParentFrom w (at (rs ++ r ∷ []) end) → ⊥ = λ q. not_below w a (rw last_is at q) in
      inr (
        omega (arith, end_is, length-added rs r),
        record {
          after = omega (arith, end_is, h);
          within = omega (arith, end_is, length-added rs r);
          inside = λ k b c. inside_of k b c;
          outside = λ _ q. not_in q;
        },
      )
    where
      not_below : (w : ℕ) → p < w → HasParentFrom w r → ⊥
      not_below w a q = let le : w ≤ p = rw above at q in omega (arith, le, a)

      inside_of : (k : ℕ) → w < k → k < end → HasParentFrom w (at (rs ++ r ∷ []) k)
      inside_of k b c = let k_within : k < length rs = omega (arith, c, end_is) in rw (at-append rs (r ∷ []) k k_within) (o k b k_within)

  module _ (es : List Entry) (w : ℕ) (e : Entry) (is : slice_get es w ≡ Some e) (a : p < w) (h : IsEnding s rs r p es w) where
    w_is : at rs w ≡ record_of s e
    w_is = sym (at-append rs (r ∷ []) w h.within) ∙ record_at s es (rs ++ r ∷ []) w e h.same is

    w_held : (parent_of e.kind e.parent ≡ Some e.parent) × (p ≤ e.parent)
    w_held = held_parent e.kind e.parent p (rw w_is at (p_open w a h.within))

    w_parent : (at rs w).parent ≡ Some e.parent
    w_parent = ap (λ x. x.parent) w_is ∙ w_held.0

    w_placed : IsPlaced rs w e.parent
    w_placed = IsPlaced-at rs w e.parent tree h.within w_parent

    -- the parent of an open node is open
    parent_open : IsOpen rs e.parent
    parent_open k b c = by_place (le_or_gt k w)
      where
        by_place : (k ≤ w) ⊎ (w < k) → HasParentFrom e.parent (at rs k)
        by_place (inl le) =
            elim (eq-or-lt_of_le le) [
              | inl same ↦ rw same (HasParentFrom-own (at rs w) e.parent w_parent)
              | inr before ↦ w_placed.inside k b before
            ]
        by_place (inr gt) =
            let le : e.parent ≤ w = omega (arith, w_placed.before) in
            from_earlier (at rs k).parent e.parent w le (h.is_open k gt c)

    -- between the parent and the node no subtree is open
    between_closed : (k x : ℕ) → e.parent < k → k < w → IsEnd rs k x → IsEnd (rs ++ r ∷ []) k x
    between_closed k x b c (inl o) =
        let le : k ≤ e.parent = rw w_parent at (o.1 w c h.within) in absurd (omega (arith, le, b))
    between_closed k x b c (inr ends) = closed_stays k x ends.0 ends.1

    abbrev changed : List Entry
    changed = set es w (record e { end = end })

    stored_now : (k : ℕ) (f : Entry) → slice_get changed k ≡ Some f → IsStored s f
    stored_now k f g = by_place (same_or_other k w)
      where
        by_place : (k ≡ w) ⊎ (k ≢ w) → IsStored s f
        by_place (inl same) =
            let there : slice_get changed w ≡ Some f = ap (slice_get changed) (sym same) ∙ g in
            let f_is : f ≡ record e { end = end } = written_at es w (record e { end = end }) f (slice_get_within es w e is) there in
            let old : IsStored s e = h.stored w e is in
            subst (λ x. IsStored s x) (sym f_is) (record { placed = old.placed; named = old.named })
        by_place (inr other) = h.stored k f (written_elsewhere es w k (record e { end = end }) f other g)

    low_now : (k : ℕ) (f : Entry) → k ≤ e.parent → slice_get changed k ≡ Some f → IsEnd rs k f.end
    low_now k f b g =
        let before : e.parent < w = w_placed.before in
        h.low k f (omega (arith, b, before)) (written_elsewhere es w k (record e { end = end }) f (λ same. omega (arith, same, b, before)) g)

    high_now : (k : ℕ) (f : Entry) → e.parent < k → slice_get changed k ≡ Some f → IsEnd (rs ++ r ∷ []) k f.end
    high_now k f b g = by_place (same_or_other k w)
      where
        by_place : (k ≡ w) ⊎ (k ≢ w) → IsEnd (rs ++ r ∷ []) k f.end
        by_place (inl same) =
            let there : slice_get changed w ≡ Some f = ap (slice_get changed) (sym same) ∙ g in
            let f_is : f.end ≡ end = ap (λ x. x.end) (written_at es w (record e { end = end }) f (slice_get_within es w e is) there) in
            subst (λ i. IsEnd (rs ++ r ∷ []) i f.end) (sym same) (subst (λ x. IsEnd (rs ++ r ∷ []) w x) (sym f_is) (ends_here w a h.within h.is_open))
        by_place (inr other) =
            let there : slice_get es k ≡ Some f = written_elsewhere es w k (record e { end = end }) f other g in
            elim (le_or_gt k w) [
              | inl le ↦ between_closed k f.end b (omega (arith, le, other)) (h.low k f le there)
              | inr gt ↦ h.high k f gt there
            ]

    IsEnding-step : IsEnding s rs r p changed e.parent
    IsEnding-step =
        record {
          stored = stored_now;
          same = map-set_same (record_of s) es w (record e { end = end }) e (ap (record_of s) (sym (get_or_from_slice_get es w e e is))) ∙ h.same;
          from = w_held.1;
          within = omega (arith, w_placed.before, h.within);
          is_open = parent_open;
          low = low_now;
          high = high_now;
        }

  IsEnded-done : (es : List Entry) (w : ℕ) → w ≤ p → IsEnding s rs r p es w → IsEnded s (rs ++ r ∷ []) es
  IsEnded-done es w a h =
      record {
        stored = λ k d b. h.stored k (get_or es k d) (slice_get-get_or es k d b);
        same = h.same;
        ends = λ k f g. by_place k f g (le_or_gt k w);
      }
    where
      up_to : (k x : ℕ) → k ≤ w → IsEnd rs k x → IsEnd (rs ++ r ∷ []) k x
      up_to k x b (inl o) = inl (o.0, IsOpen-added rs r k p above (omega (arith, a, b)) o.1)
      up_to k x b (inr ends) = closed_stays k x ends.0 ends.1

      by_place : (k : ℕ) (f : Entry) → slice_get es k ≡ Some f → (k ≤ w) ⊎ (w < k) → IsEnd (rs ++ r ∷ []) k f.end
      by_place k f g (inl le) = up_to k f.end le (h.low k f le g)
      by_place k f g (inr gt) = h.high k f gt g

  -- the whole walk
  pub IsEnded-closes : {es new : List Entry} {w : ℕ} → Closes p end es w new → IsEnding s rs r p es w → IsEnded s (rs ++ r ∷ []) new
  IsEnded-closes {es} {new} {w} (nothing_left a) h = IsEnded-done es w a h
  IsEnded-closes {es} {new} {w} (ended e a is rest) h = IsEnded-closes rest (IsEnding-step es w e is a h)

-- where the walk begins: nothing was ended yet
pub IsEnding-start : (s : Store) (rs : List Record) (p : ℕ) (es : List Entry) (e : Entry) → All (IsStored s) es → IsStored s e → map (record_of s) es ≡ rs
    → p < length rs → HaveEnds rs es → e.end ≡ 0 → IsEnding s rs (record_of s e) p (es ++ e ∷ []) (length rs - 1)
IsEnding-start s rs p es e stored last same p_within ends zero_is =
    record {
      stored = stored_now;
      same = map-append (record_of s) es (e ∷ []) ∙ ap (λ xs. xs ++ record_of s e ∷ []) same;
      from = omega arith;
      within = omega arith;
      is_open = λ k b c. absurd (omega (arith, b, c));
      low = λ k f b g. ends k f (get-before es e f k (omega (arith, b, long, p_within)) g);
      high = high_now;
    }
  where
    long : length rs ≡ length es
    long = ap length (sym same) ∙ length-map es (record_of s)

    is_last : (k : ℕ) (f : Entry) → length es ≤ k → slice_get (es ++ e ∷ []) k ≡ Some f → f ≡ e
    is_last k f b g =
        let place : k ≡ length es = omega (arith, b, slice_get_within (es ++ e ∷ []) k f g, length-append es (e ∷ [])) in
        get-last es e f (ap (slice_get (es ++ e ∷ [])) (sym place) ∙ g)

    stored_now : (k : ℕ) (f : Entry) → slice_get (es ++ e ∷ []) k ≡ Some f → IsStored s f
    stored_now k f g =
        elim (le_or_gt (length es) k) [
          | inl late ↦ subst (λ x. IsStored s x) (sym (is_last k f late g)) last
          | inr early ↦ (let there : slice_get es k ≡ Some f = get-before es e f k early g in
              subst (λ x. IsStored s x) (get_or_from_slice_get es k f f there) (stored k f early))
        ]

    high_now : (k : ℕ) (f : Entry) → length rs - 1 < k → slice_get (es ++ e ∷ []) k ≡ Some f → IsEnd (rs ++ record_of s e ∷ []) k f.end
    high_now k f b g =
        let late : length es ≤ k = omega (arith, b, long, p_within) in
        let f_end : f.end ≡ 0 = ap (λ x. x.end) (is_last k f late g) ∙ zero_is in
        inl (f_end, λ j c d. absurd (omega (arith, c, d, late, long, length-added rs (record_of s e))))
