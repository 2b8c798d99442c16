-- What is kept of the nodes that stay, when it stands at their new places and is renumbered.
use Rattle.std.proofs.Common.{◌≡◌, ℕ, ◌+◌, ◌<◌, ◌≤◌, Bool, true, List, [], ◌∷◌, ◌++◌, Some, All, length, map, get_or, refl, sym, ◌∙◌, ap, subst, arith, slice_get, ◌⊎◌, inl, inr}
use Rattle.std.proofs.lemmas.List.{ext_get_or, get_or-map, length-map}
use Rattle.std.proofs.lemmas.List.Elements.{All-from_get_or}
use Rattle.std.proofs.lemmas.List.FromFn.{get_or-map-range_with_len, length-map-range_with_len, map-range_with_len_more}
use Rattle.std.proofs.lemmas.Option.{get_or_from_slice_get, slice_get-get_or, slice_get-map, slice_get_within}
use Rattle.std.specs.List.{range_with_len}
use Rattle.std.specs.Option.{option_map}
use Rattle.xs_tree.specs.declared.kinds.Kind.{Kind}
use Rattle.xs_tree.specs.declared.kinds.Kind.TheVariants.{Root, Element, Attribute, Space, Text, Comment, Pi}
use Rattle.xs_tree.specs.declared.entries.Entry.{Entry}
use Rattle.xs_tree.specs.declared.trees.Tree.TheInside.{Inside}
use Rattle.xs_tree.specs.steps.Compaction.{AreNewPlaces, IsCompacted, end_after, entry_after, same}
use Rattle.xs_tree.specs.Record.{Record, root_record, at}
use Rattle.xs_tree.specs.Stripping.{stays, staying, new_place, numbers_without, renumbered, without}
use Rattle.xs_tree.specs.View.{parent_of, record_of, records, IsEnd, IsStored, HaveEnds, IsWell}
use Rattle.xs_tree.proofs.EndLemmas.{record_at}
use Rattle.xs_tree.proofs.EntryLemmas.{length-records}
use Rattle.xs_tree.proofs.PlaceLemmas.{place-le, place-next, place-true, get-before, place-below}
use Rattle.xs_tree.proofs.StrippingLemmas.{at-new, length-without, each_new, IsTree-without, IsEnd-without, AreUtf8-without}
use Rattle.xs_tree.proofs.WalkLemmas.{IsPlaced-at}

-- the places as the code keeps them
abbrev pub kept_places : List Bool → List Record → List ℕ
kept_places flags rs = map (new_place flags rs) (range_with_len 0 (length rs + 1))

pub kept_place : (flags : List Bool) (rs : List Record) (k : ℕ) → k ≤ length rs → get_or (kept_places flags rs) k 0 ≡ new_place flags rs k
kept_place flags rs k h = get_or-map-range_with_len (new_place flags rs) 0 (length rs + 1) k k 0 (omega (arith, h)) (omega arith)

pub are_new_places : (flags : List Bool) (rs : List Record) (n : ℕ) → n ≡ length rs → AreNewPlaces (kept_places flags rs) n
are_new_places flags rs n n_is =
    record {
      long = omega (arith, length-map-range_with_len (new_place flags rs) 0 (length rs + 1), n_is);
      first = kept_place flags rs 0 (omega arith);
      next = λ k h. by_test k (omega (arith, h, n_is)) (place-next (stays flags rs) k);
    }
  where
    by_test : (k : ℕ) → k < length rs → (new_place flags rs (k + 1) ≡ new_place flags rs k) ⊎ (new_place flags rs (k + 1) ≡ new_place flags rs k + 1)
        → (get_or (kept_places flags rs) (k + 1) 0 ≡ get_or (kept_places flags rs) k 0) ⊎
        (get_or (kept_places flags rs) (k + 1) 0 ≡ get_or (kept_places flags rs) k 0 + 1)
    by_test k h q = rw (kept_place flags rs k (omega (arith, h)), kept_place flags rs (k + 1) (omega (arith, h))) q

-- what stands at the new places after the others were left out
module _ {X : Type 0} (f : X → X) (flags : List Bool) (rs : List Record) (old new : List X) (n_is : length old ≡ length rs)
    (compacted : IsCompacted f (kept_places flags rs) old new) where
  pub length-compacted : length new ≡ length (without flags rs)
  length-compacted =
      compacted.count ∙ ap (λ n. get_or (kept_places flags rs) n 0) n_is ∙ kept_place flags rs (length rs) (omega arith) ∙ sym (length-without flags rs)

  pub get-compacted : (k : ℕ) (x : X) → k < length rs → stays flags rs k ≡ true → slice_get old k ≡ Some x → slice_get new (new_place flags rs k) ≡ Some (f x)
  get-compacted k x w s is =
      let k_is : get_or (kept_places flags rs) k 0 ≡ new_place flags rs k = kept_place flags rs k (omega (arith, w)) in
      let next_is : get_or (kept_places flags rs) (k + 1) 0 ≡ new_place flags rs (k + 1) = kept_place flags rs (k + 1) (omega (arith, w)) in
      subst (λ p. slice_get new p ≡ Some (f x)) k_is
      (compacted.moved k x (omega (arith, k_is, next_is, place-true (stays flags rs) k s)) is)

-- a list of numbers, one for each node
pub numbers-compacted : (flags : List Bool) (rs : List Record) (old new : List ℕ) → length old ≡ length rs → IsCompacted same (kept_places flags rs) old new
    → new ≡ numbers_without flags rs old
numbers-compacted flags rs old new n_is compacted =
    ext_get_or 0 new (numbers_without flags rs old) (long ∙ sym same_length)
    (λ i h. each_new flags rs (λ i. get_or new i 0 ≡ get_or (numbers_without flags rs old) i 0) all i (omega (arith, h, long, length-without flags rs)))
  where
    same_length : length (numbers_without flags rs old) ≡ new_place flags rs (length rs)
    same_length = length-map (staying flags rs) (λ k. get_or old k 0)

    long : length new ≡ new_place flags rs (length rs)
    long = length-compacted same flags rs old new n_is compacted ∙ length-without flags rs

    all : (k : ℕ) → k < length rs → stays flags rs k ≡ true
        → get_or new (new_place flags rs k) 0 ≡ get_or (numbers_without flags rs old) (new_place flags rs k) 0
    all k w s =
        get_or_from_slice_get new (new_place flags rs k) (get_or old k 0) 0
        (get-compacted same flags rs old new n_is compacted k (get_or old k 0) w s (slice_get-get_or old k 0 (omega (arith, w, n_is))))
        ∙ sym (get_or-map (λ k. get_or old k 0) (staying flags rs) (new_place flags rs k) 0 0 (place-below (stays flags rs) k (length rs) s w)
        ∙ ap (λ k. get_or old k 0) (get-before (stays flags rs) (length rs) k 0 s w))

-- some entry
nothing : Entry
nothing = record { text = record { start = 0; end = 0 }; name = 0; parent = 0; end = 0; kind = Root }

-- how many entries are left
abbrev pub count_after : List Bool → Inside → ℕ
count_after flags t = get_or (kept_places flags (records t)) (length t.nodes.items) 0

abbrev pub after_strip : List Bool → Inside → Entry → Entry
after_strip flags t = entry_after (kept_places flags (records t)) (count_after flags t)

module _ (flags : List Bool) (t : Inside) (well : IsWell t) (es : List Entry)
    (compacted : IsCompacted (after_strip flags t) (kept_places flags (records t)) t.nodes.items es) where
  abbrev rs : List Record
  rs = records t

  abbrev count : ℕ
  count = count_after flags t

  abbrev after : Entry → Entry
  after = after_strip flags t

  abbrev entry : ℕ → Entry
  entry k = get_or t.nodes.items k nothing

  n_is : length t.nodes.items ≡ length rs
  n_is = sym (length-records t)

  count_is : length es ≡ length (without flags rs)
  count_is = length-compacted after flags rs t.nodes.items es n_is compacted

  entry_is : (k : ℕ) → k < length rs → slice_get t.nodes.items k ≡ Some (entry k)
  entry_is k w = slice_get-get_or t.nodes.items k nothing (omega (arith, w, n_is))

  after_at : (k : ℕ) → k < length rs → stays flags rs k ≡ true → slice_get es (new_place flags rs k) ≡ Some (after (entry k))
  after_at k w s = get-compacted after flags rs t.nodes.items es n_is compacted k (entry k) w s (entry_is k w)

  record_is : (k : ℕ) → k < length rs → at rs k ≡ record_of t.store (entry k)
  record_is k w = record_at t.store t.nodes.items rs k (entry k) refl (entry_is k w)

  parent_after : (kind : Kind) (p : ℕ) → ((q : ℕ) → parent_of kind p ≡ Some q → q ≤ length rs)
      → parent_of kind (get_or (kept_places flags rs) p 0) ≡ option_map (new_place flags rs) (parent_of kind p)
  parent_after Root p h = refl
  parent_after Element p h = ap Some (kept_place flags rs p (h p refl))
  parent_after Attribute p h = ap Some (kept_place flags rs p (h p refl))
  parent_after Space p h = ap Some (kept_place flags rs p (h p refl))
  parent_after Text p h = ap Some (kept_place flags rs p (h p refl))
  parent_after Comment p h = ap Some (kept_place flags rs p (h p refl))
  parent_after Pi p h = ap Some (kept_place flags rs p (h p refl))

  record_after : (k : ℕ) → k < length rs → record_of t.store (after (entry k)) ≡ renumbered flags rs k
  record_after k w =
      let parent_is : parent_of (entry k).kind (get_or (kept_places flags rs) (entry k).parent 0) ≡ option_map (new_place flags rs)
      (parent_of (entry k).kind (entry k).parent) =
      parent_after (entry k).kind (entry k).parent
      (λ q e. omega (arith, w, (IsPlaced-at rs k q well.shape w (ap (λ r. r.parent) (record_is k w) ∙ e)).before)) in
      rw (record_is k w, parent_is) refl

  records-after : map (record_of t.store) es ≡ without flags rs
  records-after =
      ext_get_or root_record (map (record_of t.store) es) (without flags rs) long
      (λ i h. each_new flags rs (λ i. at (map (record_of t.store) es) i ≡ at (without flags rs) i) all i (omega (arith, h, long)))
    where
      long : length (map (record_of t.store) es) ≡ length (without flags rs)
      long = length-map es (record_of t.store) ∙ count_is

      all : (k : ℕ) → k < length rs → stays flags rs k ≡ true
          → at (map (record_of t.store) es) (new_place flags rs k) ≡ at (without flags rs) (new_place flags rs k)
      all k w s =
          get_or_from_slice_get (map (record_of t.store) es) (new_place flags rs k) (record_of t.store (after (entry k))) root_record
          (slice_get-map (record_of t.store) es (new_place flags rs k) ∙ ap (option_map (record_of t.store)) (after_at k w s))
          ∙ record_after k w ∙ sym (at-new flags rs k w s)

  -- an entry keeps where its text and its name are
  stored_after : All (IsStored t.store) es
  stored_after =
      All-from_get_or (IsStored t.store) es nothing
      (λ i h. each_new flags rs (λ i. IsStored t.store (get_or es i nothing)) all i (omega (arith, h, count_is)))
    where
      all : (k : ℕ) → k < length rs → stays flags rs k ≡ true → IsStored t.store (get_or es (new_place flags rs k) nothing)
      all k w s =
          let old : IsStored t.store (entry k) = well.stored k nothing (omega (arith, w, n_is)) in
          rw (get_or_from_slice_get es (new_place flags rs k) (after (entry k)) nothing (after_at k w s))
          (record { placed = old.placed; named = old.named })

  end_within : (k x : ℕ) → IsEnd rs k x → x ≤ length rs
  end_within k x (inl o) = omega (arith, o.0)
  end_within k x (inr ends) = omega (arith, ends.0)

  ends_after : HaveEnds (without flags rs) es
  ends_after i f is =
      each_new flags rs (λ i. (f : Entry) → slice_get es i ≡ Some f → IsEnd (without flags rs) i f.end) all i
      (omega (arith, slice_get_within es i f is, count_is)) f is
    where
      all : (k : ℕ) → k < length rs → stays flags rs k ≡ true → (f : Entry) → slice_get es (new_place flags rs k) ≡ Some f
          → IsEnd (without flags rs) (new_place flags rs k) f.end
      all k w s f is =
          let f_is : f ≡ after (entry k) = sym (get_or_from_slice_get es (new_place flags rs k) f nothing is)
          ∙ get_or_from_slice_get es (new_place flags rs k) (after (entry k)) nothing (after_at k w s) in
          let old : IsEnd rs k (entry k).end = well.ends k (entry k) (entry_is k w) in
          let end_is : f.end ≡ end_after (length (without flags rs)) (new_place flags rs (entry k).end) = ap (λ e. e.end) f_is
          ∙ ap (λ x. end_after count x) (kept_place flags rs (entry k).end (end_within k (entry k).end old))
          ∙ ap (λ n. end_after n (new_place flags rs (entry k).end)) (sym compacted.count ∙ count_is) in
          rw end_is (IsEnd-without flags rs well.shape k (entry k).end w s old)

  -- the tree of what stays
  pub records-stripped : (u : Inside) → u.store ≡ t.store → u.nodes.items ≡ es → records u ≡ without flags rs
  records-stripped u store_is nodes_are = rw (store_is, nodes_are) records-after

  pub IsWell-stripped : (u : Inside) → u.store ≡ t.store → u.nodes.items ≡ es → IsWell u
  IsWell-stripped u store_is nodes_are =
      let same_records : records u ≡ without flags rs = records-stripped u store_is nodes_are in
      record {
        stored = rw (store_is, nodes_are) stored_after;
        shape = rw same_records (IsTree-without flags rs well.shape);
        utf8 = rw same_records (AreUtf8-without flags rs well.utf8);
        few = omega (arith, well.few, ap length nodes_are, count_is, length-without flags rs, n_is, place-le (stays flags rs) (length rs));
        ends = subst (λ xs. HaveEnds xs u.nodes.items) (sym same_records) (subst (λ es. HaveEnds (without flags rs) es) (sym nodes_are) ends_after);
      }

-- the places before the node at a place, as the code has found them, and that of the node itself
pub record ArePlacesBefore (flags : List Bool) (rs : List Record) (kept : List ℕ) (next place : ℕ) : Type 0 where
  pub kept_is : kept ≡ map (new_place flags rs) (range_with_len 0 place)
  pub next_is : next ≡ new_place flags rs place
  pub few : next ≤ place

pub places-more : (flags : List Bool) (rs : List Record) (kept newer : List ℕ) (next after place : ℕ) → ArePlacesBefore flags rs kept next place
    → newer ≡ kept ++ next ∷ [] → after ≡ new_place flags rs (place + 1) → ArePlacesBefore flags rs newer after (place + 1)
places-more flags rs kept newer next after place h newer_is after_is =
    record {
      kept_is = newer_is ∙ rw (h.kept_is, h.next_is) (sym (map-range_with_len_more (new_place flags rs) 0 place place (omega arith)));
      next_is = after_is;
      few = omega (arith, after_is, place-le (stays flags rs) (place + 1));
    }
