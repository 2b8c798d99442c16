-- A tree with a node more.
use Rattle.std.proofs.Common.{◌≡◌, ℕ, ◌-◌, ◌<◌, ◌≤◌, List, [], ◌∷◌, ◌++◌, Some, map, length, refl, sym, ◌∙◌, ap, subst, arith}
use Rattle.std.proofs.lemmas.List.Elements.{All-append}
use Rattle.std.proofs.lemmas.Option.{slice_get_within}
use Rattle.xs_tree.specs.declared.entries.Entry.{Entry}
use Rattle.xs_tree.specs.declared.trees.Tree.TheInside.{Inside}
use Rattle.xs_tree.specs.declared.kinds.Kind.TheVariants.{Space}
use Rattle.xs_tree.specs.Closing.{ParentsBefore, Closes}
use Rattle.xs_tree.specs.Limits.{most_nodes}
use Rattle.xs_tree.specs.Record.{Record, at}
use Rattle.xs_tree.specs.Shape.{CanBear, IsOpen, IsTree}
use Rattle.xs_tree.specs.Store.{Grows}
use Rattle.xs_tree.specs.Utf8.{AreUtf8, IsUtf8Record}
use Rattle.xs_tree.specs.View.{parent_of, record_of, records, IsStored, HaveEnds, IsWell}
use Rattle.xs_tree.proofs.EndLemmas.{record_at, held_parent, IsEnding, IsEnded, IsEnding-start, IsEnded-closes}
use Rattle.xs_tree.proofs.EntryLemmas.{stored-grown, records-grown, length-records}
use Rattle.xs_tree.proofs.ShapeLemmas.{length-added}
use Rattle.xs_tree.proofs.WalkLemmas.{IsPlaced-at}

-- the parents of the nodes after an open one come before them
pub parents-before : (t : Inside) (p : ℕ) → IsWell t → IsOpen (records t) p → ParentsBefore t.nodes.items p
parents-before t p w o k e a is =
    let within : k < length (records t) = omega (arith, slice_get_within t.nodes.items k e is, length-records t) in
    let r_is : at (records t) k ≡ record_of t.store e = record_at t.store t.nodes.items (records t) k e refl is in
    let held : (parent_of e.kind e.parent ≡ Some e.parent) × (p ≤ e.parent) = held_parent e.kind e.parent p (rw r_is at (o k a within)) in
    (IsPlaced-at (records t) k e.parent w.shape within (ap (λ r. r.parent) r_is ∙ held.0)).before

-- a node more whose text and name are UTF-8
pub AreUtf8-added : (rs : List Record) (r : Record) → AreUtf8 rs → IsUtf8Record r → AreUtf8 (rs ++ r ∷ [])
AreUtf8-added rs r all one = All-append IsUtf8Record rs (r ∷ []) all (λ k d h. let e : k ≡ 0 = omega (arith, h) in rw e one)

-- what `keep` makes of a tree's entries, once the store has what the new entry names
pub record IsKept (t u : Inside) (e : Entry) : Type 0 where
  pub grown : Grows t.store u.store
  pub stored : IsStored u.store e
  pub is_last : e.end ≡ 0
  pub closes : Closes e.parent (length t.nodes.items) (t.nodes.items ++ e ∷ []) (length t.nodes.items - 1) u.nodes.items
  pub held : parent_of e.kind e.parent ≡ Some e.parent
  pub within : e.parent < length (records t)
  pub is_open : IsOpen (records t) e.parent

ended_by : (t u : Inside) (e : Entry) → IsWell t → IsKept t u e → IsEnded u.store (records t ++ record_of u.store e ∷ []) u.nodes.items
ended_by t u e w k =
    let same : map (record_of u.store) t.nodes.items ≡ records t = records-grown t.store u.store t.nodes.items k.grown w.stored in
    let start : IsEnding u.store (records t) (record_of u.store e) e.parent (t.nodes.items ++ e ∷ []) (length (records t) - 1) =
    IsEnding-start u.store (records t) e.parent t.nodes.items e
    (stored-grown t.store u.store t.nodes.items k.grown w.stored) k.stored same k.within w.ends k.is_last in
    IsEnded-closes u.store (records t) (record_of u.store e) e.parent (length t.nodes.items) w.shape k.held k.within k.is_open (sym (length-records t)) k.closes
    (subst (λ n. IsEnding u.store (records t) (record_of u.store e) e.parent (t.nodes.items ++ e ∷ []) (n - 1)) (length-records t) start)

pub records-kept : (t u : Inside) (e : Entry) → IsWell t → IsKept t u e → records u ≡ records t ++ record_of u.store e ∷ []
records-kept t u e w k = (ended_by t u e w k).same

pub IsWell-kept : (t u : Inside) (e : Entry) → IsWell t → IsKept t u e → length t.nodes.items < most_nodes →
    IsTree (records t ++ record_of u.store e ∷ []) → IsUtf8Record (record_of u.store e) → IsWell u
IsWell-kept t u e w k room shape utf8 =
    let done : IsEnded u.store (records t ++ record_of u.store e ∷ []) u.nodes.items = ended_by t u e w k in
    record {
      stored = done.stored;
      shape = subst (λ rs. IsTree rs) (sym done.same) shape;
      utf8 = subst (λ rs. AreUtf8 rs) (sym done.same) (AreUtf8-added (records t) (record_of u.store e) w.utf8 utf8);
      few = omega (arith, room, length-records t, length-records u, ap length done.same, length-added (records t) (record_of u.store e));
      ends = subst (λ rs. HaveEnds rs u.nodes.items) (sym done.same) done.ends;
    }

-- a namespace node like another bears what that one bears
pub CanBear-same : (rs : List Record) (k : ℕ) → IsTree rs → k < length rs → (at rs k).kind ≡ Space → CanBear Space (at rs k).name (at rs k).text
CanBear-same rs k t h is =
    let bears : CanBear (at rs k).kind (at rs k).name (at rs k).text = t.borne k h in
    subst (λ kind. CanBear kind (at rs k).name (at rs k).text) is bears
