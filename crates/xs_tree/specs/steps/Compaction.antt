-- How the items of a list move together when some are left out.
use Rattle.std.specs.Prelude.{◌≡◌, ◌==◌, ◌⊎◌, ℕ, ◌+◌, ◌<◌, ◌≤◌, List, Some, length, get_or, slice_get, if◌then◌else◌}
use Rattle.xs_tree.specs.declared.entries.Entry.{Entry}

-- The new places of the first n items, and that of what follows them: they count from 0 on, and an item that is left out has
-- that of the next one.
pub record AreNewPlaces (places : List ℕ) (n : ℕ) : Type 0 where
  pub long : length places ≡ n + 1
  pub first : get_or places 0 0 ≡ 0
  pub next : (k : ℕ) → k < n → (get_or places (k + 1) 0 ≡ get_or places k 0) ⊎ (get_or places (k + 1) 0 ≡ get_or places k 0 + 1)

-- the items that aren't left out stand at their new places, each changed by f, and nothing else is there
pub record IsCompacted {X : Type 0} (f : X → X) (places : List ℕ) (old new : List X) : Type 0 where
  pub count : length new ≡ get_or places (length old) 0
  pub moved : (k : ℕ) (x : X) → get_or places k 0 < get_or places (k + 1) 0 → slice_get old k ≡ Some x
      → slice_get new (get_or places k 0) ≡ Some (f x)

-- the items before a place have moved and were changed, and the others stand where they stood
pub record HaveMoved {X : Type 0} (f : X → X) (places : List ℕ) (old items : List X) (place : ℕ) : Type 0 where
  pub long : length items ≡ length old
  pub moved : (k : ℕ) (x : X) → k < place → get_or places k 0 < get_or places (k + 1) 0 → slice_get old k ≡ Some x
      → slice_get items (get_or places k 0) ≡ Some (f x)
  pub rest : (k : ℕ) (x : X) → place ≤ k → slice_get old k ≡ Some x → slice_get items k ≡ Some x

-- the end of a subtree as an entry keeps it, in a tree of so many nodes: 0 where the node is open now
abbrev pub end_after : ℕ → ℕ → ℕ
end_after count place = if place == count then 0 else place

-- an entry whose parent and end have new places, in a tree of so many nodes
abbrev pub entry_after : List ℕ → ℕ → Entry → Entry
entry_after places count e = record e { parent = get_or places e.parent 0; end = end_after count (get_or places e.end 0) }

-- a number that is kept as it is
abbrev pub same : ℕ → ℕ
same x = x
