-- How a tree is kept.
use Rattle.std.specs.Prelude.{◌≡◌, ℕ, ◌<◌, ◌≤◌, List, Option, None, Some, All, map, length, slice_get, ◌⊎◌}
use Rattle.xs_tree.specs.declared.kinds.Kind.{Kind}
use Rattle.xs_tree.specs.declared.kinds.Kind.TheVariants.{Root, Element, Attribute, Space, Text, Comment, Pi}
use Rattle.xs_tree.specs.declared.entries.Entry.{Entry}
use Rattle.xs_tree.specs.declared.store.Store.{Store}
use Rattle.xs_tree.specs.declared.trees.Tree.TheInside.{Inside}
use Rattle.xs_tree.specs.Limits.{most_nodes}
use Rattle.xs_tree.specs.Record.{Record}
use Rattle.xs_tree.specs.Shape.{IsOpen, IsTree, EndsAt}
use Rattle.xs_tree.specs.Store.{name_at, text_at, IsTextIn}
use Rattle.xs_tree.specs.Utf8.{AreUtf8}

-- a root has no parent
abbrev pub parent_of : Kind → ℕ → Option ℕ
parent_of Root p = None
parent_of Element p = Some p
parent_of Attribute p = Some p
parent_of Space p = Some p
parent_of Text p = Some p
parent_of Comment p = Some p
parent_of Pi p = Some p

-- the node of an entry, over the names and texts that are kept
abbrev pub record_of : Store → Entry → Record
record_of s e = record { kind = e.kind; name = name_at s.names e.name; text = text_at s e.kind e.text; parent = parent_of e.kind e.parent }

-- the nodes of a tree, in document order
abbrev pub records : Inside → List Record
records t = map (record_of t.store) t.nodes.items

-- an entry's text is kept, and its name is in the table
pub record IsStored (s : Store) (e : Entry) : Type 0 where
  pub placed : IsTextIn s e.kind e.text
  pub named : e.name ≤ length s.names

-- the end of the node's subtree as an entry keeps it: 0 while the node is open, and else the place of the first node that
-- is not in the subtree
abbrev pub IsEnd : List Record → ℕ → ℕ → Type 0
IsEnd rs n e = ((e ≡ 0) × IsOpen rs n) ⊎ ((e < length rs) × EndsAt rs n e)

-- all entries keep the ends of their nodes' subtrees
abbrev pub HaveEnds : List Record → List Entry → Type 0
HaveEnds rs es = (k : ℕ) (e : Entry) → slice_get es k ≡ Some e → IsEnd rs k e.end

-- what always holds of a tree
pub record IsWell (t : Inside) : Type 0 where
  pub stored : All (IsStored t.store) t.nodes.items
  pub shape : IsTree (records t)
  pub utf8 : AreUtf8 (records t)
  pub few : length t.nodes.items ≤ most_nodes
  pub ends : HaveEnds (records t) t.nodes.items
