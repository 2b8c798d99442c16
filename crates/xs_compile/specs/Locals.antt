-- The local bindings that a table has.
use Rattle.std.specs.Prelude.{◌≡◌, ℕ, ◌<◌, ◌==◌, ◌&&◌, true, false, List, length, Option, Some}
use Rattle.std.specs.HashMap.{get_by}
use Rattle.std.specs.Str.{bytes_eq}
use Rattle.xs_elements.specs.Nodes.{is_named, own_name}
use Rattle.xs_structure.specs.Bindings.{is_local, shadows}
use Rattle.xs_tree.specs.Record.{Record, at}
use Rattle.xs_tree.specs.Shape.{EndsAt}
use Rattle.xs_compile.specs.declared.slots.Local.{Local as LocalEntry}
use Rattle.xs_compile.specs.declared.slots.Locals.{Locals}
use Rattle.xs_compile.specs.Slots.{slot_of}

-- the entry of a name in an element
abbrev pub entry_in : Locals → (parent : ℕ) → (uri local : List ℕ) → Option LocalEntry
entry_in locals parent uri local = get_by (λ k. parent == k.0 && (bytes_eq uri k.1.0.now && bytes_eq local k.1.1.now)) locals.entries

-- a local binding of a name, which is a child of an element
pub record IsBindingIn (rs : List Record) (parent : ℕ) (uri local : List ℕ) (b : ℕ) : Type 0 where
  pub is_local : is_local rs b ≡ true
  pub inside : (at rs b).parent ≡ Some parent
  pub named : is_named (uri, local) (own_name rs b) ≡ true

-- the entry is that of one of the first so many nodes
pub record IsEntryFor (rs : List Record) (count parent : ℕ) (uri local : List ℕ) (e : LocalEntry) : Type 0 where
  pub node : ℕ
  pub before : node < count
  pub binding : IsBindingIn rs parent uri local node
  pub ends : EndsAt rs node e.«from»
  pub slot : e.slot ≡ slot_of rs node

-- the table has the local bindings among the first so many nodes
pub record AreLocals (rs : List Record) (count : ℕ) (locals : Locals) : Type 0 where
  pub sound : (parent : ℕ) (uri local : List ℕ) (e : LocalEntry) → entry_in locals parent uri local ≡ Some e → IsEntryFor rs count parent uri local e
  pub complete : (parent : ℕ) (uri local : List ℕ) (b : ℕ) → b < count → IsBindingIn rs parent uri local b
      → (e : LocalEntry) × (entry_in locals parent uri local ≡ Some e)

-- no local binding shadows another one
abbrev pub IsApart : List Record → Type 0
IsApart rs = (b : ℕ) → b < length rs → shadows rs b ≡ false
