-- References to variables, bound to slots (XSLT 1.0, 11).
use Rattle.std.specs.Prelude.{ℕ, ◌&&◌, if◌then◌else◌, List, [], ◌∷◌, Option, Some, None}
use Rattle.std.specs.HashMap.{get_by}
use Rattle.std.specs.Str.{bytes_eq}
use Rattle.xs_trace.specs.Label.{Label}
use Rattle.xs_xpath.specs.declared.bind.Slots.{Slots}
use Rattle.xs_xpath.specs.declared.name.Slot.{Slot}
use Rattle.xs_xpath.specs.Names.{or_else}
use Rattle.xs_xpath.specs.Tree.{Tree, Trees, number, literal, variable, call, negative, chain, group, here, root, step, descend, filter, path, no_trees, first_tree}

-- the slot of the last entry with a name, by its URI and its local part
abbrev pub slot_in : List (Label × Slot) → List ℕ → List ℕ → Option Slot
slot_in [] uri local = None
slot_in (entry ∷ entries) uri local =
    or_else (slot_in entries uri local) (if bytes_eq entry.0.uri uri && bytes_eq entry.0.local local then Some entry.1 else None)

-- the slot that a table has for a name
abbrev pub slots_of : Slots → List ℕ → List ℕ → Option Slot
slots_of s uri local = get_by (λ k. bytes_eq uri k.0.now && bytes_eq local k.1.now) s.slots

-- an expression whose variables have the slots of their names, if these have one; all else stays
abbrev mutual
  pub bound : (List ℕ → List ℕ → Option Slot) → Tree → Tree
  bound slots (number n) = number n
  bound slots (literal text) = literal text
  bound slots (variable uri local slot) = variable uri local (slots uri local)
  bound slots (call name es) = call name (bounds slots es)
  bound slots (negative m e) = negative m (bound slots e)
  bound slots (chain ops es) = chain ops (bounds slots es)
  bound slots (group e) = group (bound slots e)
  bound slots here = here
  bound slots root = root
  bound slots (step axis which es) = step axis which (bounds slots es)
  bound slots descend = descend
  bound slots (filter e es) = filter (bound slots e) (bounds slots es)
  bound slots (path e es) = path (bound slots e) (bounds slots es)

  pub bounds : (List ℕ → List ℕ → Option Slot) → Trees → Trees
  bounds slots no_trees = no_trees
  bounds slots (first_tree e es) = first_tree (bound slots e) (bounds slots es)
