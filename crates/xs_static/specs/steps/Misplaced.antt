-- The nodes at which an element has faults of places, its own and those of its children.
use Rattle.std.specs.Prelude.{ℕ, ◌&&◌, ◌||◌, not, Bool, List, [], ◌∷◌, ◌++◌, map, filter, get_or, if◌then◌else◌}
use Rattle.xs_elements.specs.declared.tags.Tag.{Tag}
use Rattle.xs_elements.specs.Tags.{tag_of}
use Rattle.xs_static.specs.declared.fault.StaticFault.{StaticFault}
use Rattle.xs_static.specs.Placing.{has_misplaced_text, lacks_branch, stands_in}
use Rattle.xs_structure.specs.Parts.{is_content}
use Rattle.xs_static.specs.steps.Least.{fault_of}
use Rattle.xs_tree.specs.Kinds.{is_element_kind}
use Rattle.xs_tree.specs.Record.{Record, at, children}

-- of some children those that are content, by their kinds
abbrev pub tags_among : List Record → (inside : ℕ) → List ℕ → List Tag
tags_among rs inside ks = map (tag_of rs) (filter (is_content rs inside) ks)

-- a child is an element that may not stand there
abbrev pub is_refused : List Record → (inside : ℕ) → ℕ → Bool
is_refused rs inside k = is_element_kind (at rs k).kind && not (stands_in rs inside k)

abbrev pub refused : List Record → ℕ → List ℕ
refused rs n = filter (is_refused rs n) (children rs n)

-- and the element itself, where it has text that it may not have, or lacks a branch
abbrev pub misplaced_nodes : List Record → ℕ → List ℕ
misplaced_nodes rs n = refused rs n ++ (if has_misplaced_text rs n || lacks_branch rs n then n ∷ [] else [])

-- its faults of places
abbrev pub misplaced_fault : (number : ℕ) → (lines : List ℕ) → ℕ → StaticFault
misplaced_fault number lines n = fault_of number (get_or lines n 0) 37

abbrev pub misplaced_faults : (number : ℕ) → List Record → (lines : List ℕ) → ℕ → List StaticFault
misplaced_faults number rs lines n = map (misplaced_fault number lines) (misplaced_nodes rs n)
