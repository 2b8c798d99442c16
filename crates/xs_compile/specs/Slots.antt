-- The slots of variables (XSLT 1.0, 11.5).
use Rattle.std.specs.Prelude.{ℕ, ◌&&◌, Bool, List, length, filter, find, Option, option_map}
use Rattle.std.specs.Option.{option_or}
use Rattle.xs_compile.specs.Counted.{global_number}
use Rattle.xs_elements.specs.Nodes.{Name, is_named, own_name}
use Rattle.xs_modules.specs.Numbering.{ModuleData}
use Rattle.xs_structure.specs.Bindings.{is_local, reaches}
use Rattle.xs_structure.specs.Modules.{Place, records_at}
use Rattle.xs_tree.specs.Record.{Record, places}
use Rattle.xs_xpath.specs.declared.name.Slot.{Slot}
use Rattle.xs_xpath.specs.declared.name.Slot.TheVariants.{Global, Local}

-- the local bindings that are visible at a node
abbrev pub is_visible : List Record → ℕ → (binding : ℕ) → Bool
is_visible rs n b = is_local rs b && reaches rs b n

abbrev pub visible_at : List Record → ℕ → List ℕ
visible_at rs n = filter (is_visible rs n) (places rs)

-- The slot of a local binding is the number of those that are visible where it stands: the parameters of a template in order, and
-- then the variables of the open bodies in order.
abbrev pub slot_of : List Record → (binding : ℕ) → ℕ
slot_of rs b = length (visible_at rs b)

abbrev pub local_slot : List Record → ℕ → Name → Option Slot
local_slot rs n name = option_map (λ b. Local (slot_of rs b)) (find (λ b. is_named name (own_name rs b)) (visible_at rs n))

abbrev pub global_slot : List ModuleData → Name → Option Slot
global_slot ms name = option_map Global (global_number ms name)

-- the slot of the binding of a variable that is visible at a place: a local one, else the global one
abbrev pub slot_at : List ModuleData → Place → (uri local : List ℕ) → Option Slot
slot_at ms p uri local = option_or (local_slot (records_at ms p.0) p.1 (uri, local)) (global_slot ms (uri, local))
