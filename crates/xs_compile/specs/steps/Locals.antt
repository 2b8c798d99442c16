-- Local bindings, one by one, and how many of them are visible.
use Rattle.std.specs.Prelude.{◌≡◌, ℕ, ◌<◌, ◌&&◌, ◌||◌, nat_lt, Bool, List, filter, get_or, length, Option, Some, None, if◌then◌else◌}
use Rattle.std.specs.List.{range_with_len}
use Rattle.std.specs.Option.{option_and_then}
use Rattle.xs_structure.specs.Bindings.{is_local, reaches}
use Rattle.xs_tree.specs.Record.{Record, at, is_place}
use Rattle.xs_xpath.specs.declared.name.Slot.{Slot}
use Rattle.xs_xpath.specs.declared.name.Slot.TheVariants.{Local}
use Rattle.xs_compile.specs.declared.slots.Local.{Local as LocalEntry}
use Rattle.xs_compile.specs.declared.slots.Locals.{Locals}
use Rattle.xs_compile.specs.Locals.{entry_in}

-- a local binding is visible from behind its element on
abbrev pub entry_slot : ℕ → LocalEntry → Option Slot
entry_slot place entry = if nat_lt place entry.«from» then None else Some (Local entry.slot)

-- the slot of a name in an element where a place is behind it
abbrev pub slot_among : Locals → (parent place : ℕ) → (uri local : List ℕ) → Option Slot
slot_among locals parent place uri local = option_and_then (entry_slot place) (entry_in locals parent uri local)

-- ---- how many local bindings are visible
-- a local binding that is visible to what comes inside a node
abbrev pub is_open : List Record → (inside binding : ℕ) → Bool
is_open rs inside b = is_local rs b && (is_place inside (at rs b).parent || reaches rs b inside)

-- how many of the first so many nodes are
abbrev pub opened : List Record → (inside count : ℕ) → ℕ
opened rs inside count = length (filter (is_open rs inside) (range_with_len 0 count))

-- the table has that number for each of the first so many nodes
pub record AreCounts (rs : List Record) (count : ℕ) (counts : List ℕ) : Type 0 where
  pub size : length counts ≡ count
  pub each : (n : ℕ) → n < count → get_or counts n 0 ≡ opened rs n count
