-- Slots of local bindings.
use Rattle.std.specs.Prelude.{ℕ, ◌+◌, List, [], ◌∷◌}
use Rattle.xs_sheet.specs.declared.body.Body.{Body, out-Body}
use Rattle.xs_sheet.specs.declared.body.Instr.{Instr}
use Rattle.xs_sheet.specs.declared.body.InstrKind.{InstrKind, Variable'}

-- a variable takes a slot
abbrev pub slots_taken : InstrKind → ℕ
slots_taken (Variable' site name content) = 1
slots_taken _ = 0

abbrev pub slots_in : List Instr → ℕ
slots_in [] = 0
slots_in (i ∷ is) = slots_taken i.kind + slots_in is

-- how many variables stand directly in a body
abbrev pub slot_count : Body → ℕ
slot_count body = slots_in (out-Body body).instrs
