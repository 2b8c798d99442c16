-- What follows of a sound stylesheet.
use Rattle.std.specs.Prelude.{◌+◌, ◌<◌, ◌^◌, length}
use Rattle.std.specs.List.{All}
use Rattle.xs_sheet.specs.declared.declarations.Template.{Template}
use Rattle.xs_sheet.specs.declared.sheet.Sheet.{Sheet}
use Rattle.xs_sheet.specs.Slots.{slot_count}
use Rattle.xs_sheet.specs.Sound.{IsSound}

-- the params of each template, and the variables that stand directly in its body, have slots below 2^32
abbrev pub TemplatesHaveSlots : Type 0
TemplatesHaveSlots = (s : Sheet) → IsSound s → All (λ (t : Template). length t.params + slot_count t.body < 2 ^ 32) s.templates
