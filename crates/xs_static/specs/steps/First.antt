-- The first place, declaration by declaration.
use Rattle.std.specs.Prelude.{◌≡◌, Bool, true, false, List, Option, Some, None}
use Rattle.xs_static.specs.declared.circles.Place.{Place}
use Rattle.xs_static.specs.Circles.{Declared, IsCircular, is_at_most}

abbrev pub is_past : Option Place → Place → Bool
is_past None place = false
is_past (Some first) place = is_at_most first place

-- One declaration more: it is past the first place, or it is not circular, or its place is the first one now.
pub data Takes (ds : List Declared) (d : Declared) (before : Option Place) : Option Place → Type 0 where
  past : {now : Option Place} → now ≡ before → is_past before d.place ≡ true → Takes ds d before now
  straight : {now : Option Place} → now ≡ before → (IsCircular ds d → ⊥) → Takes ds d before now
  circular : {now : Option Place} → now ≡ Some d.place → is_past before d.place ≡ false → IsCircular ds d → Takes ds d before now
