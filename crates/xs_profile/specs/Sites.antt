-- The places of the ticks of a run, in order.
use Rattle.std.specs.Prelude.{◌≡◌, ℕ, List, [], ◌∷◌, length}
use Rattle.xs_trace.specs.Kept.{marks_of}
use Rattle.xs_trace.specs.Mark.{Tick, Put, Say, Stop, Need, Hole, Trace, tick_count}
use Rattle.xs_trace.specs.declared.item.Item.{Item}
use Rattle.xs_trace.specs.declared.item.Site.{Site}

abbrev pub sites_of : {H : Type 0} → Trace H → List Site
sites_of [] = []
sites_of (Tick p ∷ x) = p ∷ sites_of x
sites_of (Put e ∷ x) = sites_of x
sites_of (Say t ∷ x) = sites_of x
sites_of (Stop f p ∷ x) = sites_of x
sites_of (Need g p ∷ x) = sites_of x
sites_of (Hole k ∷ x) = sites_of x

-- those of the ticks that items keep
abbrev pub sites_in : List Item → List Site
sites_in items = sites_of {H = ℕ} (marks_of items)

-- whatever the holes of the trace are
abbrev pub SitesAreThoseOfMarks : Type 0 → Type 0
SitesAreThoseOfMarks H = (items : List Item) → sites_of {H = H} (marks_of items) ≡ sites_in items

-- there are as many as ticks
abbrev pub SitesAreAsManyAsTicks : Type 0 → Type 0
SitesAreAsManyAsTicks H = (x : Trace H) → length (sites_of x) ≡ tick_count x
