-- The search for the tick of a number.
use Rattle.std.specs.Prelude.{◌≡◌, ◌<◌, ◌+◌, ℕ, List, length, Some, Result, Ok, Err}
use Rattle.xs_profile.specs.Counts.{site_at}
use Rattle.xs_trace.specs.declared.item.Site.{Site}

-- The tick of a number is one of these, at this place, or it comes after all of them, with this number from there on.
abbrev pub Passes : (n : ℕ) → List Site → Result ℕ Site → Type 0
Passes n sites (Ok left) = (0 < left) × (n ≡ length sites + left)
Passes n sites (Err site) = site_at n sites ≡ Some site
