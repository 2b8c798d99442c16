-- The ticks of parts, by those of their places.
use Rattle.std.specs.Prelude.{ℕ, ◌+◌, Bool, false, List, [], ◌∷◌, Option, Some, None, cond}
use Rattle.xs_profile.specs.Counts.{is_site, part_of}
use Rattle.xs_profile.specs.declared.count.Count.{Count}
use Rattle.xs_trace.specs.declared.item.Site.{Site}

-- whether an optional place is this one
abbrev pub is_this : Site → Option Site → Bool
is_this s None = false
is_this s (Some t) = is_site s t

-- how many ticks the places of counts have together that a test holds of
abbrev pub ticks_where : (Site → Bool) → List Count → ℕ
ticks_where p [] = 0
ticks_where p (c ∷ cs) = cond (p c.site) c.ticks 0 + ticks_where p cs

-- how many those in the part with this start have
abbrev pub part_ticks : (starts : List Site) → List Count → (start : Site) → ℕ
part_ticks starts cs start = ticks_where (λ s. is_this start (part_of starts s)) cs
