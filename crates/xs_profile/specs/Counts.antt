-- How many ticks are at each place, and in each part, of the places of all ticks.
use Rattle.std.specs.Prelude.{◌≡◌, ℕ, zero, suc, ◌==◌, ◌&&◌, nat_lt, nat_le, Bool, List, [], ◌∷◌, ◌++◌, filter, length, map}
use Rattle.std.specs.Prelude.{Option, Some, None, slice_get, if◌then◌else◌}
use Rattle.std.specs.List.{sum_by}
use Rattle.xs_profile.specs.declared.count.Count.{Count}
use Rattle.xs_trace.specs.declared.item.Site.{Site}

-- whether two places are one
abbrev pub is_site : Site → Site → Bool
is_site s t = (s.«module» == t.«module») && (s.line == t.line)

-- whether a place comes before another: by their modules, in one module by their lines
abbrev pub is_before : Site → Site → Bool
is_before s t = if s.«module» == t.«module» then nat_lt s.line t.line else nat_lt s.«module» t.«module»

-- how many ticks are at a place
abbrev pub ticks_at : List Site → Site → ℕ
ticks_at sites s = length (filter (is_site s) sites)

-- a place put among others that are in order; where it is there, it is not put again
abbrev pub placed : Site → List Site → List Site
placed s [] = s ∷ []
placed s (t ∷ ts) = if is_before s t then s ∷ t ∷ ts else (if is_before t s then t ∷ placed s ts else t ∷ ts)

-- places in order, each once
abbrev pub ordered : List Site → List Site
ordered [] = []
ordered (s ∷ sites) = placed s (ordered sites)

abbrev pub count_at : List Site → Site → Count
count_at sites s = record { site = s; ticks = ticks_at sites s }

-- each place that has a tick, with how many it has, in order
abbrev pub by_place : List Site → List Count
by_place sites = map (count_at sites) (ordered sites)

-- they have all ticks together
abbrev pub CountsHaveAllTicks : Type 0
CountsHaveAllTicks = (sites : List Site) → sum_by (λ c. c.ticks) (by_place sites) ≡ length sites

-- whether a place is in the module of a start, and not before it
abbrev pub is_from : Site → Site → Bool
is_from start s = (start.«module» == s.«module») && nat_le start.line s.line

abbrev pub or_else : Option Site → Option Site → Option Site
or_else (Some s) other = Some s
or_else None other = other

-- The start of the part that a place is in: of the starts, which are in order, the last from which it is; none where there is no such.
abbrev pub part_of : (starts : List Site) → Site → Option Site
part_of [] s = None
part_of (start ∷ starts) s = or_else (part_of starts s) (if is_from start s then Some start else None)

abbrev pub site_list : Option Site → List Site
site_list None = []
site_list (Some s) = s ∷ []

-- of each tick the start of its part; nothing of one that is in none
abbrev pub part_sites : (starts : List Site) → List Site → List Site
part_sites starts [] = []
part_sites starts (s ∷ sites) = site_list (part_of starts s) ++ part_sites starts sites

-- each start whose part has a tick, with how many it has, in order
abbrev pub by_part : (starts : List Site) → List Site → List Count
by_part starts sites = by_place (part_sites (ordered starts) sites)

-- the place of the tick of this number, from 1 on; none where there is no such tick
abbrev pub site_at : ℕ → List Site → Option Site
site_at zero sites = None
site_at (suc n) sites = slice_get sites n

-- What a profile is of: the places of all ticks in order, and the starts of the parts.
pub record Profiled : Type 0 where
  pub sites : List Site
  pub starts : List Site
