-- Ticks by module and line, and the counts that are made of them.
use Rattle.std.specs.Prelude.{◌≡◌, ◌<◌, ℕ, zero, suc, true, List, [], ◌∷◌, cond, get_or, map}
use Rattle.std.specs.Global.{Vec}
use Rattle.xs_profile.specs.Counts.{is_before, is_site}
use Rattle.xs_profile.specs.declared.count.Count.{Count}
use Rattle.xs_trace.specs.declared.item.Site.{Site}

-- the lines of a module; none after the last module
abbrev pub lines_of : List (Vec ℕ) → ℕ → List ℕ
lines_of [] n = []
lines_of (lines ∷ modules) zero = lines.items
lines_of (lines ∷ modules) (suc n) = lines_of modules n

-- how many ticks a table has at a place; none after its last lines
abbrev pub table_ticks : List (Vec ℕ) → Site → ℕ
table_ticks modules s = get_or (lines_of modules s.«module») s.line 0

-- how many ticks counts have at a place
abbrev pub ticks_of : List Count → Site → ℕ
ticks_of [] s = 0
ticks_of (c ∷ cs) s = cond (is_site s c.site) c.ticks (ticks_of cs s)

-- each of some counts is at a later place
abbrev pub AreAfter : Site → List Count → Type 0
AreAfter s [] = Unit {0}
AreAfter s (c ∷ cs) = (is_before s c.site ≡ true) × AreAfter s cs

-- counts in order, each place once, and each with a tick
abbrev pub AreInOrder : List Count → Type 0
AreInOrder [] = Unit {0}
AreInOrder (c ∷ cs) = (0 < c.ticks) × (AreAfter c.site cs × AreInOrder cs)

-- Counts in order that have at each place so many ticks. There is one such list for each number of ticks at each place.
pub record AreCounts (at : Site → ℕ) (cs : List Count) : Type 0 where
  pub in_order : AreInOrder cs
  pub each : (s : Site) → ticks_of cs s ≡ at s

-- counts before a place
abbrev pub AreBefore : List Count → Site → Type 0
AreBefore [] s = Unit {0}
AreBefore (c ∷ cs) s = (is_before c.site s ≡ true) × AreBefore cs s

-- the places of counts
abbrev pub sites_among : List Count → List Site
sites_among cs = map (λ c. c.site) cs
