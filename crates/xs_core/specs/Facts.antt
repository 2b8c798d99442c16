-- What a list of facts says of each place.
use Rattle.std.specs.Prelude.{ℕ, ◌<◌, ◌^◌, List, [], ◌∷◌, Option, Some, None, if◌then◌else◌}
use Rattle.std.specs.Str.{bytes_eq}
use Rattle.xs_core.specs.declared.piece.PieceFacts.{PieceFacts}
use Rattle.xs_core.specs.Machine.{Place, Facts}
use Rattle.xs_core.specs.Good.{total}

-- the facts that are listed for a place; the first, if there are several
abbrev pub find_facts : List PieceFacts → Place → Option PieceFacts
find_facts [] p = None
find_facts (x ∷ xs) p = if bytes_eq x.place p then Some x else find_facts xs p

-- the ticks of the facts that were found
abbrev pub ticks_in : Option PieceFacts → ℕ
ticks_in None = 0
ticks_in (Some x) = x.ticks

-- the holes of the facts that were found
abbrev pub holes_in : Option PieceFacts → ℕ
holes_in None = 0
holes_in (Some x) = x.holes

-- a place for which none are listed has no ticks and no holes
abbrev pub facts_of : List PieceFacts → Facts
facts_of xs = record { ticks = λ p. ticks_in (find_facts xs p); holes = λ p. holes_in (find_facts xs p) }

-- all their ticks together are below 2^63, so their sum does not wrap
abbrev pub AreFew : List PieceFacts → Type 0
AreFew xs = total (λ x. x.ticks) xs < 2 ^ 63
