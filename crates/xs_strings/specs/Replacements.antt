-- What replaces characters, as a table has it.
use Rattle.std.specs.Prelude.{◌≡◌, ℕ, ◌==◌, nat_eq, Option, Some, None, if◌then◌else◌}
use Rattle.std.specs.HashMap.{HashMap, get}
use Rattle.xs_strings.specs.declared.replacements.Replacements.{Replacements}
use Rattle.xs_strings.specs.Translation.{replacement_at}

-- what the table has for a character
abbrev pub replaced_by : Replacements → ℕ → Option ℕ
replaced_by table c = replacement_at table.partners.items c (get nat_eq table.places c)

-- the first of two that there is
abbrev pub first_of_both : Option ℕ → Option ℕ → Option ℕ
first_of_both None other = other
first_of_both (Some place) other = Some place

-- a character has a place in the new map where it has one in the old one, or is the one that was added
abbrev pub IsPlaceAdded : {S : Type 0} → HashMap ℕ ℕ S → HashMap ℕ ℕ S → ℕ → ℕ → Type 0
IsPlaceAdded old new character place =
    (c : ℕ) → get nat_eq new c ≡ first_of_both (get nat_eq old c) (if character == c then Some place else None)
