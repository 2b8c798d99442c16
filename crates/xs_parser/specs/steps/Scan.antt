-- The numbers of arguments, as the code finds them: from the right, by what is known of later lexemes.
use Rattle.std.specs.Prelude.{ℕ, suc, Bool, if◌then◌else◌, List, [], ◌∷◌, Option, Some}
use Rattle.xs_parser.specs.declared.token.Placed.{Placed}
use Rattle.xs_parser.specs.Faults.{closes, commas_by, first_count, is_wrong}

pub record Scan : Type 0 where
  pub counts : List ℕ
  pub ends : Bool
  pub found : Option ℕ

abbrev pub scan : List ℕ → Bool → Option ℕ → Scan
scan counts ends found = record { counts = counts; ends = ends; found = found }

abbrev pub arguments_by : List ℕ → Bool → ℕ
arguments_by counts ends = if ends then 0 else suc (first_count counts)

abbrev pub scanned_by : Placed → Scan → Scan
scanned_by p s = scan (commas_by p.lexeme s.counts) (closes p.lexeme) (if is_wrong p.lexeme (arguments_by s.counts s.ends) then Some p.at else s.found)

abbrev pub scanned : List Placed → Scan → Scan
scanned [] s = s
scanned (p ∷ ps) s = scanned_by p (scanned ps s)
