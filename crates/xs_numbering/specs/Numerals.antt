-- How one number is written: by letters, as a Roman numeral, or in decimal (XSLT 1.0, 7.7.1).
use Rattle.std.specs.Prelude.{ℕ, zero, suc, ◌+◌, ◌-◌, ◌/◌, ◌%◌, ◌==◌, Bool, false, List, [], ◌∷◌, ◌++◌, length, replicate, reverse, nat_lt, Option, None, Some, if◌then◌else◌}
use Rattle.std.specs.Fmt.{decimal}
use Rattle.xs_numbering.specs.declared.numerals.Case.{Case}
use Rattle.xs_numbering.specs.declared.numerals.Case.TheVariants.{Lower, Upper}
use Rattle.xs_numbering.specs.declared.numerals.Style.{Style}
use Rattle.xs_numbering.specs.declared.numerals.Style.TheVariants.{Alphabetic, Roman, Decimal}

-- `a` and `A`
abbrev pub first_letter : Case → ℕ
first_letter Lower = 97
first_letter Upper = 65

-- The sequence A, B, .., Z, AA, AB, ..: the text after a text, both with their last letter first.
abbrev pub next : (first : ℕ) → List ℕ → List ℕ
next first [] = first ∷ []
next first (c ∷ cs) = if c == first + 25 then first ∷ next first cs else (c + 1) ∷ cs

-- the text of a number in it, with its last letter first; that of 0 is empty
unfoldable pub sequence : (first : ℕ) → ℕ → List ℕ
sequence first zero = []
sequence first (suc n) = next first (sequence first n)

abbrev pub alphabetic : Case → ℕ → List ℕ
alphabetic case n = reverse (sequence (first_letter case) n)

-- the letters of Roman numerals
pub record Letters : Type 0 where
  pub one : ℕ
  pub five : ℕ
  pub ten : ℕ
  pub fifty : ℕ
  pub hundred : ℕ
  pub five_hundred : ℕ
  pub thousand : ℕ

-- `i`, `v`, `x`, `l`, `c`, `d` and `m`
abbrev pub letters : Case → Letters
letters Lower = record { one = 105; five = 118; ten = 120; fifty = 108; hundred = 99; five_hundred = 100; thousand = 109 }
letters Upper = record { one = 73; five = 86; ten = 88; fifty = 76; hundred = 67; five_hundred = 68; thousand = 77 }

-- a digit in Roman letters, by those for one, five and ten of its place
abbrev pub roman_digit : (one five ten : ℕ) → ℕ → List ℕ
roman_digit one five ten d =
    if d == 9 then one ∷ ten ∷ []
    else if d == 4 then one ∷ five ∷ [] else if nat_lt d 5 then replicate d one else five ∷ replicate (d - 5) one

-- a number below 4000 as a Roman numeral: its thousands, hundreds, tens and ones
unfoldable pub roman : Letters → ℕ → List ℕ
roman l n =
    replicate (n / 1000) l.thousand
    ++ (roman_digit l.hundred l.five_hundred l.thousand (n / 100 % 10)
    ++ (roman_digit l.ten l.fifty l.hundred (n / 10 % 10) ++ roman_digit l.one l.five l.ten (n % 10)))

-- whether a group of so many digits ends before so many that are left; a size of 0 makes no groups
abbrev pub ends_group : (size left : ℕ) → Bool
ends_group size left = if size == 0 then false else if left == 0 then false else left % size == 0

-- a digit, and a separator where its group ends
abbrev pub digit_text : (separator : List ℕ) → (ends : Bool) → ℕ → List ℕ
digit_text separator ends d = if ends then d ∷ separator else d ∷ []

-- digits with a separator between groups of so many, counted from the last digit
unfoldable pub grouped : (separator : List ℕ) → (size : ℕ) → List ℕ → List ℕ
grouped separator size [] = []
grouped separator size (d ∷ ds) = digit_text separator (ends_group size (length ds)) d ++ grouped separator size ds

abbrev pub grouped_by : Option (List ℕ × ℕ) → List ℕ → List ℕ
grouped_by None digits = digits
grouped_by (Some group) digits = grouped group.0 group.1 digits

-- at least so many digits, with zeros before those of the number
abbrev pub padded : (width : ℕ) → ℕ → List ℕ
padded width n = replicate (width - length (decimal n)) 48 ++ decimal n

abbrev pub decimal_text : Option (List ℕ × ℕ) → (width : ℕ) → ℕ → List ℕ
decimal_text group width n = grouped_by group (padded width n)

-- A number above 0 in a style, under a separator and a size of groups, if there are both. Roman numerals end with 3999: larger numbers
-- are written in decimal, without groups (this project's own).
abbrev pub styled : Option (List ℕ × ℕ) → Style → ℕ → List ℕ
styled group (Alphabetic case) n = alphabetic case n
styled group (Roman case) n = if nat_lt n 4000 then roman (letters case) n else decimal n
styled group (Decimal width) n = decimal_text group width n
