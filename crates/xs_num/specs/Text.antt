-- How a text spells a number (XPath 1.0, 4.4 `number`, 4.2 `string`), over the text's bytes: each character of a spelling is one byte.
use Rattle.std.specs.Prelude.{ℕ, ◌+◌, ◌-◌, Bool, true, false, not, ◌&&◌, ◌==◌, nat_lt, if◌then◌else◌, List, length, take, drop, Result, Ok, Err, ℤ, pos, neg_ℤ, codes}
use Rattle.std.specs.List.{prefix_len, suffix_len, before_first, after_first, list_all, list_any}
use Rattle.std.specs.Char.{is_ascii_digit}
use Rattle.std.specs.Str.Parse.{digits_value, starts_with_minus}
use Rattle.std.specs.Fmt.{signed_decimal}
use Rattle.xs_text.specs.WhiteSpace.{is_white_space}
use Rattle.xs_num.specs.Number.{bounded}
use Rattle.xs_num.specs.declared.number.Number.{Number}
use Rattle.xs_num.specs.declared.number.Number.TheVariants.{Whole, NaN}
use Rattle.xs_num.specs.declared.number.NumFault.{NumFault}
use Rattle.xs_num.specs.declared.number.NumFault.TheVariants.{Fraction}

-- without the white space (XML 1.0, 2.3) at its front, and at its end
abbrev pub without_leading_space : List ℕ → List ℕ
without_leading_space s = drop (prefix_len is_white_space s) s

abbrev pub without_trailing_space : List ℕ → List ℕ
without_trailing_space s = take (length s - suffix_len is_white_space s) s

abbrev pub is_point : ℕ → Bool
is_point c = c == 46

abbrev pub is_nonzero_digit : ℕ → Bool
is_nonzero_digit c = not (c == 48)

abbrev pub are_digits : List ℕ → Bool
are_digits s = list_all is_ascii_digit s

-- digits before the point and digits after it, not both none (XPath 1.0, 3.7 [30]: `Digits ('.' Digits?)? | '.' Digits`)
abbrev pub is_numeral : List ℕ → List ℕ → Bool
is_numeral whole fraction = are_digits whole && are_digits fraction && nat_lt 0 (length whole + length fraction)

abbrev pub signed : Bool → ℕ → ℤ
signed negative n = if negative then neg_ℤ (pos n) else pos n

-- the number that the digits on both sides of the point spell
unfoldable pub number_from : Bool → List ℕ → List ℕ → Result Number NumFault
number_from negative whole fraction =
    if is_numeral whole fraction then (if list_any is_nonzero_digit fraction then Err Fraction else bounded (signed negative (digits_value 10 whole)))
    else Ok NaN

unfoldable pub number_after_sign : Bool → List ℕ → Result Number NumFault
number_after_sign negative s = number_from negative (before_first is_point s) (after_first is_point s)

unfoldable pub number_within_space : List ℕ → Result Number NumFault
number_within_space s = if starts_with_minus s then number_after_sign true (drop 1 s) else number_after_sign false s

-- the number that a text spells: optional white space, an optional minus sign, a numeral and optional white space; any other text spells NaN
unfoldable pub number_in : List ℕ → Result Number NumFault
number_in s = number_within_space (without_trailing_space (without_leading_space s))

-- the text of a number: `NaN`, or its decimal digits, after a minus sign where it is below 0
abbrev pub text_of : Number → List ℕ
text_of (Whole z) = signed_decimal z
text_of NaN = codes "NaN"
