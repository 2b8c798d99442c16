-- Quotients that are rounded, as by `floor`, `ceiling` and `round` (XPath 1.0, 4.4). The exact quotient is rounded, so it need not
-- be whole itself.
use Rattle.std.specs.Prelude.{if◌then◌else◌, Result, Ok, Err, ℤ, pos, neg_ℤ, ◌+ℤ◌, ◌*ℤ◌, int_lt}
use Rattle.std.specs.Int.{int_div_euclid}
use Rattle.std.specs.Ordering.{int_eq}
use Rattle.xs_num.specs.Number.{bounded, negated, over_zero}
use Rattle.xs_num.specs.declared.number.Number.{Number}
use Rattle.xs_num.specs.declared.number.Number.TheVariants.{Whole, NaN}
use Rattle.xs_num.specs.declared.number.NumFault.{NumFault}

-- The greatest whole number that is not above a / b. Over a positive divisor it is the quotient whose remainder is not below 0.
unfoldable pub floor_of : ℤ → ℤ → ℤ
floor_of a b = if int_lt b (pos 0) then int_div_euclid (neg_ℤ a) (neg_ℤ b) else int_div_euclid a b

-- The nearest to a / b, and of two the greater: the greatest that is not above a / b + 1 / 2.
abbrev pub nearest_of : ℤ → ℤ → ℤ
nearest_of a b = floor_of (pos 2 *ℤ a +ℤ b) (pos 2 *ℤ b)

-- a quotient by such a way to round it
abbrev pub rounded_by : (ℤ → ℤ → ℤ) → Number → Number → Result Number NumFault
rounded_by round (Whole a) (Whole b) = if int_eq b (pos 0) then over_zero a else bounded (round a b)
rounded_by round _ _ = Ok NaN

abbrev pub floored_quotient : Number → Number → Result Number NumFault
floored_quotient = rounded_by floor_of

-- the least that is not below it: of the other sign, the greatest that is not above the quotient of the other sign
abbrev pub with_other_sign : Result Number NumFault → Result Number NumFault
with_other_sign (Ok n) = Ok (negated n)
with_other_sign (Err fault) = Err fault

abbrev pub ceiled_quotient : Number → Number → Result Number NumFault
ceiled_quotient a b = with_other_sign (floored_quotient (negated a) b)

abbrev pub nearest_quotient : Number → Number → Result Number NumFault
nearest_quotient = rounded_by nearest_of
