-- The arithmetic of XPath 1.0, 3.5, on whole numbers: the exact result, or why there is none.
use Rattle.std.specs.Prelude.{if◌then◌else◌, Result, Ok, Err, Option, Some, None, ℤ, pos, neg_ℤ, ◌+ℤ◌, ◌-ℤ◌, ◌*ℤ◌, int_div, int_rem}
use Rattle.std.specs.declared.cmp.Ordering.{Ordering}
use Rattle.std.specs.Ordering.{int_cmp, int_eq}
use Rattle.xs_num.specs.Range.{is_in_range}
use Rattle.xs_num.specs.declared.number.Number.{Number}
use Rattle.xs_num.specs.declared.number.Number.TheVariants.{Whole, NaN}
use Rattle.xs_num.specs.declared.number.NumFault.{NumFault}
use Rattle.xs_num.specs.declared.number.NumFault.TheVariants.{Fraction, Range}

-- a whole result, of any size, is a number where it is in range
abbrev pub bounded : ℤ → Result Number NumFault
bounded z = if is_in_range z then Ok (Whole z) else Err Range

abbrev pub sum_of : Number → Number → Result Number NumFault
sum_of (Whole a) (Whole b) = bounded (a +ℤ b)
sum_of _ _ = Ok NaN

abbrev pub difference_of : Number → Number → Result Number NumFault
difference_of (Whole a) (Whole b) = bounded (a -ℤ b)
difference_of _ _ = Ok NaN

abbrev pub product_of : Number → Number → Result Number NumFault
product_of (Whole a) (Whole b) = bounded (a *ℤ b)
product_of _ _ = Ok NaN

-- a quotient over 0: of 0 NaN, of any other number infinite
abbrev pub over_zero : ℤ → Result Number NumFault
over_zero a = if int_eq a (pos 0) then Ok NaN else Err Range

-- `div`: the exact quotient, which has to be whole
abbrev pub quotient_of : Number → Number → Result Number NumFault
quotient_of (Whole a) (Whole b) =
    if int_eq b (pos 0) then over_zero a
    else (if int_eq (int_rem a b) (pos 0) then Ok (Whole (int_div a b)) else Err Fraction)
quotient_of _ _ = Ok NaN

-- `mod`: the remainder of a truncating division, which has the sign of the dividend. Over 0 it is NaN.
abbrev pub remainder_of : Number → Number → Result Number NumFault
remainder_of (Whole a) (Whole b) = if int_eq b (pos 0) then Ok NaN else Ok (Whole (int_rem a b))
remainder_of _ _ = Ok NaN

abbrev pub negated : Number → Number
negated (Whole a) = Whole (neg_ℤ a)
negated NaN = NaN

-- how two numbers compare: NaN with none, not even itself (XPath 1.0, 3.4)
abbrev pub comparison_of : Number → Number → Option Ordering
comparison_of (Whole a) (Whole b) = Some (int_cmp a b)
comparison_of _ _ = None
