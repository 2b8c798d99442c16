-- How large a number may be. An IEEE 754 double (XPath 1.0, 3.5) holds each whole number of this magnitude, and no two of them are one double.
use Rattle.std.specs.Prelude.{ℕ, Bool, ◌&&◌, ℤ, pos, neg_ℤ, int_le, ◌≤ℤ◌, ⊤}
use Rattle.xs_num.specs.declared.number.Number.{Number}
use Rattle.xs_num.specs.declared.number.Number.TheVariants.{Whole, NaN}

-- 2^53 - 1
abbrev pub greatest : ℕ
greatest = 9007199254740991

-- of a magnitude of at most n
abbrev pub IsWithin : ℕ → ℤ → Type 0
IsWithin n z = (neg_ℤ (pos n) ≤ℤ z) × (z ≤ℤ pos n)

abbrev pub IsInRange : ℤ → Type 0
IsInRange z = IsWithin greatest z

-- the same, as a test
abbrev pub is_in_range : ℤ → Bool
is_in_range z = int_le (neg_ℤ (pos greatest)) z && int_le z (pos greatest)

-- a number of XPath: a whole number in range, or NaN
abbrev pub IsNumber : Number → Type 0
IsNumber (Whole z) = IsInRange z
IsNumber NaN = ⊤
