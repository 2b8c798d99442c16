-- Digits (XPath 1.0, 3.7).
use Rattle.std.specs.Prelude.{ℕ, ◌&&◌, nat_le, Bool}

-- [31]
abbrev pub is_digit : ℕ → Bool
is_digit b = nat_le 48 b && nat_le b 57
