-- A total of ticks that several runs share.
use Rattle.std.specs.Prelude.{ℕ, nat_lt, Option, Some, None, if◌then◌else◌}

-- a total, where it is above the most
abbrev pub over : ℕ → ℕ → Option ℕ
over m t = if nat_lt m t then Some t else None
