-- The faults of a line by their numbers.
use Rattle.std.specs.Prelude.{ℕ}
use Rattle.xs_pyx.specs.declared.fault.Fault.{Fault}
use Rattle.xs_pyx.specs.declared.fault.Fault.TheVariants.{BadLine, BadEscape, BadUtf8, NoFinalLineFeed}

abbrev pub number_of : Fault → ℕ
number_of BadLine = 1
number_of BadEscape = 2
number_of BadUtf8 = 3
number_of NoFinalLineFeed = 4
