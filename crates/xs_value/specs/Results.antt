-- What a call answers of what is expected.
use Rattle.std.specs.Prelude.{◌≡◌, Result, Ok, Err}
use Rattle.xs_num.specs.declared.number.NumFault.{NumFault}
use Rattle.xs_num.specs.declared.number.NumFault.TheVariants as expected
use Rattle.xs_value.specs.declared.value.ValueFault.{ValueFault}
use Rattle.xs_value.specs.declared.value.ValueFault.TheVariants.{Fraction, Range, NoMemory}

-- the fault of a number as one of a value
abbrev pub as_value_fault : NumFault → ValueFault
as_value_fault expected.Fraction = Fraction
as_value_fault expected.Range = Range

-- the result or the fault that is expected, or out of memory
abbrev pub Answers : {A : Type 0} → Result A NumFault → Result A ValueFault → Type 0
Answers of (Ok x) = of ≡ Ok x
Answers of (Err Fraction) = of ≡ Err expected.Fraction
Answers of (Err Range) = of ≡ Err expected.Range
Answers of (Err NoMemory) = Unit {0}
