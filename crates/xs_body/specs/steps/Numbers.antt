-- What the code's parts of a number represent.
use Rattle.xs_body_spec.specs.Numbers.{Formatting, Numbered, counted, given_number}
use Rattle.xs_body.specs.declared.numbers.Formatting as code_formatting
use Rattle.xs_body.specs.declared.numbers.Numbered as code_numbered
use Rattle.xs_body.specs.declared.numbers.Numbered.TheVariants as numbered

abbrev pub numbered_of : code_numbered.Numbered → Numbered
numbered_of (numbered.Value n) = given_number n
numbered_of (numbered.Counted list) = counted list.items

abbrev pub formatting_of : code_formatting.Formatting → Formatting
formatting_of f = record { format = f.format; group = f.group }
