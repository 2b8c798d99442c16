-- The values that are passed, as a list.
use Rattle.std.specs.Prelude.{List, []}
use Rattle.std.specs.Arc.{arc_value}
use Rattle.xs_value.specs.declared.value.Value.{Value}
use Rattle.xs_body.specs.declared.passed.PassedValues.{PassedValues}
use Rattle.xs_body.specs.declared.passed.PassedValues.TheVariants as passed

abbrev pub values_of : PassedValues → List Value
values_of passed.None = []
values_of (passed.Own values) = values.items
values_of (passed.Shared values) = (arc_value values).items
