use Rattle.std.proofs.Common.{refl}
use Rattle.std.specs.Fmt.{digits}
use Rattle.xs_result_lines.specs.Bindings.{attribute_prefix, attributes_in, bindings, bindings_before, declared, new_from, prefix_for, spaces_in, uri_in}
use Rattle.xs_result_lines.specs.Bindings.{with_attribute, with_attributes, with_spaces}
use Rattle.xs_result_lines.specs.Lines.{attribute_lines, lines}
use Rattle.xs_result_lines.proofs.laws.worked_examples.Goals as goal

pub returns : goal.returns
unfolding attribute_lines attribute_prefix attributes_in bindings bindings_before declared digits lines new_from prefix_for spaces_in uri_in with_attribute
    with_attributes with_spaces
returns c = record { clash = refl; default = refl }
