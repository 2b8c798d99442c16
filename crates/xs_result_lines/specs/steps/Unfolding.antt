-- Names of several definitions that a proof opens at once.
use Rattle.xs_result_lines.specs.Bindings.{attribute_prefix, attributes_in, bindings_before, prefix_for, spaces_in, uri_in}
use Rattle.xs_result_lines.specs.Bindings.{with_attribute, with_attributes, with_spaces}
use Rattle.xs_result_lines.specs.Lines.{attribute_lines, bytes_of, lines, open_after}

-- the lines of one event after another
unfoldable pub event_by_event : Unit {0}
unfolding bytes_of lines open_after
event_by_event = tt

-- the lines of one attribute after another, and their bindings
unfoldable pub attribute_by_attribute : Unit {0}
unfolding attributes_in with_attributes attribute_lines
attribute_by_attribute = tt

-- the bindings of one event of a start tag after another
unfoldable pub space_by_space : Unit {0}
unfolding bindings_before spaces_in with_spaces uri_in prefix_for
space_by_space = tt

-- the binding of an attribute
unfoldable pub one_attribute : Unit {0}
unfolding attribute_prefix with_attribute
one_attribute = tt
