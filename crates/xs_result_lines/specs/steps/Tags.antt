-- The lines of a start tag, one attribute after another.
use Rattle.std.specs.Prelude.{◌≡◌, List, ◌++◌}
use Rattle.xs_pyx.specs.declared.line.Line.{Line}
use Rattle.xs_trace.specs.Label.{Label}
use Rattle.xs_trace.specs.declared.event.Event.{Event}
use Rattle.xs_result_lines.specs.Bindings.{Attribute, Binding, with_attributes}
use Rattle.xs_result_lines.specs.Lines.{OpenElement, attribute_lines, declared_in, tag_lines}
use Rattle.xs_result_lines.specs.declared.tag.BoundTag.{BoundTag}
use Rattle.xs_result_lines.specs.declared.tag.StartTag.{StartTag}
use Rattle.xs_result_lines.specs.steps.Open.{bindings_of}

-- what it has in the end, where these attributes follow
abbrev pub comes_to : BoundTag → List Attribute → List Binding × List Line
comes_to t more = (with_attributes t.bindings more, t.lines.items ++ attribute_lines t.bindings more)

-- a start tag is that of this element, in these open elements
pub record IsTag (tag : StartTag) (around : List OpenElement) (name : Label) (es : List Event) : Type 0 where
  pub declared : bindings_of tag.declared.items ≡ declared_in around name es
  pub lines : tag.lines.items ≡ tag_lines around name es
