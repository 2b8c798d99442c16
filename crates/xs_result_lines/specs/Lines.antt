-- The lines that a result is written as.
use Rattle.std.specs.Prelude.{ℕ, List, [], ◌∷◌, ◌++◌, if◌then◌else◌, codes, map}
use Rattle.std.specs.List.{flat_map}
use Rattle.xs_pyx.specs.declared.line.Line.{Line}
use Rattle.xs_pyx.specs.declared.line.Line.TheVariants as line
use Rattle.xs_pyx.specs.Writing.{written}
use Rattle.xs_result.specs.Built.{built, is_empty}
use Rattle.xs_trace.specs.Label.{Label}
use Rattle.xs_trace.specs.declared.event.Event.{Event}
use Rattle.xs_trace.specs.declared.event.Event.TheVariants.{Start, Space, Attr, Chars, End, Comment, Pi}
use Rattle.xs_result_lines.specs.Bindings.{Attribute, Binding, attribute_prefix, attributes_in, bindings, bindings_before, declared, outermost, with_attribute}

-- ---- names
-- a prefix, a colon and a local part (Namespaces in XML 1.0, 4)
abbrev pub name_with : List ℕ → List ℕ → List ℕ
name_with prefix local = if is_empty prefix then local else prefix ++ 58 ∷ local

abbrev pub element_name : Label → List ℕ
element_name name = name_with name.prefix name.local

-- `xmlns`, or `xmlns:` and a prefix (Namespaces in XML 1.0, 3)
abbrev pub declaration_name : List ℕ → List ℕ
declaration_name prefix = if is_empty prefix then codes "xmlns" else codes "xmlns" ++ 58 ∷ prefix

-- ---- the lines of a start tag
abbrev pub declaration : Binding → Line
declaration b = line.Attr (declaration_name b.0) b.1

-- that of an attribute, where these bindings are there before it
abbrev pub attribute_line : List Binding → Label → List ℕ → Line
attribute_line m name value = line.Attr (name_with (attribute_prefix m name) name.local) value

unfoldable pub attribute_lines : List Binding → List Attribute → List Line
attribute_lines m [] = []
attribute_lines m (a ∷ more) = attribute_line m a.name a.value ∷ attribute_lines (with_attribute m a.name) more

-- an element that is open: its name as it is written, and the bindings in force in it, the nearest first
pub record OpenElement : Type 0 where
  pub name : List ℕ
  pub scope : List Binding

-- the bindings in force in the innermost of these elements
abbrev pub scope_of : List OpenElement → List Binding
scope_of [] = outermost
scope_of (o ∷ os) = o.scope

-- what an element in these declares, given the events after its start
abbrev pub declared_in : List OpenElement → Label → List Event → List Binding
declared_in around name es = declared (scope_of around) (bindings name es)

-- its start, its declarations in the order of their prefixes, and its attributes
abbrev pub tag_lines : List OpenElement → Label → List Event → List Line
tag_lines around name es =
    line.Start (element_name name) ∷ map declaration (declared_in around name es) ++ attribute_lines (bindings_before name es) (attributes_in es)

-- the elements that are open after it
abbrev pub entered : List OpenElement → Label → List Event → List OpenElement
entered around name es = record { name = element_name name; scope = declared_in around name es ++ scope_of around } ∷ around

-- ---- the lines of events of which all stay, in these open elements, the innermost first
unfoldable pub lines : List OpenElement → List Event → List Line
lines around [] = []
lines around (Start name ∷ es) = tag_lines around name es ++ lines (entered around name es) es
lines around (Space prefix uri ∷ es) = lines around es
lines around (Attr name value ∷ es) = lines around es
lines around (Chars text ∷ es) = line.Chars text ∷ lines around es
lines [] (End ∷ es) = lines [] es
lines (o ∷ os) (End ∷ es) = line.End o.name ∷ lines os es
lines around (Comment text ∷ es) = line.Comment text ∷ lines around es
lines around (Pi target value ∷ es) = line.Pi target value ∷ lines around es

-- the elements that are open after them
unfoldable pub open_after : List OpenElement → List Event → List OpenElement
open_after around [] = around
open_after around (Start name ∷ es) = open_after (entered around name es) es
open_after around (Space prefix uri ∷ es) = open_after around es
open_after around (Attr name value ∷ es) = open_after around es
open_after around (Chars text ∷ es) = open_after around es
open_after [] (End ∷ es) = open_after [] es
open_after (o ∷ os) (End ∷ es) = open_after os es
open_after around (Comment text ∷ es) = open_after around es
open_after around (Pi target value ∷ es) = open_after around es

unfoldable pub bytes_of : List Line → List ℕ
bytes_of ls = flat_map written ls

-- the bytes of a result, by all events that were put
abbrev pub pyx : List Event → List ℕ
pyx es = bytes_of (lines [] (built es))
