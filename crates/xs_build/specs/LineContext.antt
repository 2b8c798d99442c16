-- What is around a line, by the lines of its document: those before it, the nearest first, and those from it on.
use Rattle.std.specs.Prelude.{ℕ, zero, suc, ◌+◌, List, [], ◌∷◌, Bool, true, false, not, ◌||◌, Option, None, Some, length, take_while, option_and_then}
use Rattle.std.specs.List.{filter_map, list_any}
use Rattle.xs_pyx.specs.Row.{Row}
use Rattle.xs_pyx.specs.Reading.{Reading, says, faulty, reading}
use Rattle.xs_pyx.specs.declared.line.Line.{Line}
use Rattle.xs_pyx.specs.declared.line.Line.TheVariants.{Start, Attr, End}
use Rattle.xs_build.specs.Namespaces.{Bindings, QName, ExpandedName, outermost, scope_with, is_empty, qname_of, declared_prefix, attribute_expanded}
use Rattle.xs_build.specs.Start.{begins_with, is_attribute_row, declarations, text_ahead}

-- what a line is to the nesting of elements: the start of one, with its name as it is written, the end of one, or neither
pub data Nesting : Type 0 where
  starts : List ℕ → Nesting
  ends : Nesting
  neither : Nesting

abbrev pub line_nesting : Line → Nesting
line_nesting (Start name) = starts name
line_nesting (End name) = ends
line_nesting line = neither

abbrev pub reading_nesting : Reading → Nesting
reading_nesting (says line) = line_nesting line
reading_nesting (faulty number) = neither

abbrev pub nesting : Row → Nesting
nesting row = reading_nesting (reading row)

-- Going back from a place, an end passes over one start more, and a start that is not passed over is that of an open element.
abbrev pub going_back : {X : Type 0} → Nesting → ℕ → (List ℕ → X) → (ℕ → X) → X
going_back (starts name) zero found further = found name
going_back (starts name) (suc passed) found further = further passed
going_back ends passed found further = further (suc passed)
going_back neither passed found further = further passed

-- The name of an open element, the innermost except so many that are passed over, as it is written; None: no more are open.
unfoldable pub open_name : ℕ → List Row → Option (List ℕ)
open_name passed [] = None
open_name passed (row ∷ before) = going_back (nesting row) passed Some (λ n. open_name n before)

-- The bindings in force in this element: those of the one around it, and what its start tag declares (Namespaces in XML 1.0, 6.1).
unfoldable pub scope_in : ℕ → List Row → List Row → Bindings
scope_in passed [] lines = outermost
scope_in passed (row ∷ before) lines =
    going_back (nesting row) passed (λ name. scope_with (declarations lines) (scope_in 0 before (row ∷ lines))) (λ n. scope_in n before (row ∷ lines))

abbrev pub is_start : Nesting → Bool
is_start (starts name) = true
is_start other = false

-- the start of an element is among these lines
abbrev pub has_start : List Row → Bool
has_start rows = list_any (λ row. is_start (nesting row)) rows

-- the line before is the start of an element, or an attribute
abbrev pub follows_tag : List Row → Bool
follows_tag [] = false
follows_tag (row ∷ before) = begins_with 40 row.bytes || is_attribute_row row

abbrev pub written_expanded : Bindings → QName → Option ExpandedName
written_expanded scope w = attribute_expanded scope w (declared_prefix w)

-- the expanded name of an attribute whose name is written so
abbrev pub name_as : Bindings → List ℕ → Option ExpandedName
name_as scope name = option_and_then (written_expanded scope) (qname_of name)

abbrev pub line_name : Bindings → Line → Option ExpandedName
line_name scope (Attr name value) = name_as scope name
line_name scope line = None

abbrev pub reading_name : Bindings → Reading → Option ExpandedName
reading_name scope (says line) = line_name scope line
reading_name scope (faulty number) = None

-- the expanded names of the attribute lines at the head of these lines
unfoldable pub names_at : Bindings → List Row → List ExpandedName
names_at scope rows = filter_map (λ row. reading_name scope (reading row)) (take_while is_attribute_row rows)

pub record LineContext : Type 0 where
  pub number : ℕ  -- the number of the line
  pub inside : Option (List ℕ)  -- the name of the innermost open element, as it is written; None: none is open
  pub begun : Bool  -- an element has begun
  pub scope : Bindings  -- the bindings in force
  pub in_tag : Bool  -- an attribute may follow
  pub names : List ExpandedName  -- the names of the attributes just before
  pub in_text : Bool  -- a text that is not empty stands just before, and text goes on with it

abbrev pub line_context : List Row → List Row → LineContext
line_context before lines = record {
  number = length before + 1;
  inside = open_name 0 before;
  begun = has_start before;
  scope = scope_in 0 before lines;
  in_tag = follows_tag before;
  names = names_at (scope_in 0 before lines) before;
  in_text = not (is_empty (text_ahead before));
}
