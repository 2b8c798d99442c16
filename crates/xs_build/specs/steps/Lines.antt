-- A document line by line, in the order of the work: what a line comes to in the context that those before it left. That this is
-- what Document says is a law (src/laws.rt).
use Rattle.std.specs.Prelude.{ℕ, ◌+◌, ◌-◌, List, [], ◌∷◌, ◌++◌, Bool, true, false, not, ◌&&◌, ◌||◌, ◌==◌, nat_le, Option, None, Some, if◌then◌else◌, length}
use Rattle.std.specs.Prelude.{map, is_none}
use Rattle.std.specs.List.{list_any}
use Rattle.std.specs.Str.{bytes_eq}
use Rattle.xs_text.specs.WhiteSpace.{is_blank}
use Rattle.xs_pyx.specs.Row.{Row}
use Rattle.xs_pyx.specs.Reading.{Reading, says, faulty, reading}
use Rattle.xs_pyx.specs.declared.line.Line.{Line}
use Rattle.xs_pyx.specs.declared.line.Line.TheVariants.{Start, Attr, Chars, End, Pi, Comment}
use Rattle.xs_tree.specs.Record.{Record}
use Rattle.xs_tree.specs.declared.names.Name.{Name}
use Rattle.xs_build.specs.declared.tag_names.Expanded.{Expanded}
use Rattle.xs_build.specs.declared.opened.Opened.{Opened}
use Rattle.xs_build.specs.Faults.{bad_line, bad_utf8, unbalanced, no_root, bad_name, unbound_prefix, double_attribute, too_large, truncated}
use Rattle.xs_tree.specs.Limits.{most_nodes}
use Rattle.xs_build.specs.Namespaces.{Bindings, QName, outermost, is_empty, is_ncname, is_xml, qname_of, scope_with, element_name, attribute_name}
use Rattle.xs_build.specs.Namespaces.{declared_prefix, is_bad_binding, xmlns_uri}
use Rattle.xs_build.specs.Start.{is_attribute_row, declarations, text_ahead}
use Rattle.xs_build.specs.Nodes.{element, attribute, spaces, text_node, comment, instruction}
use Rattle.xs_build.specs.Document.{Outcome, tree, refused}

-- where a line stands, as the lines before it left it
pub record Context : Type 0 where
  pub around : List Opened  -- the elements that are open, the innermost first
  pub begun : Bool  -- the top element has begun
  pub tag : Option (List Expanded)  -- where an attribute may follow: the names of those before it in its start tag
  pub in_text : Bool  -- the last node is a text node, which text lines go on
  pub nodes : ℕ  -- how many nodes stand before

-- a name without its prefix
abbrev pub expanded : Name → Expanded
expanded name = record { uri = name.uri; local = name.local }

-- before the first line there is the root
abbrev pub at_start : Context
at_start = record { around = []; begun = false; tag = None; in_text = false; nodes = 1 }

-- the node that is around the next one
abbrev pub innermost : List Opened → ℕ
innermost [] = 0
innermost (o ∷ os) = o.node

-- the bindings in force
abbrev pub scope_of : List Opened → Bindings
scope_of [] = outermost
scope_of (o ∷ os) = o.scope

-- What one line comes to: the number of its fault, or the nodes that it gives and where the next line stands.
pub data Step : Type 0 where
  bad : ℕ → Step
  gives : List Record → Context → Step

-- a rule, and the fault of a line that breaks it
abbrev pub rule : Bool → ℕ → Step → Step
rule true number next = next
rule false number next = bad number

-- what has to be there, and the fault of a line where it is not
abbrev pub needs : {X : Type 0} → Option X → ℕ → (X → Step) → Step
needs None number next = bad number
needs (Some x) number next = next x

-- these nodes, if there is room for them: else 11 TooLarge
abbrev pub adds : Context → List Record → Context → Step
adds c nodes next = rule (nat_le (c.nodes + length nodes) most_nodes) too_large (gives nodes next)

-- an attribute that comes next follows no start tag, and a text that comes next begins a new node
abbrev pub past : Context → List Opened → ℕ → Context
past c around added = record { around = around; begun = c.begun; tag = None; in_text = false; nodes = c.nodes + added }

-- an element of this name, and its namespace nodes
abbrev pub with_element : Context → List ℕ → Bindings → Name → Step
with_element c name scope full =
    adds c (element full (innermost c.around) ∷ spaces c.nodes scope)
    (record {
      around = record { name = name; node = c.nodes; scope = scope } ∷ c.around;
      begun = true;
      tag = Some [];
      in_text = false;
      nodes = c.nodes + 1 + length scope;
    })

-- the start of an element in which these bindings are in force
abbrev pub named_start : Context → List ℕ → Bindings → Step
named_start c name scope = needs (qname_of name) bad_name (λ w. needs (element_name scope w) unbound_prefix (with_element c name scope))

-- The start of an element: in another one, or the only one outside (5 Unbalanced; XML 1.0, 2.1); a QName (7 BadName) whose prefix
-- is bound by the same start tag or around it (8 UnboundPrefix). It gives the element and its namespace nodes.
unfoldable pub start_step : Context → List ℕ → List Row → Step
start_step c name rows =
    rule (not c.begun || not (is_empty c.around)) unbalanced (named_start c name (scope_with (declarations rows) (scope_of c.around)))

-- whether two expanded names are the same (Namespaces in XML 1.0, 6.3)
abbrev pub same_name : Expanded → Expanded → Bool
same_name a b = bytes_eq a.uri b.uri && bytes_eq a.local b.local

-- one more attribute in the start tag, of an expanded name that none before it has (9 DoubleAttribute)
abbrev pub with_name : List Expanded → Expanded → Step → Step
with_name seen name next = rule (not (list_any (same_name name) seen)) double_attribute next

-- the expanded name of a declaration, which two of one prefix share
abbrev pub declaration_name : List ℕ → Expanded
declaration_name prefix = record { uri = xmlns_uri; local = prefix }

-- A declaration is no node. It may not be one that is forbidden (10 BadNamespace).
unfoldable pub declaration_step : Context → List Expanded → List ℕ → List ℕ → Step
declaration_step c seen value prefix =
    with_name seen (declaration_name prefix)
    (rule (not (is_bad_binding prefix value)) 10
    (gives [] (record c { tag = Some (seen ++ declaration_name prefix ∷ []) })))

-- an attribute of this name
abbrev pub named_step : Context → List Expanded → List ℕ → Name → Step
named_step c seen value name =
    with_name seen (expanded name)
    (adds c (attribute name value (innermost c.around) ∷ []) (record c { tag = Some (seen ++ expanded name ∷ []); nodes = c.nodes + 1 }))

-- An attribute whose prefix is bound (8 UnboundPrefix).
unfoldable pub plain_step : Context → List Expanded → List ℕ → QName → Step
plain_step c seen value w = needs (attribute_name (scope_of c.around) w) unbound_prefix (named_step c seen value)

abbrev pub written_step : Context → List Expanded → List ℕ → QName → Option (List ℕ) → Step
written_step c seen value w None = plain_step c seen value w
written_step c seen value w (Some prefix) = declaration_step c seen value prefix

-- An attribute or a declaration, of a name that is a QName (7 BadName). It has to follow the start of an element (1 BadLine).
unfoldable pub attribute_step : Context → List ℕ → List ℕ → Step
attribute_step c name value =
    needs c.tag bad_line (λ seen. needs (qname_of name) bad_name (λ w. written_step c seen value w (declared_prefix w)))

-- Outside the top element only white space may stand, which is dropped (5 Unbalanced; XML 1.0, 2.8).
abbrev pub outer_text_step : Context → List ℕ → Step
outer_text_step c text = rule (is_blank text) unbalanced (gives [] (past c [] 0))

-- Text in an element. Adjacent texts are one node, which the first that is not empty gives (XPath 1.0, 5.7).
abbrev pub inner_text_step : Context → List ℕ → List Row → Step
inner_text_step c text rows =
    if c.in_text || is_empty text then gives [] (record c { tag = None })
    else adds c (text_node (text ++ text_ahead rows) (innermost c.around) ∷ []) (record c { tag = None; in_text = true; nodes = c.nodes + 1 })

unfoldable pub text_step : Context → List ℕ → List Row → Step
text_step c text rows = if is_empty c.around then outer_text_step c text else inner_text_step c text rows

-- the innermost open element has this name
abbrev pub is_innermost : List ℕ → List Opened → Bool
is_innermost name [] = false
is_innermost name (o ∷ os) = bytes_eq o.name name

abbrev pub without_innermost : List Opened → List Opened
without_innermost [] = []
without_innermost (o ∷ os) = os

-- The end of the innermost of these elements, by its name (5 Unbalanced; XML 1.0, 3).
abbrev pub close : Context → List Opened → List ℕ → Step
close c os name = rule (is_innermost name os) unbalanced (gives [] (past c (without_innermost os) 0))

unfoldable pub end_step : Context → List ℕ → Step
end_step c name = close c c.around name

-- A processing instruction: its target is an NCName and not `xml` (7 BadName; XML 1.0, 2.6). On line 1 a target `xml` is that of
-- an XML declaration, which gives no node.
unfoldable pub instruction_step : Context → ℕ → List ℕ → List ℕ → Step
instruction_step c line target text =
    if line == 1 && is_xml target then gives [] (past c c.around 0)
    else rule (is_ncname target && not (is_xml target)) 7
    (adds c (instruction target text (innermost c.around) ∷ []) (past c c.around 1))

unfoldable pub comment_step : Context → List ℕ → Step
comment_step c text = adds c (comment text (innermost c.around) ∷ []) (past c c.around 1)

-- what a line says, in a context, with the lines behind it
abbrev pub line_step : Context → ℕ → Line → List Row → Step
line_step c line (Start name) rows = start_step c name rows
line_step c line (Attr name value) rows = attribute_step c name value
line_step c line (Chars text) rows = text_step c text rows
line_step c line (End name) rows = end_step c name
line_step c line (Pi target text) rows = instruction_step c line target text
line_step c line (Comment text) rows = comment_step c text

abbrev pub reading_step : Context → ℕ → Reading → List Row → Step
reading_step c line (says l) rows = line_step c line l rows
reading_step c line (faulty number) rows = bad number

-- An attribute line that follows no start tag is 1 BadLine, and 3 BadUtf8 alone comes before that.
abbrev pub stray_step : Reading → Step
stray_step (says l) = bad bad_line
stray_step (faulty number) = if number == bad_utf8 then bad bad_utf8 else bad bad_line

unfoldable pub row_step : Context → ℕ → Row → List Row → Step
row_step c line row rows =
    if is_attribute_row row && is_none c.tag then stray_step (reading row) else reading_step c line (reading row) rows

-- with these nodes before the others, each of them on this line
abbrev pub put_before : List Record → ℕ → Outcome → Outcome
put_before nodes line (tree more lines) = tree (nodes ++ more) (map (λ _. line) nodes ++ lines)
put_before nodes line (refused number at) = refused number at

-- one line, and what the others represent behind it
abbrev pub and_then : ℕ → Step → (Context → Outcome) → Outcome
and_then line (bad number) rest = refused number line
and_then line (gives nodes c) rest = put_before nodes line (rest c)

-- After the last line there was an element (6 NoRoot), and none is open (12 Truncated).
abbrev pub at_end : Context → ℕ → Outcome
at_end c last =
    if not c.begun then refused no_root last
    else if not (is_empty c.around) then refused truncated last
    else tree [] []

-- what the lines from this number on represent, in a context
unfoldable pub meaning : Context → ℕ → List Row → Outcome
meaning c line [] = at_end c (line - 1)
meaning c line (row ∷ rows) = and_then line (row_step c line row rows) (λ next. meaning next (line + 1) rows)
