-- The lines of what is fit are read one by one.
use Rattle.std.proofs.Common.{◌≡◌, ℕ, ◌+◌, ◌<◌, List, [], ◌∷◌, ◌++◌, Option, None, Some, Bool, true, false, refl, sym, ◌∙◌, ap, subst}
use Rattle.std.proofs.Common.{append_assoc, arith, length, map}
use Rattle.std.specs.Prelude.{not, ◌&&◌, ◌||◌, ◌==◌, nat_le}
use Rattle.std.specs.List.{AllByRecursion, cons_option, list_any}
use Rattle.std.proofs.lemmas.Bool.{and_parts, and_right, not-true}
use Rattle.std.proofs.lemmas.List.{append-nil}
use Rattle.std.proofs.lemmas.List.Sums.{take_while-cons}
use Rattle.std.proofs.lemmas.Slice.Eq.{bytes_eq-Decides}
use Rattle.xs_text.specs.Names.{is_ncname}
use Rattle.xs_pyx.specs.Row.{Row}
use Rattle.xs_pyx.specs.Reading.{says, reading}
use Rattle.xs_pyx.specs.declared.line.Line.{Line}
use Rattle.xs_pyx.specs.declared.line.Line.TheVariants as line
use Rattle.xs_trace.specs.Label.{Label}
use Rattle.xs_trace.specs.declared.event.Event.{Event}
use Rattle.xs_trace.specs.declared.event.Event.TheVariants.{Start, Space, Attr, Chars, End, Comment, Pi}
use Rattle.xs_tree.specs.Limits.{most_nodes}
use Rattle.xs_tree.specs.Record.{Record}
use Rattle.xs_build.specs.declared.tag_names.Expanded.{Expanded}
use Rattle.xs_build.specs.declared.opened.Opened.{Opened}
use Rattle.xs_build.specs.Document.{Outcome, tree}
use Rattle.xs_build.specs.DocumentTree.{is_target}
use Rattle.xs_build.specs.Faults.{too_large}
use Rattle.xs_build.specs.Namespaces.{Bindings, is_empty, is_xml, qname_of, scope_with}
use Rattle.xs_build.specs.Namespaces as read
use Rattle.xs_build.specs.Nodes.{attribute, comment, element, instruction, spaces, text_node}
use Rattle.xs_build.specs.Start.{binding_of, declarations, is_attribute_row, text_ahead}
use Rattle.xs_build.specs.steps.Lines as step
use Rattle.xs_build.specs.steps.Lines.{Context, Step, adds, and_then, at_end, attribute_step, comment_step, end_step, gives, innermost, instruction_step, line_step}
use Rattle.xs_build.specs.steps.Lines.{declaration_step, meaning, plain_step, put_before, rule, same_name, start_step, text_step}
use Rattle.xs_build.proofs.ReadingLemmas.{begins, kind_of, no_attribute, no_text, row_says}
use Rattle.xs_build.proofs.RestStepLemmas.{text_ahead_none}
use Rattle.xs_result_lines.specs.Bindings.{Attribute, Binding, attribute_prefix, attributes_in, bindings_before, with_attribute}
use Rattle.xs_result_lines.specs.Lines.{OpenElement, attribute_lines, declaration, declaration_name, element_name, entered, lines, name_with, scope_of}
use Rattle.xs_result_laws.specs.TreeEvents.{events_from, plain, unprefixed}
use Rattle.xs_result_laws.proofs.NameLemmas.{qname}
use Rattle.xs_result_laws.proofs.ScopeLemmas.{in_force, scope_more}
use Rattle.xs_result_laws.proofs.FitLemmas.{AreAttributes, AreNew, IsAttribute, IsDeclaration, declared_by, expanded, named_with, names_declared, scope_inside}
use Rattle.xs_result_laws.proofs.PlaceLemmas.{IsFit}
use Rattle.xs_result_laws.proofs.EventLemmas.{Falls, Gives, Inside, after_same, after_tag, all_read, attribute_event, element_given, elements, end_given, falls_more}
use Rattle.xs_result_laws.proofs.EventLemmas.{leaf_given, no_nodes, nodes, plain_tag, same_events}

-- the rows say these lines
abbrev pub AreSaid : List Row → List Line → Type 0
AreSaid rows ls = map reading rows ≡ map (λ l. says l) ls

-- ---- the first row
at_no_row : (P : List Row → Type 0) (rows : List Row) → AreSaid rows [] → P [] → P rows
at_no_row P [] h p = p
at_no_row P (row ∷ rows) h p = absurd (cc)

at_row : (P : List Row → Type 0) (l : Line) (ls : List Line) (rows : List Row) → AreSaid rows (l ∷ ls)
    → ((row : Row) (more : List Row) → reading row ≡ says l → AreSaid more ls → P (row ∷ more)) → P rows
at_row P l ls [] h p = absurd (let no : [] ≡ says l ∷ map (λ x. says x) ls = h in cc)
at_row P l ls (row ∷ rows) h p = p row rows (cc) (cc)

one_line : (c : Context) (n : ℕ) (l : Line) (ls : List Line) (rows : List Row) (ns : List ℕ) (place : ℕ) (es : List Event) → AreSaid rows (l ∷ ls)
    → ((more : List Row) → AreSaid more ls → Gives (and_then n (line_step c n l more) (λ next. meaning next (n + 1) more)) ns place es)
    → Gives (meaning c n rows) ns place es
unfolding meaning
one_line c n l ls rows ns place es h p =
    at_row (λ rs. Gives (meaning c n rs) ns place es) l ls rows h
    (λ row more is said. subst (λ s. Gives (and_then n s (λ next. meaning next (n + 1) more)) ns place es) (sym (row_says c n row more l is)) (p more said))

-- ---- what a line gives, if there is room for it
room : (c next : Context) (given : List Record) (n : ℕ) (rest : Context → Outcome) (ns : List ℕ) (place : ℕ) (es : List Event)
    → Gives (put_before given n (rest next)) ns place es → Gives (and_then n (adds c given next) rest) ns place es
room c next given n rest ns place es h = by_room (nat_le (c.nodes + length given) most_nodes)
  where
    by_room : (b : Bool) → Gives (and_then n (rule b too_large (gives given next)) rest) ns place es
    by_room true = h
    by_room false = refl

-- where these elements are open
abbrev pub stands : List Opened → Bool → Option (List Expanded) → Bool → ℕ → Context
stands os begun tag text place = record { around = os; begun = begun; tag = tag; in_text = text; nodes = place }

abbrev in_tag : List Opened → List Expanded → ℕ → Context
in_tag os seen place = stands os true (Some seen) false place

-- ---- the lines of a start tag
declaration_read : (os : List Opened) (seen : List Expanded) (place n : ℕ) (d : Binding) (rest : Context → Outcome) (ns : List ℕ) (es : List Event)
    → IsDeclaration d → list_any (same_name (step.declaration_name d.0)) seen ≡ false
    → Gives (rest (in_tag os (seen ++ step.declaration_name d.0 ∷ []) place)) ns place es
    → Gives (and_then n (attribute_step (in_tag os seen place) (declaration_name d.0) d.1) rest) ns place es
unfolding attribute_step declaration_step
declaration_read os seen place n d rest ns es is new h =
    rw (is.name.read, is.declares, new, is.allowed) (no_nodes place n (rest (in_tag os (seen ++ step.declaration_name d.0 ∷ []) place)) ns es h)

attribute_read : (os : List Inside) (seen : List Expanded) (place n : ℕ) (p : List ℕ) (a : Attribute) (rest : Context → Outcome) (es : List Event)
    → IsAttribute (step.scope_of (all_read os)) p a.name → list_any (same_name (expanded a)) seen ≡ false
    → Gives (rest (in_tag (all_read os) (seen ++ expanded a ∷ []) (place + 1))) (nodes os) (place + 1) es
    → Gives (and_then n (attribute_step (in_tag (all_read os) seen place) (name_with p a.name.local) a.value) rest) (nodes os) place (attribute_event a ∷ es)
unfolding attribute_step plain_step
attribute_read os seen place n p a rest es is new h =
    rw (is.name_is.read, is.declares, is.bound, new)
    (room (in_tag (all_read os) seen place) (in_tag (all_read os) (seen ++ expanded a ∷ []) (place + 1))
    (attribute (named_with p a.name) a.value (innermost (all_read os)) ∷ []) n rest (nodes os) place (attribute_event a ∷ es)
    (leaf_given os place n (attribute (named_with p a.name) a.value (innermost (all_read os))) (attribute_event a)
    (rest (in_tag (all_read os) (seen ++ expanded a ∷ []) (place + 1))) es refl refl refl h))

-- after the attributes, whatever they were
abbrev GoesOn : List Inside → ℕ → List Line → List Event → Type 0
GoesOn os place ls es = (seen : List Expanded) (n : ℕ) (rows : List Row) → AreSaid rows ls
    → Gives (meaning (in_tag (all_read os) seen place) n rows) (nodes os) place es

attributes_read : (os : List Inside) (attrs : List Attribute) (m : List Binding) (seen : List Expanded) (place n : ℕ) (rows : List Row) (ls : List Line)
    (es : List Event) → AreSaid rows (attribute_lines m attrs ++ ls) → AreAttributes (step.scope_of (all_read os)) m attrs
    → AreNew seen (map expanded attrs) → GoesOn os (place + length attrs) ls es
    → Gives (meaning (in_tag (all_read os) seen place) n rows) (nodes os) place (map attribute_event attrs ++ es)
unfolding attribute_lines
attributes_read os [] m seen place n rows ls es said are new h =
    let e : place + 0 ≡ place = omega arith in
    subst (λ p. Gives (meaning (in_tag (all_read os) seen p) n rows) (nodes os) p es) e (h seen n rows said)
attributes_read os (a ∷ more) m seen place n rows ls es said are new h =
    one_line (in_tag (all_read os) seen place) n (line.Attr (name_with (attribute_prefix m a.name) a.name.local) a.value)
    (attribute_lines (with_attribute m a.name) more ++ ls) rows (nodes os) place (attribute_event a ∷ (map attribute_event more ++ es)) said
    (λ rest rest_said. attribute_read os seen place n (attribute_prefix m a.name) a (λ next. meaning next (n + 1) rest) (map attribute_event more ++ es)
    are.0 new.0
    (attributes_read os more (with_attribute m a.name) (seen ++ expanded a ∷ []) (place + 1) (n + 1) rest ls es rest_said are.2 new.1
    (let e : place + length (a ∷ more) ≡ place + 1 + length more = omega arith in subst (λ p. GoesOn os p ls es) e h)))

declarations_read : (os : List Inside) (ds m : List Binding) (attrs : List Attribute) (seen : List Expanded) (place n : ℕ) (rows : List Row) (ls : List Line)
    (es : List Event) → AreSaid rows (map declaration ds ++ (attribute_lines m attrs ++ ls)) → AllByRecursion IsDeclaration ds
    → AreAttributes (step.scope_of (all_read os)) m attrs → AreNew seen (names_declared ds ++ map expanded attrs) → GoesOn os (place + length attrs) ls es
    → Gives (meaning (in_tag (all_read os) seen place) n rows) (nodes os) place (map attribute_event attrs ++ es)
declarations_read os [] m attrs seen place n rows ls es said ds_are are new h = attributes_read os attrs m seen place n rows ls es said are new h
declarations_read os (d ∷ ds) m attrs seen place n rows ls es said ds_are are new h =
    one_line (in_tag (all_read os) seen place) n (declaration d) (map declaration ds ++ (attribute_lines m attrs ++ ls)) rows (nodes os) place
    (map attribute_event attrs ++ es) said
    (λ rest rest_said. declaration_read (all_read os) seen place n d (λ next. meaning next (n + 1) rest) (nodes os) (map attribute_event attrs ++ es)
    ds_are.0 new.0
    (declarations_read os ds m attrs (seen ++ step.declaration_name d.0 ∷ []) place (n + 1) rest ls es rest_said ds_are.1 are new.1 h))

-- ---- what a start tag declares, by the rows after its start
declared_more : (row : Row) (rows : List Row) (name value : List ℕ) → reading row ≡ says (line.Attr name value)
    → declarations (row ∷ rows) ≡ cons_option (binding_of name value) (declarations rows)
unfolding declarations
declared_more row rows name value h = rw (take_while-cons is_attribute_row row rows, begins row (line.Attr name value) h, h) refl

declared_none : (rows : List Row) (l : Line) (ls : List Line) → (kind_of l == 65) ≡ false → AreSaid rows (l ∷ ls) → declarations rows ≡ []
unfolding declarations
declared_none rows l ls n h =
    at_row (λ rs. declarations rs ≡ []) l ls rows h
    (λ row more is said. rw (take_while-cons is_attribute_row row more, no_attribute row l n is) refl)

no_row_declares : (rows : List Row) → AreSaid rows [] → declarations rows ≡ []
unfolding declarations
no_row_declares rows h = at_no_row (λ rs. declarations rs ≡ []) rows h refl

none_declared : (es : List Event) (os : List OpenElement) (rows : List Row) → AreSaid rows (lines os es) → declarations rows ≡ []
unfolding lines
none_declared [] os rows h = no_row_declares rows h
none_declared (Start name ∷ es) os rows h = declared_none rows (line.Start (element_name name)) _ refl h
none_declared (Space prefix uri ∷ es) os rows h = none_declared es os rows h
none_declared (Attr name value ∷ es) os rows h = none_declared es os rows h
none_declared (Chars text ∷ es) os rows h = declared_none rows (line.Chars text) (lines os es) refl h
none_declared (End ∷ es) [] rows h = none_declared es [] rows h
none_declared (End ∷ es) (o ∷ os) rows h = declared_none rows (line.End o.name) (lines os es) refl h
none_declared (Comment text ∷ es) os rows h = declared_none rows (line.Comment text) (lines os es) refl h
none_declared (Pi target value ∷ es) os rows h = declared_none rows (line.Pi target value) (lines os es) refl h

attribute_declares : (scope : Bindings) (p : List ℕ) (a : Attribute) → IsAttribute scope p a.name → binding_of (name_with p a.name.local) a.value ≡ None
unfolding binding_of
attribute_declares scope p a is = rw (is.name_is.read, is.declares) refl

declaration_declares : (d : Binding) → IsDeclaration d → binding_of (declaration_name d.0) d.1 ≡ Some d
unfolding binding_of
declaration_declares d is = rw (is.name.read, is.declares, is.allowed) refl

attributes_declare : (scope : Bindings) (attrs : List Attribute) (m : List Binding) (ls : List Line) (rows : List Row)
    → AreSaid rows (attribute_lines m attrs ++ ls) → AreAttributes scope m attrs → ((rest : List Row) → AreSaid rest ls → declarations rest ≡ [])
    → declarations rows ≡ []
unfolding attribute_lines
attributes_declare scope [] m ls rows h are none = none rows h
attributes_declare scope (a ∷ more) m ls rows h are none =
    at_row (λ rs. declarations rs ≡ []) (line.Attr (name_with (attribute_prefix m a.name) a.name.local) a.value)
    (attribute_lines (with_attribute m a.name) more ++ ls) rows h
    (λ row rest is said. declared_more row rest (name_with (attribute_prefix m a.name) a.name.local) a.value is
    ∙ ap (λ o. cons_option o (declarations rest)) (attribute_declares scope (attribute_prefix m a.name) a are.0)
    ∙ attributes_declare scope more (with_attribute m a.name) ls rest said are.2 none)

declared_are : (scope : Bindings) (ds m : List Binding) (attrs : List Attribute) (ls : List Line) (rows : List Row)
    → AreSaid rows (map declaration ds ++ (attribute_lines m attrs ++ ls)) → AllByRecursion IsDeclaration ds → AreAttributes scope m attrs
    → ((rest : List Row) → AreSaid rest ls → declarations rest ≡ []) → declarations rows ≡ ds
declared_are scope [] m attrs ls rows h ds_are are none = attributes_declare scope attrs m ls rows h are none
declared_are scope (d ∷ ds) m attrs ls rows h ds_are are none =
    at_row (λ rs. declarations rs ≡ d ∷ ds) (declaration d) (map declaration ds ++ (attribute_lines m attrs ++ ls)) rows h
    (λ row rest is said. declared_more row rest (declaration_name d.0) d.1 is ∙ ap (λ o. cons_option o (declarations rest)) (declaration_declares d ds_are.0)
    ∙ ap (λ bs. d ∷ bs) (declared_are scope ds m attrs ls rest said ds_are.1 are none))

-- ---- no text after a text
first_no_text : (rows : List Row) (l : Line) (ls : List Line) → (kind_of l == 45) ≡ false → AreSaid rows (l ∷ ls) → text_ahead rows ≡ []
first_no_text rows l ls n h = at_row (λ rs. text_ahead rs ≡ []) l ls rows h (λ row more is said. text_ahead_none row more (no_text row l n is))

no_row_text : (rows : List Row) → AreSaid rows [] → text_ahead rows ≡ []
unfolding text_ahead
no_row_text rows h = at_no_row (λ rs. text_ahead rs ≡ []) rows h refl

no_text_ahead : (es : List Event) (os : List OpenElement) (begun tag : Bool) (rows : List Row) → AreSaid rows (lines os es) → IsFit os begun true tag es
    → tag ≡ false → text_ahead rows ≡ []
unfolding lines IsFit
no_text_ahead [] os begun tag rows h fit none = no_row_text rows h
no_text_ahead (Start name ∷ es) os begun tag rows h fit none = first_no_text rows (line.Start (element_name name)) _ refl h
no_text_ahead (Space prefix uri ∷ es) os begun tag rows h fit none = absurd (let no : true ≡ false = sym fit.0 ∙ none in cc)
no_text_ahead (Attr name value ∷ es) os begun tag rows h fit none = absurd (let no : true ≡ false = sym fit.0 ∙ none in cc)
no_text_ahead (Chars text ∷ es) os begun tag rows h fit none = absurd (let no : true ≡ false = fit.1 in cc)
no_text_ahead (End ∷ es) [] begun tag rows h fit none = absurd fit
no_text_ahead (End ∷ es) (o ∷ os) begun tag rows h fit none = first_no_text rows (line.End o.name) (lines os es) refl h
no_text_ahead (Comment text ∷ es) os begun tag rows h fit none = first_no_text rows (line.Comment text) (lines os es) refl h
no_text_ahead (Pi target value ∷ es) os begun tag rows h fit none = first_no_text rows (line.Pi target value) (lines os es) refl h

-- ---- the bindings in force
scope_is : (os : List Inside) → step.scope_of (all_read os) ≡ in_force (scope_of (elements os))
unfolding scope_with
scope_is [] = refl
scope_is (o ∷ os) = refl

same_none : (os : List Inside) → is_empty (all_read os) ≡ is_empty (elements os)
same_none [] = refl
same_none (o ∷ os) = refl

-- ---- each kind of line
nothing_given : (place : ℕ) → Gives (tree [] []) [] place []
unfolding events_from
nothing_given place = (refl, tt)

end_read : (os : List Inside) (begun text : Bool) (tag : Option (List Expanded)) (place n : ℕ) (rows : List Row) → AreSaid rows []
    → is_empty (elements os) ≡ true → begun ≡ true → Gives (meaning (stands (all_read os) begun tag text place) n rows) (nodes os) place []
unfolding meaning
end_read [] begun text tag place n rows said none one =
    at_no_row (λ rs. Gives (meaning (stands [] begun tag text place) n rs) [] place []) rows said (rw one (nothing_given place))
end_read (o ∷ os) begun text tag place n rows said none one = absurd (cc)

start_read : (os : List Inside) (begun text : Bool) (tag : Option (List Expanded)) (place n : ℕ) (name : Label) (as_written : List ℕ) (scope : Bindings)
    (rows : List Row) (rest : Context → Outcome) (es : List Event) → (not begun || not (is_empty (all_read os))) ≡ true
    → qname_of as_written ≡ Some (qname name.prefix name.local) → scope_with (declarations rows) (step.scope_of (all_read os)) ≡ scope
    → read.element_name scope (qname name.prefix name.local) ≡ Some (named_with name.prefix name)
    → Gives (rest (in_tag (record { name = as_written; node = place; scope = scope } ∷ all_read os) [] (place + 1 + length scope))) (place ∷ nodes os)
    (place + 1 + length scope) es
    → Gives (and_then n (start_step (stands (all_read os) begun tag text place) as_written rows) rest) (nodes os) place (Start (unprefixed name) ∷ es)
unfolding start_step
start_read os begun text tag place n name as_written scope rows rest es may is same bound h =
    rw (may, same, is, bound)
    (room (stands (all_read os) begun tag text place)
    (in_tag (record { name = as_written; node = place; scope = scope } ∷ all_read os) [] (place + 1 + length scope))
    (element (named_with name.prefix name) (innermost (all_read os)) ∷ spaces place scope) n rest (nodes os) place (Start (unprefixed name) ∷ es)
    (element_given os place n name scope
    (rest (in_tag (record { name = as_written; node = place; scope = scope } ∷ all_read os) [] (place + 1 + length scope))) es h))

text_read : (os : List Inside) (begun : Bool) (tag : Option (List Expanded)) (place n : ℕ) (text : List ℕ) (rows : List Row) (rest : Context → Outcome)
    (es : List Event) → is_empty (all_read os) ≡ false → is_empty text ≡ false → text_ahead rows ≡ []
    → Gives (rest (stands (all_read os) begun None true (place + 1))) (nodes os) (place + 1) es
    → Gives (and_then n (text_step (stands (all_read os) begun tag false place) text rows) rest) (nodes os) place (Chars text ∷ es)
unfolding text_step
text_read os begun tag place n text rows rest es within some ahead h =
    rw (within, some, ahead, append-nil)
    (room (stands (all_read os) begun tag false place) (stands (all_read os) begun None true (place + 1)) (text_node text (innermost (all_read os)) ∷ []) n rest
    (nodes os) place (Chars text ∷ es)
    (leaf_given os place n (text_node text (innermost (all_read os))) (Chars text) (rest (stands (all_read os) begun None true (place + 1))) es refl refl
    refl h))

close_read : (i : Inside) (os : List Inside) (begun text : Bool) (tag : Option (List Expanded)) (place n : ℕ) (rest : Context → Outcome) (es : List Event)
    → Falls i.node os → Gives (rest (stands (all_read os) begun None false place)) (nodes os) place es
    → Gives (and_then n (end_step (stands (all_read (i ∷ os)) begun tag text place) i.element.name) rest) (nodes (i ∷ os)) place (End ∷ es)
unfolding end_step
close_read i os begun text tag place n rest es f h =
    let e : place ≡ place + 0 = omega arith in
    rw ((bytes_eq-Decides i.element.name i.element.name).1 refl)
    (no_nodes place n (rest (stands (all_read os) begun None false (place + 0))) (nodes (i ∷ os)) (End ∷ es)
    (subst (λ p. Gives (rest (stands (all_read os) begun None false p)) (nodes (i ∷ os)) place (End ∷ es)) e
    (end_given i os place (rest (stands (all_read os) begun None false place)) es f h)))

comment_read : (os : List Inside) (begun text : Bool) (tag : Option (List Expanded)) (place n : ℕ) (more : List ℕ) (rest : Context → Outcome) (es : List Event)
    → Gives (rest (stands (all_read os) begun None false (place + 1))) (nodes os) (place + 1) es
    → Gives (and_then n (comment_step (stands (all_read os) begun tag text place) more) rest) (nodes os) place (Comment more ∷ es)
unfolding comment_step
comment_read os begun text tag place n more rest es h =
    room (stands (all_read os) begun tag text place) (stands (all_read os) begun None false (place + 1)) (comment more (innermost (all_read os)) ∷ []) n rest
    (nodes os) place (Comment more ∷ es)
    (leaf_given os place n (comment more (innermost (all_read os))) (Comment more) (rest (stands (all_read os) begun None false (place + 1))) es refl refl
    refl h)

instruction_read : (os : List Inside) (begun text : Bool) (tag : Option (List Expanded)) (place n : ℕ) (target value : List ℕ) (rest : Context → Outcome)
    (es : List Event) → is_target target ≡ true → Gives (rest (stands (all_read os) begun None false (place + 1))) (nodes os) (place + 1) es
    → Gives (and_then n (instruction_step (stands (all_read os) begun tag text place) n target value) rest) (nodes os) place (Pi target value ∷ es)
unfolding instruction_step
instruction_read os begun text tag place n target value rest es is h =
    let other : is_xml target ≡ false = not-true (is_xml target) (and_parts (is_ncname target) (not (is_xml target)) is).1 in
    let no : (n == 1 && is_xml target) ≡ false = and_right (n == 1) (is_xml target) other in
    rw (no, is)
    (room (stands (all_read os) begun tag text place) (stands (all_read os) begun None false (place + 1))
    (instruction target value (innermost (all_read os)) ∷ []) n rest (nodes os) place (Pi target value ∷ es)
    (leaf_given os place n (instruction target value (innermost (all_read os))) (Pi target value) (rest (stands (all_read os) begun None false (place + 1))) es
    refl refl refl h))

-- ---- all lines
abbrev inside : List Inside → ℕ → Label → List Event → Inside
inside os place name es = record {
  element = record { name = element_name name; scope = declared_by (scope_of (elements os)) name es ++ scope_of (elements os) };
  node = place;
}

pub lines_read : (es : List Event) (os : List Inside) (begun text tag : Bool) (seen : Option (List Expanded)) (place n : ℕ) (rows : List Row)
    → AreSaid rows (lines (elements os) es) → IsFit (elements os) begun text tag es → Falls place os
    → Gives (meaning (stands (all_read os) begun seen text place) n rows) (nodes os) place (plain (after_tag es))
unfolding lines IsFit after_tag plain
lines_read [] os begun text tag seen place n rows said fit f = end_read os begun text seen place n rows said fit.0 fit.1
lines_read (Start name ∷ es) os begun text tag seen place n rows said fit f =
    let around = scope_of (elements os) in
    let ds = declared_by around name es in
    let m = bindings_before name es in
    let attrs = attributes_in es in
    let inner = inside os place name es ∷ os in
    let behind = lines (entered (elements os) name es) es in
    let scope = scope_inside around name es in
    let last = place + 1 + length scope in
    let want = map attribute_event attrs ++ plain (after_tag es) in
    same_events (meaning (stands (all_read os) begun seen text place) n rows) (nodes os) place (Start (unprefixed name) ∷ want)
    (Start (unprefixed name) ∷ plain es)
    (ap (λ xs. Start (unprefixed name) ∷ xs) (sym (plain_tag es)))
    (one_line (stands (all_read os) begun seen text place) n (line.Start (element_name name)) ((map declaration ds ++ attribute_lines m attrs) ++ behind) rows
    (nodes os) place (Start (unprefixed name) ∷ want) said (λ rest rest_said.
    let all : AreSaid rest (map declaration ds ++ (attribute_lines m attrs ++ behind)) =
    subst (λ ls. AreSaid rest ls) (append_assoc (map declaration ds) (attribute_lines m attrs) behind) rest_said in
    let are : declarations rest ≡ ds =
    declared_are scope ds m attrs behind rest all fit.1.declarations fit.1.attributes (λ rs h. none_declared es (entered (elements os) name es) rs h) in
    let same : scope_with (declarations rest) (step.scope_of (all_read os)) ≡ scope =
    ap (λ bs. scope_with bs (step.scope_of (all_read os))) are ∙ ap (scope_with ds) (scope_is os) ∙ scope_more ds around in
    start_read os begun text seen place n name (element_name name) scope rest (λ c. meaning c (n + 1) rest) want
    (ap (λ b. not begun || not b) (same_none os) ∙ fit.0) fit.1.own.read same fit.1.bound
    (declarations_read inner ds m attrs [] last (n + 1) rest behind (plain (after_tag es)) all fit.1.declarations fit.1.attributes fit.1.new
    (λ names k rs h. lines_read es inner true false true (Some names) (last + length attrs) k rs h fit.2 (omega arith, f)))))
lines_read (Space prefix uri ∷ es) os begun text tag seen place n rows said fit f = lines_read es os begun text true seen place n rows said fit.1 f
lines_read (Attr name value ∷ es) os begun text tag seen place n rows said fit f = lines_read es os begun text true seen place n rows said fit.1 f
lines_read (Chars more ∷ es) os begun text tag seen place n rows said fit f =
    subst (λ t. Gives (meaning (stands (all_read os) begun seen t place) n rows) (nodes os) place (Chars more ∷ plain es)) (sym fit.1)
    (one_line (stands (all_read os) begun seen false place) n (line.Chars more) (lines (elements os) es) rows (nodes os) place (Chars more ∷ plain es) said
    (λ rest rest_said. text_read os begun seen place n more rest (λ c. meaning c (n + 1) rest) (plain es) (same_none os ∙ fit.0) fit.2
    (no_text_ahead es (elements os) begun false rest rest_said fit.4 refl)
    (same_events (meaning (stands (all_read os) begun None true (place + 1)) (n + 1) rest) (nodes os) (place + 1) (plain (after_tag es)) (plain es)
    (ap plain (after_same es (elements os) begun true fit.4))
    (lines_read es os begun true false None (place + 1) (n + 1) rest rest_said fit.4 (falls_more os place (place + 1) (omega arith) f)))))
lines_read (End ∷ es) [] begun text tag seen place n rows said fit f = absurd fit
lines_read (End ∷ es) (o ∷ os) begun text tag seen place n rows said fit f =
    let less : o.node < place = f.0 in
    one_line (stands (all_read (o ∷ os)) begun seen text place) n (line.End o.element.name) (lines (elements os) es) rows (nodes (o ∷ os)) place
    (End ∷ plain es) said
    (λ rest rest_said. close_read o os begun text seen place n (λ c. meaning c (n + 1) rest) (plain es) f.1
    (same_events (meaning (stands (all_read os) begun None false place) (n + 1) rest) (nodes os) place (plain (after_tag es)) (plain es)
    (ap plain (after_same es (elements os) begun false fit))
    (lines_read es os begun false false None place (n + 1) rest rest_said fit (falls_more os o.node place (omega (arith, less)) f.1))))
lines_read (Comment more ∷ es) os begun text tag seen place n rows said fit f =
    one_line (stands (all_read os) begun seen text place) n (line.Comment more) (lines (elements os) es) rows (nodes os) place (Comment more ∷ plain es) said
    (λ rest rest_said. comment_read os begun text seen place n more (λ c. meaning c (n + 1) rest) (plain es)
    (same_events (meaning (stands (all_read os) begun None false (place + 1)) (n + 1) rest) (nodes os) (place + 1) (plain (after_tag es)) (plain es)
    (ap plain (after_same es (elements os) begun false fit.1))
    (lines_read es os begun false false None (place + 1) (n + 1) rest rest_said fit.1 (falls_more os place (place + 1) (omega arith) f))))
lines_read (Pi target value ∷ es) os begun text tag seen place n rows said fit f =
    one_line (stands (all_read os) begun seen text place) n (line.Pi target value) (lines (elements os) es) rows (nodes os) place
    (Pi target value ∷ plain es) said
    (λ rest rest_said. instruction_read os begun text seen place n target value (λ c. meaning c (n + 1) rest) (plain es) fit.0
    (same_events (meaning (stands (all_read os) begun None false (place + 1)) (n + 1) rest) (nodes os) (place + 1) (plain (after_tag es)) (plain es)
    (ap plain (after_same es (elements os) begun false fit.3))
    (lines_read es os begun false false None (place + 1) (n + 1) rest rest_said fit.3 (falls_more os place (place + 1) (omega arith) f))))
