-- Laws of documents.
use Rattle.std.specs.Prelude.{◌≡◌, ℕ, ◌==◌, Bool, true, List, [], ◌∷◌, ◌++◌, Option, None, Some, if◌then◌else◌, map}
use Rattle.std.specs.List.{list_any}
use Rattle.std.specs.Str.{bytes_eq}
use Rattle.xs_pyx.specs.Row.{Row, rows_of}
use Rattle.xs_pyx.specs.Reading.{says, reading}
use Rattle.xs_pyx.specs.declared.line.Line.{Line}
use Rattle.xs_tree.specs.Record.{Record, root_record}
use Rattle.xs_build.specs.Document.{tree, refused, outcome, document}
use Rattle.xs_build.specs.DocumentTree.{IsOneDocument}
use Rattle.xs_build.specs.Faults.{bad_name, unbound_prefix, double_attribute, bad_namespace, too_large}
use Rattle.xs_build.specs.Grammar.{IsWellFormed}
use Rattle.xs_build.specs.LineContext.{nesting, going_back, scope_in}
use Rattle.xs_build.specs.Namespaces.{Binding, is_empty, outermost, uri_in}
use Rattle.xs_build.specs.Start.{declarations}
use Rattle.xs_build.specs.steps.Lines.{at_start, put_before, meaning}

-- bytes that are not refused represent the tree of one well-formed document
abbrev pub DocumentsAreTrees : Type 0
DocumentsAreTrees = (limit : ℕ) (bytes : List ℕ) (rs : List Record) (lines : List ℕ) → document limit bytes ≡ tree rs lines → IsOneDocument rs

-- What the open elements declare, except so many that are passed over: that of the innermost first, each in the order of its start
-- tag, and at last that of `xml`, which is bound everywhere (Namespaces in XML 1.0, 3 and 6.1).
unfoldable pub declarations_in : ℕ → List Row → List Row → List Binding
declarations_in passed [] lines = outermost
declarations_in passed (row ∷ before) lines =
    going_back (nesting row) passed (λ name. declarations lines ++ declarations_in 0 before (row ∷ lines)) (λ n. declarations_in n before (row ∷ lines))

-- What the first of these declarations of a prefix says that it represents. None: none declares it, or the default namespace is
-- undone (Namespaces in XML 1.0, 6.2).
abbrev pub declared_uri : List Binding → List ℕ → Option (List ℕ)
declared_uri [] prefix = None
declared_uri (d ∷ ds) prefix = if bytes_eq d.0 prefix then (if is_empty d.1 then None else Some d.1) else declared_uri ds prefix

-- A prefix represents what the innermost open element that declares it says (Namespaces in XML 1.0, 6.1): in the bindings at a line,
-- where `before` are the lines before it, the nearest first, and `lines` those from it on.
abbrev pub NamesResolve : Type 0
NamesResolve = (before lines : List Row) (prefix : List ℕ) → uri_in (scope_in 0 before lines) prefix ≡ declared_uri (declarations_in 0 before lines) prefix

-- each line of bytes that are not refused says something, and what the lines say is by the grammar
abbrev pub DocumentsFollowGrammar : Type 0
DocumentsFollowGrammar = (limit : ℕ) (bytes : List ℕ) (rs : List Record) (numbers : List ℕ) → document limit bytes ≡ tree rs numbers →
    (lines : List Line) × (map reading (rows_of bytes) ≡ map (λ line. says line) lines) × IsWellFormed lines

-- a fault that the grammar does not speak of
abbrev pub is_no_grammar_fault : ℕ → Bool
is_no_grammar_fault number = list_any (λ known. known == number) (bad_name ∷ unbound_prefix ∷ double_attribute ∷ bad_namespace ∷ too_large ∷ [])

-- where each line says something and what the lines say is by the grammar, bytes are refused for such a fault alone
abbrev pub GrammarIsEnough : Type 0
GrammarIsEnough = (limit : ℕ) (bytes : List ℕ) (lines : List Line) (number line : ℕ) →
    map reading (rows_of bytes) ≡ map (λ l. says l) lines → IsWellFormed lines →
    document limit bytes ≡ refused number line → is_no_grammar_fault number ≡ true

-- lines represent what they represent one by one, from the first on, each in the context that those before it left
abbrev pub LinesGoByStep : Type 0
LinesGoByStep = (rows : List Row) → outcome rows ≡ put_before (root_record ∷ []) 0 (meaning at_start 1 rows)
