-- The tables of the keys that a stylesheet declares (XSLT 1.0, 12.2): one for each name.
use Rattle.std.specs.Prelude.{ℕ, ◌&&◌, not, Bool, List, [], ◌∷◌, ◌++◌, filter, fold, map, if◌then◌else◌}
use Rattle.std.specs.List.{flat_map, list_any}
use Rattle.std.specs.Str.{bytes_eq}
use Rattle.xs_sheet.specs.declared.declarations.KeyDecl.{KeyDecl}
use Rattle.xs_trace.specs.Label.{Label}
use Rattle.xs_tree.specs.Record.{Record, places}
use Rattle.xs_value.specs.Tables.{Entry, Table}
use Rattle.xs_keys.specs.Keys.{key_fault, node_texts}

-- whether two names are one expanded name
abbrev pub is_same : Label → Label → Bool
is_same a b = bytes_eq a.uri b.uri && bytes_eq a.local b.local

-- all declarations of a name count, in whatever module they are
abbrev pub is_of : Label → KeyDecl → Bool
is_of name d = is_same d.name name

abbrev pub declarations_of : Label → List KeyDecl → List KeyDecl
declarations_of name ds = filter (is_of name) ds

-- the names that are declared, each once
abbrev pub with_label : List Label → Label → List Label
with_label names name = if list_any (is_same name) names then names else names ++ name ∷ []

abbrev pub with_name : List Label → KeyDecl → List Label
with_name names d = with_label names d.name

abbrev pub names_of : List KeyDecl → List Label
names_of ds = fold with_name [] ds

-- texts, each once
abbrev pub distinct : List (List ℕ) → List (List ℕ)
distinct [] = []
distinct (t ∷ ts) = t ∷ filter (λ u. not (bytes_eq t u)) (distinct ts)

-- a node with each of its texts
abbrev pub entry_of : ℕ → List ℕ → Entry
entry_of n text = record { text = text; node = n }

abbrev pub entries_at : List Record → List KeyDecl → ℕ → List Entry
entries_at rs ds n = map (entry_of n) (distinct (node_texts rs ds n))

-- the table of some declarations under their name
abbrev pub table_by : List Record → Label → List KeyDecl → Table
table_by rs name ds = record {
  uri = name.uri;
  local = name.local;
  fault = key_fault rs ds;
  entries = flat_map (entries_at rs ds) (places rs);
}

abbrev pub table_of : List Record → List KeyDecl → Label → Table
table_of rs ds name = table_by rs name (declarations_of name ds)

-- The tables of the keys of a stylesheet over a tree.
unfoldable pub tables_of : List Record → List KeyDecl → List Table
tables_of rs ds = map (table_of rs ds) (names_of ds)
