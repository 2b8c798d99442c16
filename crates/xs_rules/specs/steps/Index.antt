-- Rules by mode, kind and name.
use Rattle.std.specs.Prelude.{◌≡◌, ℕ, ◌==◌, ◌&&◌, ◌++◌, Bool, false, List, [], ◌∷◌, filter, reverse, map, length}
use Rattle.std.specs.Prelude.{Option, Some, None, IfSome, is_none, option_map, slice_get, nat_lt, if◌then◌else◌}
use Rattle.std.specs.Borrow.{Bor}
use Rattle.std.specs.List.{range_with_len}
use Rattle.std.specs.Option.{option_and_then, option_map_or}
use Rattle.std.specs.Str.{bytes_eq}
use Rattle.xs_sheet.specs.declared.declarations.Template.{Template}
use Rattle.xs_sheet.specs.declared.scoped.ScopedPattern.{ScopedPattern}
use Rattle.xs_tree.specs.declared.axes.Axis.{Axis}
use Rattle.xs_tree.specs.declared.axes.Axis.TheVariants.{Child, Attribute as AttributeAxis}
use Rattle.xs_tree.specs.declared.kinds.Kind.{Kind}
use Rattle.xs_tree.specs.declared.kinds.Kind.TheVariants.{Root, Element, Attribute, Space, Text as TextKind, Comment as CommentKind, Pi as PiKind}
use Rattle.xs_tree.specs.Record.{Record, name_local, name_uri}
use Rattle.xs_xpath.specs.declared.name.NodeTest.{NodeTest}
use Rattle.xs_xpath.specs.declared.name.NodeTest.TheVariants.{Any, Uri, Name, Node, Text, Comment, Pi, Target}
use Rattle.xs_xpath.specs.Tree.{Tree, step_of}
use Rattle.xs_pattern_spec.specs.Matching.{steps_of}
use Rattle.xs_sort_order.specs.InOrder.{in_order}
use Rattle.xs_pattern.specs.Above.{IsAbove}
use Rattle.xs_pattern.specs.steps.PathTables.{IsPathTable}
use Rattle.xs_rules.specs.declared.entries.Entry.{Entry}
use Rattle.xs_rules.specs.declared.tables.RuleTable.{RuleTable}
use Rattle.xs_rules.specs.declared.tables.RuleTable.TheVariants.{Above, Matches}
use Rattle.xs_rules.specs.Ranks.{outranks}
use Rattle.xs_rules.specs.Rules.{Candidate, candidate}
use Rattle.xs_rules.specs.steps.Kinds.{allows_kind, is_certain}

-- Where a rule is found that matches nodes of one kind and name alone: its mode, the number of the kind, and the name.
pub record Key : Type 0 where
  pub mode : ℕ
  pub kind : ℕ
  pub uri : List ℕ
  pub local : List ℕ

abbrev pub key : (mode kind : ℕ) → (uri local : List ℕ) → Key
key mode kind uri local = record { mode = mode; kind = kind; uri = uri; local = local }

abbrev pub is_key : Key → Key → Bool
is_key q k = q.mode == k.mode && q.kind == k.kind && bytes_eq q.uri k.uri && bytes_eq q.local k.local

-- the key as the code has it
abbrev pub key_data : ℕ × ℕ × Bor (List ℕ) × Bor (List ℕ) → Key
key_data k = key k.0 k.1 k.2.now k.3.now

-- by the axis and the name of the last step, or by its node test
abbrev pub name_key : (mode : ℕ) → Axis → (uri local : List ℕ) → Option Key
name_key mode Child uri local = Some (key mode 1 uri local)
name_key mode AttributeAxis uri local = Some (key mode 2 uri local)
name_key mode _ uri local = None

abbrev pub test_key : (mode : ℕ) → Axis → NodeTest → Option Key
test_key mode axis (Name uri local) = name_key mode axis uri local
test_key mode axis (Target target) = Some (key mode 3 [] target)
test_key mode axis Any = None
test_key mode axis (Uri uri) = None
test_key mode axis Node = None
test_key mode axis Text = None
test_key mode axis Comment = None
test_key mode axis Pi = None

abbrev pub step_key : (mode : ℕ) → Tree → Option Key
step_key mode e = option_and_then (λ s. test_key mode s.0 s.1) (step_of e)

-- the steps with the last one first
abbrev pub path_key : (mode : ℕ) → (steps : List Tree) → Option Key
path_key mode [] = None
path_key mode (s ∷ before) = step_key mode s

abbrev pub key_of : (mode : ℕ) → Tree → Option Key
key_of mode e = path_key mode (reverse (steps_of e))

-- the key of a node
abbrev pub kind_key : (mode : ℕ) → Kind → (uri local : List ℕ) → Option Key
kind_key mode Element uri local = Some (key mode 1 uri local)
kind_key mode Attribute uri local = Some (key mode 2 uri local)
kind_key mode PiKind uri local = Some (key mode 3 [] local)
kind_key mode Root uri local = None
kind_key mode TextKind uri local = None
kind_key mode CommentKind uri local = None
kind_key mode Space uri local = None

abbrev pub node_key : (mode : ℕ) → Record → Option Key
node_key mode r = kind_key mode r.kind (name_uri r) (name_local r)

-- ---- lists of the places of rules

-- whether a rule has a key
abbrev pub has_key : Key → Option Key → Bool
has_key q o = option_map_or (λ k. is_key k q) o false

abbrev pub is_named : Key → Candidate → Bool
is_named q c = has_key q (key_of c.mode c.alternative)

-- or has none, and is for nodes of a kind in a mode
abbrev pub may_match : (mode : ℕ) → Kind → (of : ℕ) → Tree → Bool
may_match mode kind of e = is_none (key_of of e) && of == mode && allows_kind e kind

abbrev pub is_unnamed : (mode : ℕ) → Kind → Candidate → Bool
is_unnamed mode kind c = may_match mode kind c.mode c.alternative

-- the places of the rules that pass a test
abbrev pub passes_at : (Candidate → Bool) → List Candidate → ℕ → Bool
passes_at test cs i = option_map_or test (slice_get cs i) false

abbrev pub places_of : (Candidate → Bool) → List Candidate → List ℕ
places_of test cs = filter (passes_at test cs) (range_with_len 0 (length cs))

-- with one more
abbrev pub with_place : Bool → ℕ → List ℕ → List ℕ
with_place is_in place places = if is_in then places ++ place ∷ [] else places

-- the rule of an alternative of a template
abbrev pub nth_of : ℕ → Template → ℕ → ScopedPattern → Option Candidate
nth_of number t k p = option_map (candidate number t p) (slice_get p.pattern k)

abbrev pub candidate_at : List Template → ℕ → ℕ → Option Candidate
candidate_at ts number k =
    option_and_then (λ (t : Template). option_and_then (nth_of number t k) t.pattern) (slice_get ts number)

abbrev pub at_entry : List Template → Entry → Option Candidate
at_entry ts e = candidate_at ts e.template e.alternative

-- The rules from the lowest rank to the highest; those of one rank in the order of the stylesheet.
abbrev pub is_below : Candidate → Candidate → Bool
is_below a b = outranks b.rank a.rank

unfoldable pub ranked : List Candidate → List Candidate
ranked cs = in_order is_below cs

abbrev pub is_entry_below : Entry → Entry → Bool
is_entry_below a b = outranks b.rank a.rank

-- The entries represent rules, and each knows its rule's rank and whether it is certain.
pub record AreEntries (ts : List Template) (cs : List Candidate) (entries : List Entry) : Type 0 where
  pub each : map (at_entry ts) entries ≡ map Some cs
  pub ranks : map (λ (e : Entry). e.rank) entries ≡ map (λ (c : Candidate). c.rank) cs
  pub certain : map (λ (e : Entry). e.is_certain) entries ≡ map (λ (c : Candidate). is_certain c.alternative) cs

-- The entries represent rules, each knows its rule's rank and whether it is certain, and by its key or its mode and kinds each is found.
pub record IsIndexed (ts : List Template) (cs : List Candidate) (entries : List Entry) (named : Key → List ℕ) (unnamed : ℕ → Kind → List ℕ) : Type 0 where
  pub each : map (at_entry ts) entries ≡ map Some cs
  pub ranks : map (λ (e : Entry). e.rank) entries ≡ map (λ (c : Candidate). c.rank) cs
  pub certain : map (λ (e : Entry). e.is_certain) entries ≡ map (λ (c : Candidate). is_certain c.alternative) cs
  pub named_are : (q : Key) → named q ≡ places_of (is_named q) cs
  pub unnamed_are : (mode : ℕ) (kind : Kind) → unnamed mode kind ≡ places_of (is_unnamed mode kind) cs

-- The later of the last places of two lists, and a list without a place that is its last one; the last places stand first.
abbrev pub later : (named unnamed : List ℕ) → Option ℕ
later [] [] = None
later [] (j ∷ js) = Some j
later (i ∷ is) [] = Some i
later (i ∷ is) (j ∷ js) = Some (if nat_lt i j then j else i)

abbrev pub passed : (place : ℕ) → List ℕ → List ℕ
passed place [] = []
passed place (i ∷ is) = if i == place then is else i ∷ is

-- ---- tables beside rules

-- the table beside a rule, if it has one
abbrev pub table_at : List (Option RuleTable) → ℕ → Option RuleTable
table_at tables place = option_and_then (λ o. o) (slice_get tables place)

-- whether a table is that of an alternative over the nodes of a tree, under the declarations in scope for it
abbrev pub IsTable : List Record → (scope : List (List ℕ × List ℕ)) → Tree → RuleTable → Type 0
IsTable rs scope e (Above t) = IsAbove rs e t.items
IsTable rs scope e (Matches t) = IsPathTable rs scope e t.items

-- a table, if there is one, is that of a rule's alternative
abbrev pub IsTableOf : List Record → Option Candidate → Option RuleTable → Type 0
IsTableOf rs o table = IfSome table (λ t. IfSome o (λ c. IsTable rs c.scope c.alternative t))

-- each table is that of the rule that it stands beside
pub record AreTables (ts : List Template) (entries : List Entry) (rs : List Record) (tables : List (Option RuleTable)) : Type 0 where
  pub each : (place : ℕ) (e : Entry) → slice_get entries place ≡ Some e → IsTableOf rs (at_entry ts e) (table_at tables place)
