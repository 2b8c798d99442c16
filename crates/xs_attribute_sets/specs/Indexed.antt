-- An index of the attribute sets that reach an attribute.
use Rattle.std.specs.Prelude.{◌≡◌, ℕ, ◌&&◌, ◌||◌, ◌⊎◌, Bool, List, [], map, Option, Some, None, if◌then◌else◌}
use Rattle.std.specs.Borrow.{Bor}
use Rattle.std.specs.Global.{Vec}
use Rattle.std.specs.List.{All}
use Rattle.std.specs.Str.{bytes_eq}
use Rattle.indexmap.specs.IndexMap.{IndexMap, get_by}
use Rattle.indexmap.specs.IndexSet.{contains_by}
use Rattle.xs_sheet.specs.declared.declarations.AttrSet.{AttrSet}
use Rattle.xs_trace.specs.Label.{Label}
use Rattle.xs_attribute_sets.specs.declared.index.SetIndex.{SetIndex}
use Rattle.xs_attribute_sets.specs.declared.flags.FlaggedSets.{FlaggedSets}
use Rattle.xs_attribute_sets.specs.Declarations.{declarations_of}

-- a name that the code has as its two parts
abbrev pub is_of : Label → Bor (List ℕ) × Bor (List ℕ) → Bool
is_of name k = bytes_eq name.uri k.0.now && bytes_eq name.local k.1.now

-- the declarations that a table has of a name
abbrev pub listed : Option (Vec (Bor AttrSet)) → List AttrSet
listed None = []
listed (Some list) = map (λ s. s.now) list.items

abbrev pub grouped : {S : Type 0} → IndexMap (Bor (List ℕ) × Bor (List ℕ)) (Vec (Bor AttrSet)) S → Label → List AttrSet
grouped lists name = listed (get_by (is_of name) lists)

-- whether a set is flagged as one that reaches an attribute
abbrev pub is_flagged : FlaggedSets → Label → Bool
is_flagged flags name = flags.all || contains_by (is_of name) flags.names

-- the declarations that an index has of a name
abbrev pub declarations_in : SetIndex → Label → List AttrSet
declarations_in index name = if is_flagged index.flags name then grouped index.lists name else []

-- a declaration without attributes that uses only sets of which an index has nothing
pub record IsIdle (index : SetIndex) (s : AttrSet) : Type 0 where
  pub attributes : s.attributes ≡ []
  pub sets : All (λ name. declarations_in index name ≡ []) s.sets

-- Of a name an index has all declarations in their order, or none, where all are idle.
abbrev pub IsServed : List AttrSet → SetIndex → Label → Type 0
IsServed all index name =
    (declarations_in index name ≡ declarations_of all name)
    ⊎ ((declarations_in index name ≡ []) × All (IsIdle index) (declarations_of all name))

abbrev pub IsSetIndex : List AttrSet → SetIndex → Type 0
IsSetIndex all index = (name : Label) → IsServed all index name
