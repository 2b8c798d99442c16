-- The lists of rules as the code has them.
use Rattle.std.specs.Prelude.{◌≡◌, ℕ, ◌==◌, ◌&&◌, ◌++◌, ◌∷◌, Bool, List, [], Some}
use Rattle.std.specs.Borrow.{Bor}
use Rattle.std.specs.Global.{Vec}
use Rattle.std.specs.Option.{option_map_or}
use Rattle.std.specs.Str.{bytes_eq}
use Rattle.indexmap.specs.IndexMap.{IndexMap, get_by}
use Rattle.xs_tree.specs.declared.kinds.Kind.{Kind}
use Rattle.xs_tree.specs.declared.kinds.Kind.TheVariants.{Root, Element, Attribute, Space, Text, Comment, Pi}
use Rattle.xs_rules.specs.declared.kind_lists.KindLists.{KindLists}
use Rattle.xs_rules.specs.declared.entries.Entry.{Entry}
use Rattle.xs_rules.specs.declared.lists.Lists.{Lists}
use Rattle.xs_rules.specs.Rules.{Candidate}
use Rattle.xs_rules.specs.steps.Index.{IsIndexed, Key, at_entry}
use Rattle.xs_rules.specs.steps.Kinds.{is_certain}
use Rattle.xs_sheet.specs.declared.declarations.Template.{Template}

-- whether a key, as the code has it, is this one
abbrev pub is_key_of : Key → ℕ × ℕ × Bor (List ℕ) × Bor (List ℕ) → Bool
is_key_of q k = q.mode == k.0 && q.kind == k.1 && bytes_eq q.uri k.2.now && bytes_eq q.local k.3.now

abbrev pub named_in : {S : Type 0} → IndexMap (ℕ × ℕ × Bor (List ℕ) × Bor (List ℕ)) (Vec ℕ) S → Key → List ℕ
named_in m q = option_map_or (λ (v : Vec ℕ). v.items) (get_by (is_key_of q) m) []

-- the places for a kind
abbrev pub places_for : Kind → KindLists → List ℕ
places_for Root l = l.roots.items
places_for Element l = l.elements.items
places_for Attribute l = l.attributes.items
places_for Space l = l.spaces.items
places_for Text l = l.texts.items
places_for Comment l = l.comments.items
places_for Pi l = l.instructions.items

abbrev pub unnamed_in : {S : Type 0} → IndexMap ℕ KindLists S → (mode : ℕ) → Kind → List ℕ
unnamed_in m mode kind = option_map_or (places_for kind) (get_by (λ k. mode == k) m) []

-- an entry was added for a rule after those that are there
abbrev pub IsAdded : Entry → (before after : Lists) → Candidate → Type 0
IsAdded e before after c =
    (ts : List Template) (cs : List Candidate)
    → at_entry ts e ≡ Some c
    → e.rank ≡ c.rank
    → e.is_certain ≡ is_certain c.alternative
    → IsIndexed ts cs before.entries.items (named_in before.named) (unnamed_in before.unnamed)
    → IsIndexed ts (cs ++ c ∷ []) after.entries.items (named_in after.named) (unnamed_in after.unnamed)
