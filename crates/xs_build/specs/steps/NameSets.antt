-- Expanded names that are found by their order.
use Rattle.std.specs.Prelude.{◌≡◌, ℕ, true, List, All}
use Rattle.std.specs.BTreeSet.{BTreeSet, contains}
use Rattle.std.specs.Ordering.{ordering_then}
use Rattle.std.specs.declared.cmp.Ordering.{Ordering}
use Rattle.xs_tree.specs.Names.{order_of_texts}
use Rattle.xs_build.specs.declared.tag_names.Expanded.{Expanded}

-- what a name is sorted by: its local part and its URI
abbrev pub Key : Type 0
Key = List ℕ × List ℕ

abbrev pub key_of : Expanded → Key
key_of name = (name.local, name.uri)

abbrev pub order_of_keys : Key → Key → Ordering
order_of_keys x y = ordering_then (order_of_texts x.0 y.0) (order_of_texts x.1 y.1)

-- the keys of all names of a list are in a set
abbrev pub AreIn : BTreeSet Key → List Expanded → Type 0
AreIn set names = All (λ name. contains order_of_keys set (key_of name) ≡ true) names
