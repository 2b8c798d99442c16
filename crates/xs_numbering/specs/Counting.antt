-- The numbers that are counted for a node (XSLT 1.0, 7.7), by tests that say of each place of a tree whether the node there matches
-- `count`, and whether it matches `from`. What is said of `from` is this project's own reading.
use Rattle.std.specs.Prelude.{ℕ, suc, ◌==◌, ◌&&◌, Bool, not, List, [], ◌∷◌, filter, length, map, reverse, take, take_while}
use Rattle.std.specs.List.{range_with_len}
use Rattle.std.specs.Str.{bytes_eq}
use Rattle.xs_tree.specs.declared.axes.Axis.TheVariants.{Ancestor}
use Rattle.xs_tree.specs.declared.kinds.Kind.{Kind}
use Rattle.xs_tree.specs.declared.kinds.Kind.TheVariants as kind
use Rattle.xs_tree.specs.Kinds.{is_attribute_kind, is_namespace_kind}
use Rattle.xs_tree.specs.Axis.{axis_list, is_sibling, root_of}
use Rattle.xs_tree.specs.Record.{Record, at, name_local, name_uri}
use Rattle.xs_sheet.specs.declared.body.Level.{Level}
use Rattle.xs_sheet.specs.declared.body.Level.TheVariants.{Single, Multiple, Any}

-- a number for each kind of node
abbrev pub kind_number : Kind → ℕ
kind_number kind.Root = 0
kind_number kind.Element = 1
kind_number kind.Attribute = 2
kind_number kind.Space = 3
kind_number kind.Text = 4
kind_number kind.Comment = 5
kind_number kind.Pi = 6

-- whether a node has the kind and, if it has one, the expanded name of another: what `count` asks for where it is absent
abbrev pub is_alike : Record → Record → Bool
is_alike a b =
    (kind_number a.kind == kind_number b.kind) && bytes_eq (name_uri a) (name_uri b) && bytes_eq (name_local a) (name_local b)

-- the siblings before a node (the axis preceding-sibling of XPath 1.0, 2.2)
abbrev pub siblings_before : List Record → ℕ → List ℕ
siblings_before rs n = filter (is_sibling rs n) (range_with_len 0 n)

-- one more than how many of them match `count`
abbrev pub sibling_number : (counts : ℕ → Bool) → List Record → ℕ → ℕ
sibling_number counts rs n = suc (length (filter counts (siblings_before rs n)))

-- the node and its ancestors, the nearest first, below the nearest ancestor that matches `from`; all of them where none does
abbrev pub searched : (from : ℕ → Bool) → List Record → ℕ → List ℕ
searched from rs n = n ∷ take_while (λ k. not (from k)) (axis_list Ancestor rs n)

-- those of them that match `count`
abbrev pub counted : (counts from : ℕ → Bool) → List Record → ℕ → List ℕ
counted counts from rs n = filter counts (searched from rs n)

-- the number of the first of them, if there is one
abbrev pub single : (counts from : ℕ → Bool) → List Record → ℕ → List ℕ
single counts from rs n = map (sibling_number counts rs) (take 1 (counted counts from rs n))

-- the number of each of them, the outermost first
abbrev pub multiple : (counts from : ℕ → Bool) → List Record → ℕ → List ℕ
multiple counts from rs n = reverse (map (sibling_number counts rs) (counted counts from rs n))

-- whether a node has a place at some level: it is no attribute and no namespace node
abbrev pub has_level : Record → Bool
has_level r = not (is_attribute_kind r.kind) && not (is_namespace_kind r.kind)

-- the nodes before a place, at any level, in the document with a root
abbrev pub passed : List Record → (root : ℕ) → ℕ → List ℕ
passed rs r n = filter (λ k. (root_of rs k == r) && has_level (at rs k)) (range_with_len 0 n)

-- Of the nodes before a node those that are looked at, the nearest first: back to the last one that matches `from`, and without it;
-- all of them where none does.
abbrev pub looked_at : (from : ℕ → Bool) → List Record → (root : ℕ) → ℕ → List ℕ
looked_at from rs r n = take_while (λ k. not (from k)) (reverse (passed rs r n))

-- how many of the node and those that are looked at match `count`
abbrev pub any_number : (counts from : ℕ → Bool) → List Record → ℕ → ℕ
any_number counts from rs n = length (filter counts (n ∷ looked_at from rs (root_of rs n) n))

abbrev pub any : (counts from : ℕ → Bool) → List Record → ℕ → List ℕ
any counts from rs n = any_number counts from rs n ∷ []

-- the list at a level
abbrev pub list_at : Level → (counts from : ℕ → Bool) → List Record → ℕ → List ℕ
list_at Single counts from rs n = single counts from rs n
list_at Multiple counts from rs n = multiple counts from rs n
list_at Any counts from rs n = any counts from rs n
