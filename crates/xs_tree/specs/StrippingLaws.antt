-- What is true of a tree without some of its text nodes (XSLT 1.0, 3.4).
use Rattle.std.specs.Prelude.{◌≡◌, ℕ, ◌<◌, Bool, true, List, filter, length, map, if◌then◌else◌}
use Rattle.std.specs.List.{flat_map}
use Rattle.xs_tree.specs.Kinds.{has_content}
use Rattle.xs_tree.specs.Record.{Record, at, is_inside, string_value, texts}
use Rattle.xs_tree.specs.Shape.{IsTree}
use Rattle.xs_tree.specs.Stripping.{stays, new_place, without}

-- those of some nodes that stay, at their new places, in their order
abbrev pub moved : List Bool → List Record → List ℕ → List ℕ
moved flags rs nodes = map (new_place flags rs) (filter (stays flags rs) nodes)

-- a node that stays has the nodes of this sort that it had, as its children, except those that do not stay
abbrev pub KeepsNodes : (List Record → ℕ → List ℕ) → Type 0
KeepsNodes nodes_of = (flags : List Bool) (rs : List Record) (n : ℕ) → IsTree rs → stays flags rs n ≡ true
    → nodes_of (without flags rs) (new_place flags rs n) ≡ moved flags rs (nodes_of rs n)

-- of two nodes that stay one is inside the other as it was
abbrev pub KeepsInside : Type 0
KeepsInside = (flags : List Bool) (rs : List Record) (n k : ℕ) → IsTree rs → stays flags rs n ≡ true → k < length rs → stays flags rs k ≡ true
    → is_inside (without flags rs) (new_place flags rs n) (new_place flags rs k) ≡ is_inside rs n k

-- The string value of a root or an element is that of the texts inside it that stay, one after another, and that of any other
-- node is as it was (XPath 1.0, 5.1 to 5.7).
abbrev pub HasTextsThatStay : Type 0
HasTextsThatStay = (flags : List Bool) (rs : List Record) (n : ℕ) → IsTree rs → n < length rs → stays flags rs n ≡ true
    → string_value (without flags rs) (new_place flags rs n)
    ≡ (if has_content (at rs n).kind then flat_map (λ k. (at rs k).text) (filter (stays flags rs) (texts rs n)) else (at rs n).text)
