-- A tree without some of its text nodes (XSLT 1.0, 3.4).
use Rattle.std.specs.Prelude.{ℕ, ◌&&◌, not, Bool, false, List, filter, length, map, get_or}
use Rattle.std.specs.List.{range_with_len}
use Rattle.std.specs.Option.{option_map}
use Rattle.xs_tree.specs.Kinds.{is_text_kind}
use Rattle.xs_tree.specs.Record.{Record, at}

-- whether the node at k stays: only a text node that is flagged does not; after the end of the flags none is flagged
abbrev pub stays : List Bool → List Record → ℕ → Bool
stays flags rs k = not (get_or flags k false && is_text_kind (at rs k).kind)

-- the nodes before the place n that stay, in document order
abbrev pub staying_before : List Bool → List Record → ℕ → List ℕ
staying_before flags rs n = filter (stays flags rs) (range_with_len 0 n)

-- all nodes that stay
abbrev pub staying : List Bool → List Record → List ℕ
staying flags rs = staying_before flags rs (length rs)

-- the new place of the node at n: as many nodes come before it as before and stay
abbrev pub new_place : List Bool → List Record → ℕ → ℕ
new_place flags rs n = length (staying_before flags rs n)

-- the node at k as it was, inside the same node, which has a new place
abbrev pub renumbered : List Bool → List Record → ℕ → Record
renumbered flags rs k = record (at rs k) { parent = option_map (new_place flags rs) (at rs k).parent }

-- a tree without its flagged text nodes
abbrev pub without : List Bool → List Record → List Record
without flags rs = map (renumbered flags rs) (staying flags rs)

-- of a list with a number for each node, as its line, the numbers of the nodes that stay
abbrev pub numbers_without : List Bool → List Record → List ℕ → List ℕ
numbers_without flags rs numbers = map (λ k. get_or numbers k 0) (staying flags rs)
