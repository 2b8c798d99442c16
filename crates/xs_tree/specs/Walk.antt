-- What is left of a walk over places.
use Rattle.std.specs.Prelude.{◌≡◌, ℕ, ◌+◌, ◌-◌, Bool, List, [], ◌∷◌, Option, MatchOption, filter, length}
use Rattle.std.specs.List.{range_with_len, flat_map}
use Rattle.xs_tree.specs.Record.{Record, at, is_child, is_attribute, is_namespace, is_text_inside}

-- the places from k on that pass the test, in document order
abbrev pub passing_from : (ℕ → Bool) → List Record → ℕ → List ℕ
passing_from test rs k = filter test (range_with_len k (length rs - k))

-- the first of the places that are left from k on, with those that are left after it; none where none is left
abbrev pub IsFirstFrom : (ℕ → List ℕ) → ℕ → Option ℕ → Type 0
IsFirstFrom left k first = MatchOption first (left k ≡ []) (λ j. left k ≡ j ∷ left (j + 1))

-- the children of the node at n from the place k on
abbrev pub children_from : List Record → ℕ → ℕ → List ℕ
children_from rs n k = passing_from (is_child rs n) rs k

-- the attributes of the node at n from the place k on
abbrev pub attributes_from : List Record → ℕ → ℕ → List ℕ
attributes_from rs n k = passing_from (is_attribute rs n) rs k

-- the namespace nodes of the node at n from the place k on
abbrev pub namespaces_from : List Record → ℕ → ℕ → List ℕ
namespaces_from rs n k = passing_from (is_namespace rs n) rs k

-- the text nodes inside the node at n from the place k on
abbrev pub text_nodes_from : List Record → ℕ → ℕ → List ℕ
text_nodes_from rs n k = passing_from (is_text_inside rs n) rs k

-- the texts inside the node at n from the place k on, one after another
abbrev pub texts_from : List Record → ℕ → ℕ → List ℕ
texts_from rs n k = flat_map (λ j. (at rs j).text) (text_nodes_from rs n k)
