-- The node at the position that a predicate gives as a number.
use Rattle.std.specs.Prelude.{ℕ, ◌+◌, ◌-◌, ◌++◌, List, [], ◌∷◌, Option, None, slice_get, if◌then◌else◌, ℤ, pos, negsuc, int_lt}
use Rattle.xs_num.specs.declared.number.Number.{Number}
use Rattle.xs_eval_spec.specs.Paths.{is_position, kept_if}

-- the nodes that a number keeps, where the first one has this position
abbrev pub picked : Number → ℕ → List ℕ → List ℕ
picked n position [] = []
picked n position (x ∷ xs) = kept_if (is_position n position) [] x ++ picked n (position + 1) xs

-- the place, from 0, of a position
abbrev pub place_of : ℤ → ℕ
place_of (pos n) = n - 1
place_of (negsuc n) = 0

abbrev pub node_at : ℤ → List ℕ → Option ℕ
node_at position ns = if int_lt position (pos 1) then None else slice_get ns (place_of position)
