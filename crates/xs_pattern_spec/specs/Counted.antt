-- The numbers that an instruction counts for a node (XSLT 1.0, 7.7), by the patterns of its declaration.
use Rattle.std.specs.Prelude.{ℕ, Bool, false, List, Option, Some, None}
use Rattle.xs_pattern_spec.specs.Matching.{is_match}
use Rattle.xs_numbering.specs.Counting.{any_number, is_alike, list_at, sibling_number}
use Rattle.xs_sheet.specs.declared.body.NumberDecl.{NumberDecl}
use Rattle.xs_sheet.specs.declared.scoped.ScopedPattern.{ScopedPattern}
use Rattle.xs_tree.specs.Record.{Record, at}
use Rattle.xs_value.specs.Tables.{Table}

-- whether the node at k counts for the node at n: it matches `count`; where that is absent, it is alike to the node at n
abbrev pub counts : List Table → List Record → Option ScopedPattern → (n k : ℕ) → Bool
counts keys rs None n k = is_alike (at rs k) (at rs n)
counts keys rs (Some p) n k = is_match keys rs p k

-- whether it matches `from`
abbrev pub is_from : List Table → List Record → Option ScopedPattern → ℕ → Bool
is_from keys rs None k = false
is_from keys rs (Some p) k = is_match keys rs p k

-- the list for the node at n
abbrev pub number_list : List Table → List Record → NumberDecl → (n : ℕ) → List ℕ
number_list keys rs d n = list_at d.level (counts keys rs d.count n) (is_from keys rs d.from) rs n

-- the numbers among the nodes that are alike
abbrev pub alike_number : List Record → ℕ → ℕ
alike_number rs n = sibling_number (λ k. is_alike (at rs k) (at rs n)) rs n

abbrev pub alike_any_number : (from : ℕ → Bool) → List Record → ℕ → ℕ
alike_any_number from rs n = any_number (λ k. is_alike (at rs k) (at rs n)) from rs n
