-- The string value of a node, as an expression.
use Rattle.std.proofs.Common.{◌≡◌, ℕ, List, Bool, false, IsOk, refl}
use Rattle.std.specs.List.{list_any}
use Rattle.std.specs.Prelude.{codes}
use Rattle.xs_static.specs.Expressions.{has_unknown, trees_if}
use Rattle.xs_parser.specs.Faults.{expr_in, outcome_in}
use Rattle.xs_parser.specs.Lexing.{begun, lexed}
use Rattle.xs_parser.specs.Reading.{level, read, tree_by}

pub dot-ok : (pairs : List (List ℕ × List ℕ)) → IsOk (expr_in pairs (codes "."))
unfolding outcome_in lexed begun tree_by read level
dot-ok pairs = search

-- it holds no variable
pub dot-known : (known : List ℕ → List ℕ → Bool) (pairs : List (List ℕ × List ℕ))
    → list_any (has_unknown known) (trees_if (expr_in pairs (codes "."))) ≡ false
unfolding outcome_in lexed begun tree_by read level
dot-known known pairs = refl
