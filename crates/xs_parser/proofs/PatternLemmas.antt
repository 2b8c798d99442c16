-- The alternatives of a pattern, as a list.
use Rattle.std.proofs.Common.{◌≡◌, List, [], ◌∷◌, refl, ap}
use Rattle.xs_xpath.specs.Patterns.{listed}
use Rattle.xs_xpath.specs.Tree.{Tree, trees}

pub listed_trees : (es : List Tree) → listed (trees es) ≡ es
listed_trees [] = refl
listed_trees (e ∷ es) = ap (λ fs. e ∷ fs) (listed_trees es)
