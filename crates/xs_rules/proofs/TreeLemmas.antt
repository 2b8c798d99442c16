-- The alternatives of a pattern, by their places.
use Rattle.std.proofs.Common.{◌≡◌, ◌∙◌, ℕ, List, Option, ap, option_map, slice_get, sym}
use Rattle.std.proofs.lemmas.Option.{slice_get-map}
use Rattle.xs_xpath.specs.declared.expr.Expr.{Expr}
use Rattle.xs_xpath.specs.Exprs.{tree_from, trees_from}
use Rattle.xs_xpath.specs.Tree.{Tree}

pub tree_at : (es : List Expr) (ts : List Tree) (k : ℕ) (o : Option Expr) → trees_from es ≡ ts → o ≡ slice_get es k → option_map tree_from o ≡ slice_get ts k
tree_at es ts k o same at = ap (option_map tree_from) at ∙ sym (slice_get-map tree_from es k) ∙ ap (λ xs. slice_get xs k) same
