use Rattle.std.proofs.Common.{◌≡◌, ◌==◌, false, List, [], ◌∷◌, None, length, refl, sym, ◌∙◌}
use Rattle.std.proofs.lemmas.Bool.{true≢false}
use Rattle.xs_xpath.specs.declared.expr.Expr.{Expr}
use Rattle.xs_xpath.specs.declared.name.NodeTest.{NodeTest}
use Rattle.xs_xpath.specs.Exprs.{trees_from}
use Rattle.xs_xpath.specs.Tree.{trees}
use Rattle.xs_rules.specs.Ranks.{bare_of}
use Rattle.xs_rules.proofs.ranks.bare_of.Goals as goal

bare-some : (which : NodeTest) (es : List Expr) → (length es == 0) ≡ false → None ≡ bare_of which (trees (trees_from es))
bare-some which [] e = absurd (true≢false e)
bare-some which (x ∷ xs) e = refl

pub returns-else-is_empty : goal.returns-else-is_empty
returns-else-is_empty c = bare-some c.args.test.now c.args.predicates.now (sym c.is_empty.ensures ∙ c.if-is_empty.false)
