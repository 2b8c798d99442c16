-- The tree that an expression of the code represents.
use Rattle.std.specs.Prelude.{List, map}
use Rattle.std.specs.Borrow.{Bor}
use Rattle.xs_tree.specs.declared.axes.Axis.{Axis}
use Rattle.xs_xpath.specs.declared.expr.Expr.{Expr}
use Rattle.xs_xpath.specs.declared.expr.Expr.TheOpen.{Expr-F, Number, Literal, Variable, Call, Negative, Chain, Group, Here, Root, Step, Descend, Filter, Path}
use Rattle.xs_xpath.specs.declared.expr.Expr.TheFolds.{fold-Expr}
use Rattle.xs_xpath.specs.declared.name.NodeTest.{NodeTest}
use Rattle.xs_xpath.specs.Tree.{Tree, Trees, number, literal, variable, call, negative, chain, group, here, root, step, descend, filter, path, trees}

abbrev pub tree_step : Expr-F Tree → Tree
tree_step (Number n) = number n
tree_step (Literal text) = literal text
tree_step (Variable uri local slot) = variable uri local slot
tree_step (Call name arguments) = call name (trees arguments.items)
tree_step (Negative m operand) = negative m operand.value
tree_step (Chain operators operands) = chain operators.items (trees operands.items)
tree_step (Group e) = group e.value
tree_step Here = here
tree_step Root = root
tree_step (Step axis test preds) = step axis test (trees preds.items)
tree_step Descend = descend
tree_step (Filter e preds) = filter e.value (trees preds.items)
tree_step (Path start steps) = path start.value (trees steps.items)

abbrev pub tree_from : Expr → Tree
tree_from = fold-Expr Tree tree_step

abbrev pub trees_from : List Expr → List Tree
trees_from = map tree_from

-- the parts of a step as the code has them
abbrev pub step_data : Axis × Bor NodeTest × Bor (List Expr) → Axis × NodeTest × Trees
step_data s = (s.0, s.1.now, trees (trees_from s.2.now))
