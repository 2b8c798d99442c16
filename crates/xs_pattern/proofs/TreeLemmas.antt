-- The trees of steps and paths, and their steps from the last one on.
use Rattle.std.proofs.Common.{◌≡◌, ◌==◌, suc, List, [], ◌∷◌, ◌++◌, length, reverse, Vec, Box, Global, refl, sym, ap, arith, ◌∙◌}
use Rattle.std.proofs.lemmas.Bool.{ne_eqb}
use Rattle.std.proofs.lemmas.List.{map-append, reverse-append}
use Rattle.xs_tree.specs.declared.axes.Axis.{Axis}
use Rattle.xs_value.specs.Tables.{Table}
use Rattle.xs_xpath.specs.declared.expr.Expr.{Expr}
use Rattle.xs_xpath.specs.declared.expr.Expr.TheOpen as layer
use Rattle.xs_xpath.specs.declared.expr.Expr.TheVariants as expr
use Rattle.xs_xpath.specs.declared.expr.Expr.TheFolds.{fold-roll-Expr}
use Rattle.xs_xpath.specs.declared.name.NodeTest.{NodeTest}
use Rattle.xs_xpath.specs.Exprs.{tree_from, tree_step, trees_from}
use Rattle.xs_xpath.specs.Patterns.{listed}
use Rattle.xs_xpath.specs.Tree.{Tree, descend, here, no_trees, root, step, trees}
use Rattle.xs_eval_spec.specs.Context.{Context}
use Rattle.xs_eval_spec.specs.Evaluation.{runs_of}
use Rattle.xs_eval_spec.specs.Paths.{Meaning}
use Rattle.xs_eval_spec.proofs.CaseLemmas.{runs_listed}
use Rattle.xs_pattern_spec.specs.Matching.{selected, step_nodes, steps_of}
use Rattle.xs_pattern.specs.Above.{is_plain}
use Rattle.xs_pattern.specs.steps.Climb.{backwards}

listed-trees : (ts : List Tree) → listed (trees ts) ≡ ts
listed-trees [] = refl
listed-trees (t ∷ ts) = ap (λ l. t ∷ l) (listed-trees ts)

-- the steps of a path
pub steps_of-path : (start : Box Expr Global) (steps : Vec Expr Global) → steps_of (tree_from (expr.Path start steps)) ≡ trees_from steps.items
steps_of-path start steps =
    ap steps_of (ap tree_from (sym (expr.rolls-Path start steps)) ∙ fold-roll-Expr Tree tree_step (layer.Path start steps))
    ∙ listed-trees (trees_from steps.items)

-- what a step and `//` represent
pub step-tree : (axis : Axis) (which : NodeTest) (predicates : Vec Expr Global)
    → tree_from (expr.Step axis which predicates) ≡ step axis which (trees (trees_from predicates.items))
step-tree axis which predicates =
    ap tree_from (sym (expr.rolls-Step axis which predicates)) ∙ fold-roll-Expr Tree tree_step (layer.Step axis which predicates)

pub descend-tree : tree_from expr.Descend ≡ descend
descend-tree = ap tree_from (sym expr.rolls-Descend) ∙ fold-roll-Expr Tree tree_step layer.Descend

pub here-tree : tree_from expr.Here ≡ here
here-tree = ap tree_from (sym expr.rolls-Here) ∙ fold-roll-Expr Tree tree_step layer.Here

pub root-tree : tree_from expr.Root ≡ root
root-tree = ap tree_from (sym expr.rolls-Root) ∙ fold-roll-Expr Tree tree_step layer.Root

-- whether a step has no predicates
pub step-plain : (axis : Axis) (which : NodeTest) (predicates : Vec Expr Global)
    → is_plain (tree_from (expr.Step axis which predicates)) ≡ (length predicates.items == 0)
step-plain axis which predicates = ap is_plain (step-tree axis which predicates) ∙ by_list predicates.items
  where
    by_list : (es : List Expr) → is_plain (step axis which (trees (trees_from es))) ≡ (length es == 0)
    by_list [] = refl
    by_list (e ∷ es) = sym (ne_eqb (suc (length es)) 0 (λ z. omega (arith, z)))

pub step-none : (axis : Axis) (which : NodeTest) (predicates : Vec Expr Global) → predicates.items ≡ []
    → tree_from (expr.Step axis which predicates) ≡ step axis which no_trees
step-none axis which predicates e = step-tree axis which predicates ∙ ap (λ (es : List Expr). step axis which (trees (trees_from es))) e

-- what a step selects
pub selected-step : (keys : List Table) (axis : Axis) (which : NodeTest) (predicates : Vec Expr Global) (c : Context)
    → selected keys (tree_from (expr.Step axis which predicates)) c ≡ step_nodes axis which (runs_of keys predicates.items) c
selected-step keys axis which predicates c =
    ap (λ (t : Tree). selected keys t c) (step-tree axis which predicates)
    ∙ ap (λ (ms : List Meaning). step_nodes axis which ms c) (runs_listed keys predicates.items)

-- the last step first
pub backwards-push : (before : List Expr) (s : Expr) → backwards (before ++ s ∷ []) ≡ tree_from s ∷ backwards before
backwards-push before s = ap reverse (map-append tree_from before (s ∷ [])) ∙ reverse-append (trees_from before) (tree_from s ∷ [])
