-- The equations of `run_of`, one for each kind of expression.
use Rattle.std.proofs.Common.{◌≡◌, ℕ, List, [], ◌∷◌, Option, Vec, Box, Global, refl, sym, ap, ◌∙◌}
use Rattle.xs_num.specs.declared.number.Number.{Number}
use Rattle.xs_trace.specs.Run.{give}
use Rattle.xs_tree.specs.declared.axes.Axis.{Axis}
use Rattle.xs_tree.specs.declared.axes.Axis.TheVariants.{DescendantOrSelf}
use Rattle.xs_tree.specs.Axis.{root_of}
use Rattle.xs_value.specs.declared.value.Value.TheVariants.{Number as Numeral, Chars, Nodes}
use Rattle.xs_value.specs.Tables.{Table}
use Rattle.xs_xpath.specs.declared.expr.Expr.{Expr}
use Rattle.xs_xpath.specs.declared.expr.Expr.TheOpen as layer
use Rattle.xs_xpath.specs.declared.expr.Expr.TheVariants as expr
use Rattle.xs_xpath.specs.declared.expr.Expr.TheFolds.{fold-roll-Expr}
use Rattle.xs_xpath.specs.declared.name.Function.{Function}
use Rattle.xs_xpath.specs.declared.name.NodeTest.{NodeTest}
use Rattle.xs_xpath.specs.declared.name.NodeTest.TheVariants.{Node}
use Rattle.xs_xpath.specs.declared.name.Slot.{Slot}
use Rattle.xs_xpath.specs.declared.token.Operator.{Operator}
use Rattle.xs_xpath.specs.Exprs.{tree_from, tree_step, trees_from}
use Rattle.xs_xpath.specs.Tree.{Tree, trees}
use Rattle.xs_eval_spec.specs.Context.{Context}
use Rattle.xs_eval_spec.specs.Evaluation.{called_of, chain, negative, run_of, run_of_tree, runs_of, runs_of_trees, variable}
use Rattle.xs_eval_spec.specs.Paths.{Meaning, filter_expr, path, step}

-- the run of an expression whose tree is known
of_tree : {t : Tree} (e : Expr) (keys : List Table) (c : Context) → tree_from e ≡ t → run_of keys e c ≡ run_of_tree keys t c
of_tree e keys c q = ap (λ (t : Tree). run_of_tree keys t c) q

-- the runs of a list of expressions
pub runs_listed : (keys : List Table) (es : List Expr) → runs_of_trees keys (trees (trees_from es)) ≡ runs_of keys es
runs_listed keys [] = refl
runs_listed keys (e ∷ es) = ap (λ (ms : List Meaning). run_of keys e ∷ ms) (runs_listed keys es)

pub run_number : (keys : List Table) (n : Number) (c : Context) → run_of keys (expr.Number n) c ≡ give (Numeral n)
run_number keys n c = of_tree (expr.Number n) keys c (ap tree_from (sym (expr.rolls-Number n)) ∙ fold-roll-Expr Tree tree_step (layer.Number n))

pub run_literal : (keys : List Table) (text : List ℕ) (c : Context) → run_of keys (expr.Literal text) c ≡ give (Chars text)
run_literal keys text c = of_tree (expr.Literal text) keys c (ap tree_from (sym (expr.rolls-Literal text)) ∙ fold-roll-Expr Tree tree_step (layer.Literal text))

pub run_variable : (keys : List Table) (uri local : List ℕ) (slot : Option Slot) (c : Context) → run_of keys (expr.Variable uri local slot) c ≡ variable slot c
run_variable keys uri local slot c =
    of_tree (expr.Variable uri local slot) keys c
    (ap tree_from (sym (expr.rolls-Variable uri local slot)) ∙ fold-roll-Expr Tree tree_step (layer.Variable uri local slot))

pub run_call : (keys : List Table) (function : Function) (args : Vec Expr Global) (c : Context)
    → run_of keys (expr.Call function args) c ≡ called_of keys function (runs_of keys args.items) c
run_call keys function args c =
    of_tree (expr.Call function args) keys c (ap tree_from (sym (expr.rolls-Call function args)) ∙ fold-roll-Expr Tree tree_step (layer.Call function args))
    ∙ ap (λ (ms : List Meaning). called_of keys function ms c) (runs_listed keys args.items)

pub run_negative : (keys : List Table) (signs : ℕ) (operand : Box Expr Global) (c : Context)
    → run_of keys (expr.Negative signs operand) c ≡ negative signs (run_of keys operand.value) c
run_negative keys signs operand c =
    of_tree (expr.Negative signs operand) keys c
    (ap tree_from (sym (expr.rolls-Negative signs operand)) ∙ fold-roll-Expr Tree tree_step (layer.Negative signs operand))

pub run_chain : (keys : List Table) (ops : Vec Operator Global) (operands : Vec Expr Global) (c : Context)
    → run_of keys (expr.Chain ops operands) c ≡ chain ops.items (runs_of keys operands.items) c
run_chain keys ops operands c =
    of_tree (expr.Chain ops operands) keys c (ap tree_from (sym (expr.rolls-Chain ops operands)) ∙ fold-roll-Expr Tree tree_step (layer.Chain ops operands))
    ∙ ap (λ (ms : List Meaning). chain ops.items ms c) (runs_listed keys operands.items)

pub run_group : (keys : List Table) (inner : Box Expr Global) (c : Context) → run_of keys (expr.Group inner) c ≡ run_of keys inner.value c
run_group keys inner c = of_tree (expr.Group inner) keys c (ap tree_from (sym (expr.rolls-Group inner)) ∙ fold-roll-Expr Tree tree_step (layer.Group inner))

pub run_here : (keys : List Table) (c : Context) → run_of keys expr.Here c ≡ give (Nodes (c.node ∷ []))
run_here keys c = of_tree expr.Here keys c (ap tree_from (sym expr.rolls-Here) ∙ fold-roll-Expr Tree tree_step layer.Here)

pub run_root : (keys : List Table) (c : Context) → run_of keys expr.Root c ≡ give (Nodes (root_of c.tree c.node ∷ []))
run_root keys c = of_tree expr.Root keys c (ap tree_from (sym expr.rolls-Root) ∙ fold-roll-Expr Tree tree_step layer.Root)

pub run_step : (keys : List Table) (axis : Axis) (test : NodeTest) (predicates : Vec Expr Global) (c : Context)
    → run_of keys (expr.Step axis test predicates) c ≡ step axis test (runs_of keys predicates.items) c
run_step keys axis test predicates c =
    of_tree (expr.Step axis test predicates) keys c
    (ap tree_from (sym (expr.rolls-Step axis test predicates)) ∙ fold-roll-Expr Tree tree_step (layer.Step axis test predicates))
    ∙ ap (λ (ms : List Meaning). step axis test ms c) (runs_listed keys predicates.items)

pub run_descend : (keys : List Table) (c : Context) → run_of keys expr.Descend c ≡ step DescendantOrSelf Node [] c
run_descend keys c = of_tree expr.Descend keys c (ap tree_from (sym expr.rolls-Descend) ∙ fold-roll-Expr Tree tree_step layer.Descend)

pub run_filter : (keys : List Table) (inner : Box Expr Global) (predicates : Vec Expr Global) (c : Context)
    → run_of keys (expr.Filter inner predicates) c ≡ filter_expr (run_of keys inner.value) (runs_of keys predicates.items) c
run_filter keys inner predicates c =
    of_tree (expr.Filter inner predicates) keys c
    (ap tree_from (sym (expr.rolls-Filter inner predicates)) ∙ fold-roll-Expr Tree tree_step (layer.Filter inner predicates))
    ∙ ap (λ (ms : List Meaning). filter_expr (run_of keys inner.value) ms c) (runs_listed keys predicates.items)

pub run_path : (keys : List Table) (start : Box Expr Global) (steps : Vec Expr Global) (c : Context)
    → run_of keys (expr.Path start steps) c ≡ path (run_of keys start.value) (runs_of keys steps.items) c
run_path keys start steps c =
    of_tree (expr.Path start steps) keys c (ap tree_from (sym (expr.rolls-Path start steps)) ∙ fold-roll-Expr Tree tree_step (layer.Path start steps))
    ∙ ap (λ (ms : List Meaning). path (run_of keys start.value) ms c) (runs_listed keys steps.items)

pub ruleset cases = (
  run_number,
  run_literal,
  run_variable,
  run_call,
  run_negative,
  run_chain,
  run_group,
  run_here,
  run_root,
  run_step,
  run_descend,
  run_filter,
  run_path,
)
