use Rattle.std.proofs.Common.{List, Bool, ◌∙◌, ap}
use Rattle.std.specs.List.{list_any}
use Rattle.xs_static.proofs.ExpressionLemmas.{found-in-pattern, found_both}
use Rattle.xs_static.specs.Expressions.{any_unknown, is_forbidden_in}
use Rattle.xs_static.specs.steps.InForce.{visible_in}
use Rattle.xs_xpath.specs.declared.expr.Expr.{Expr}
use Rattle.xs_xpath.specs.Exprs.{trees_from}
use Rattle.xs_xpath.specs.Tree.{trees}
use Rattle.xs_static.proofs.expressions.found_in_pattern.Goals as goal

pub returns-in-Ok : goal.returns-in-Ok
returns-in-Ok c =
    let form = c.args.form in
    let known = visible_in c.args.visible.now in
    let es = c.in-Ok.pattern.alternatives.items in
    ap (λ (b : Bool). found_both b c.is_forbidden_in_any.result)
    (c.any_unknown.ensures ∙ ap (λ (xs : List Expr). any_unknown known (trees (trees_from xs))) c.deref.ensures.value)
    ∙ ap (λ (b : Bool). found_both (any_unknown known (trees (trees_from es))) b)
    (c.is_forbidden_in_any.ensures ∙ ap (λ (xs : List Expr). list_any (is_forbidden_in form) (trees_from xs)) c.deref-in-Ok.ensures.value)
    ∙ found-in-pattern form known (trees_from es) c.args.scope.now.pairs.items c.args.value.now c.in-Ok.ensures.parsed
