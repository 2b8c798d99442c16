use Rattle.std.proofs.Common.{[], IfOk, List, ℕ, subst}
use Rattle.xs_eval_spec.specs.Evaluation.{run_of_tree}
use Rattle.xs_pattern_spec.specs.Matching.{pattern_context}
use Rattle.xs_xpath.specs.Exprs.{tree_from}
use Rattle.xs_xpath.specs.Tree.{Tree}
use Rattle.xs_keys.specs.steps.Pairs.{IsUsed}
use Rattle.xs_keys.proofs.uses.use_at.Goals as goal

pub returns : goal.returns
returns c =
    let rs = c.args.tree.now in
    let n = c.args.node in
    let d = c.args.decl.now in
    record {
      used =
          subst (λ (e : Tree). IfOk c.used_in.result (IsUsed rs (run_of_tree [] e (pattern_context rs d.value.scope n)).end)) c.expr.ensures
          (subst (λ (s : List (List ℕ × List ℕ)). IfOk c.used_in.result
          (IsUsed rs (run_of_tree [] (tree_from c.expr.result.now) (pattern_context rs s n)).end)) c.scope.ensures c.used_in.ensures.used);
    }
