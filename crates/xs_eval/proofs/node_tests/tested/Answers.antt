use Rattle.std.proofs.Common.{ℕ, ◌++◌, List, ap, subst, sym, ◌∙◌}
use Rattle.xs_eval_spec.specs.Paths.{tested}
use Rattle.xs_eval_spec.specs.Nodes.{AreSome}
use Rattle.xs_eval_spec.proofs.AxisListLemmas.{tested-some}
use Rattle.xs_eval.proofs.node_tests.tested.Goals as goal

pub returns-clause-some : goal.returns-clause-some
returns-clause-some c =
    let whole = tested c.args.axis c.args.test.now c.args.context.now in
    subst (λ (ns : List ℕ). AreSome c.args.context.now.tree ns)
    (sym (c.in_ok-find.ensures.nodes ∙ ap (λ (l : List ℕ). l ++ whole) c.new-found.ensures.nodes))
    (tested-some c.args.axis c.args.test.now c.args.context.now)
