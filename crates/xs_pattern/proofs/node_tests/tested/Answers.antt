use Rattle.std.proofs.Common.{◌≡◌, ℕ, ◌++◌, ◌<◌, List, ap, length, rules, subst, sym, ◌∙◌}
use Rattle.xs_tree.specs.Axis.{axis_list}
use Rattle.xs_eval_spec.specs.Context.{Context}
use Rattle.xs_eval_spec.specs.Paths.{tested}
use Rattle.xs_eval_spec.specs.Nodes.{AreSome}
use Rattle.xs_eval_spec.proofs.AxisListLemmas.{axis-inside, next-inside, tested-some}
use Rattle.xs_pattern.proofs.node_tests.tested.Goals as goal

pub passes-requires : goal.passes-requires
passes-requires c =
    subst (λ (x : Context). c.in-Some.node < length x.tree) (sym c.context.view_is)
    (next-inside (λ k. k < length c.args.context.now.tree) c.loop-node.yielded c.next.new.self c.in-Some.node
    (axis_list c.args.axis c.args.context.now.tree c.args.context.now.node)
    (sym (ap (λ xs. c.loop-node.yielded ++ xs) c.in-Some.ensures.steps) ∙ c.loop-node.invariant.2)
    (axis-inside c.args.axis c.args.context.now.tree c.args.context.now.node))

pub returns-clause-some : goal.returns-clause-some
returns-clause-some c =
    let e : c.loop-node.found.items ≡ tested c.args.axis c.args.test.now c.args.context.now = search rules in
    subst (λ (ns : List ℕ). AreSome c.args.context.now.tree ns) (sym e) (tested-some c.args.axis c.args.test.now c.args.context.now)
