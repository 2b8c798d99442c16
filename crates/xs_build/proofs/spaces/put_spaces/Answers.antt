use Rattle.std.proofs.Common.{List, ◌++◌, sym, subst}
use Rattle.xs_tree.specs.Record.{Record}
use Rattle.xs_build.specs.Namespaces.{Bindings}
use Rattle.xs_build.specs.Nodes.{spaces}
use Rattle.xs_build.proofs.NamespaceNodeLemmas.{IsSpaced, spaced_step}
use Rattle.xs_build.proofs.spaces.put_spaces.Goals as goal

pub loop-prefix-preserved : goal.loop-prefix-preserved
loop-prefix-preserved c =
    let whole = c.args.tree.now ++ spaces c.args.element c.args.scope.now in
    let next = subst (λ (left : Bindings). IsSpaced c.loop-prefix.tree c.args.element left whole) c.in-Some.ensures.steps c.loop-prefix.invariant in
    subst (λ (tree : List Record). IsSpaced tree c.args.element c.next.new.self whole) (sym c.in_ok-after.ensures)
    (spaced_step c.loop-prefix.tree c.args.element (c.in-Some.prefix.now, c.in-Some.uri.now) c.next.new.self whole next)
