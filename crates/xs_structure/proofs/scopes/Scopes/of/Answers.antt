use Rattle.std.specs.Arc.{arc_value}
use Rattle.xs_structure.proofs.ScopeLemmas.{scopes-more}
use Rattle.xs_structure.specs.Scopes.{pairs_in}
use Rattle.xs_structure.proofs.scopes.Scopes.of.Goals as goal

pub loop-place-preserved : goal.loop-place-preserved
loop-place-preserved c =
    scopes-more (λ scope. pairs_in (arc_value scope)) c.args.tree.now c.loop-place.of_nodes.items c.push.new.self.items c.loop-place.place c.at-n.result
    c.in_ok-scope.scope c.in_ok-push.ensures.items c.loop-place.invariant c.in_ok-scope.ensures c.at-n.ensures
