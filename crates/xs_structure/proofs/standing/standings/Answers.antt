use Rattle.std.proofs.Common.{◌+◌, subst, ℕ}
use Rattle.xs_structure.proofs.StandingLemmas.{none_declared, standings_more}
use Rattle.xs_structure.specs.steps.Namespaces.{AreNamespaces}
use Rattle.xs_structure.proofs.standing.standings.Goals as goal

pub loop-place-init : goal.loop-place-init
loop-place-init c = record {
  namespaces = none_declared c.args.tree.now c.new-namespaces.result c.new-namespaces.ensures.extensions c.new-namespaces.ensures.excluded;
  table = c.new-standings.ensures.items;
}

pub loop-place-preserved : goal.loop-place-preserved
loop-place-preserved c =
    let rs = c.args.tree.now in
    record {
      namespaces = subst (λ (k : ℕ). AreNamespaces rs (k + 1) c.enter.new.self) c.at-n.ensures c.in_ok-enter.ensures;
      table = standings_more rs c.loop-place.standings.items c.push.new.self.items c.loop-place.place c.at-n.result c.standing_at.result
          c.in_ok-push.ensures.items c.loop-place.invariant.table c.standing_at.ensures c.at-n.ensures;
    }
