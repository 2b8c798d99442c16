use Rattle.std.proofs.Common.{◌≡◌, drop, map}
use Rattle.xs_eval_spec.specs.Evaluation.{run_of, runs_of}
use Rattle.xs_eval_spec.specs.Nodes.{AreSome}
use Rattle.xs_pattern_spec.specs.Predicates.{all_kept}
use Rattle.xs_pattern.proofs.matcher.Matcher.all_kept.Given as goal

abbrev pub invariant-loop-predicate : goal.invariant-loop-predicate
invariant-loop-predicate g l = record {
  whole :
      all_kept l.context l.nodes.items (drop l.predicate-index (map (run_of (g.K.KeyFinder.tables l.self.keys.now)) l.predicates))
      ≡ all_kept l.context l.fn.nodes.items (runs_of (g.K.KeyFinder.tables l.self.keys.now) l.predicates);
  some : AreSome l.context.tree l.nodes.items;
}
