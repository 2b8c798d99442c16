use Rattle.std.proofs.Common.{◌≡◌, ◌++◌, length}
use Rattle.xs_eval_spec.specs.Evaluation.{run_of}
use Rattle.xs_pattern_spec.specs.Predicates.{holds, kept}
use Rattle.xs_pattern.proofs.KeptLemmas.{from_place}
use Rattle.xs_pattern.proofs.matcher.Matcher.kept.Given as goal

abbrev pub invariant-loop-node : goal.invariant-loop-node
invariant-loop-node g l = record {
  whole :
      l.found.items ++ from_place (holds l.context (run_of (g.K.KeyFinder.tables l.self.keys.now) l.predicate) (length l.nodes)) l.nodes l.node-index
      ≡ kept l.context l.nodes (run_of (g.K.KeyFinder.tables l.self.keys.now) l.predicate);
  place : l.position ≡ l.node-index;
}
