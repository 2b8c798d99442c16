use Rattle.std.proofs.Common.{◌≡◌, length}
use Rattle.xs_eval_spec.specs.Evaluation.{run_of}
use Rattle.xs_pattern_spec.specs.Predicates.{holds, is_among, kept}
use Rattle.xs_pattern.proofs.KeptLemmas.{from_place}
use Rattle.xs_pattern.proofs.matcher.Matcher.is_kept.Given as goal

abbrev pub invariant-loop-other : goal.invariant-loop-other
invariant-loop-other g l = record {
  whole :
      is_among l.node (from_place (holds l.context (run_of (g.K.KeyFinder.tables l.self.keys.now) l.predicate) (length l.nodes)) l.nodes l.other-index)
      ≡ is_among l.node (kept l.context l.nodes (run_of (g.K.KeyFinder.tables l.self.keys.now) l.predicate));
  place : l.position ≡ l.other-index;
}
