use Rattle.std.proofs.Common.{Bool, Option, drop, map}
use Rattle.xs_eval_spec.specs.Evaluation.{run_of, runs_of}
use Rattle.xs_pattern.specs.steps.Alone.{AreSaid}
use Rattle.xs_pattern.proofs.matcher.Matcher.say.Given as goal

abbrev pub invariant-loop-predicate : goal.invariant-loop-predicate
invariant-loop-predicate g l =
    (o : Option Bool) → AreSaid l.node l.context (drop l.predicate-index (map (run_of (g.K.KeyFinder.tables l.self.keys.now)) l.predicates)) o
    → AreSaid l.node l.context (runs_of (g.K.KeyFinder.tables l.self.keys.now) l.predicates) o
