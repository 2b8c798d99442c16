use denote.Param.Weighed.{most}
use Rattle.std.proofs.Common.{◌≡◌, ◌+◌, ◌*◌, ◌<◌, ◌≤◌, All, drop, length, map, max}
use Rattle.std.specs.List.{enumerate_from}
use Rattle.xs_trace.specs.Run.{give, limited}
use Rattle.xs_value.specs.Conversion.{IsIn}
use Rattle.xs_value.specs.declared.value.Value.TheVariants.{Nodes}
use Rattle.xs_value.specs.NodeSet.{in_order}
use Rattle.xs_xpath.specs.declared.expr.Expr.{size-Expr}
use Rattle.xs_eval_spec.specs.Evaluation.{and_argument, answered, called_of, joined_from, run_of, runs_of}
use Rattle.xs_eval_spec.specs.Paths.{and_from, filtered, judged, kept_of, path, through}
use Rattle.xs_eval_spec.specs.Nodes.{AreSome}
use Rattle.xs_eval_spec.proofs.StepLemmas.{Rest}
use Rattle.xs_eval.proofs.evaluator.Evaluator.+evaluate.Given as goal

-- the depth of the expression, or of the deepest of a list, and below it the calls that go down no level
abbrev pub decreases-evaluate : goal.decreases-evaluate
decreases-evaluate g l = 8 * size-Expr l.expr.now

abbrev pub decreases-operand : goal.decreases-operand
decreases-operand g l = 8 * size-Expr l.expr.now + 1

abbrev pub decreases-evaluate_call : goal.decreases-evaluate_call
decreases-evaluate_call g l = 8 * most size-Expr l.arguments.now + 2

abbrev pub decreases-evaluate_negative : goal.decreases-evaluate_negative
decreases-evaluate_negative g l = 8 * size-Expr l.inner.now + 2

abbrev pub decreases-evaluate_chain : goal.decreases-evaluate_chain
decreases-evaluate_chain g l = 8 * most size-Expr l.operands.now + 5

abbrev pub decreases-join_all : goal.decreases-join_all
decreases-join_all g l = 8 * most size-Expr l.operands.now + 4

abbrev pub decreases-join : goal.decreases-join
decreases-join g l = 8 * size-Expr l.right.now + 3

abbrev pub decreases-join_right : goal.decreases-join_right
decreases-join_right g l = 8 * size-Expr l.right.now + 2

abbrev pub decreases-evaluate_step : goal.decreases-evaluate_step
decreases-evaluate_step g l = 8 * most size-Expr l.predicates.now + 4

abbrev pub decreases-evaluate_filter : goal.decreases-evaluate_filter
decreases-evaluate_filter g l = 8 * max (size-Expr l.inner.now) (most size-Expr l.predicates.now) + 5

abbrev pub decreases-keep_of_set : goal.decreases-keep_of_set
decreases-keep_of_set g l = 8 * most size-Expr l.predicates.now + 4

abbrev pub decreases-keep : goal.decreases-keep
decreases-keep g l = 8 * most size-Expr l.predicates.now + 3

abbrev pub decreases-filter : goal.decreases-filter
decreases-filter g l = 8 * size-Expr l.predicate.now + 2

abbrev pub decreases-filter_each : goal.decreases-filter_each
decreases-filter_each g l = 8 * size-Expr l.predicate.now + 1

abbrev pub decreases-evaluate_path : goal.decreases-evaluate_path
decreases-evaluate_path g l = 8 * max (size-Expr l.start.now) (most size-Expr l.steps.now) + 5

abbrev pub decreases-follow : goal.decreases-follow
decreases-follow g l = 8 * size-Expr l.step.now + 4

abbrev pub decreases-follow_one : goal.decreases-follow_one
decreases-follow_one g l = 8 * size-Expr l.step.now + 3

abbrev pub decreases-follow_each : goal.decreases-follow_each
decreases-follow_each g l = 8 * size-Expr l.step.now + 3

abbrev pub decreases-evaluate_nodes : goal.decreases-evaluate_nodes
decreases-evaluate_nodes g l = 8 * size-Expr l.expr.now + 2

abbrev pub invariant-evaluate_call-loop-argument : goal.invariant-evaluate_call-loop-argument
invariant-evaluate_call-loop-argument g l = record {
  reported :
      limited l.self.site (called_of (g.K.KeyFinder.tables l.self.keys.now) l.function (runs_of (g.K.KeyFinder.tables l.self.keys.now) l.arguments) l.context)
      (g.T.Tally.state l.fn.tally)
      ≡ Rest l.self.site (and_argument l.context) (answered (g.K.KeyFinder.tables l.self.keys.now) l.context l.function)
      (map (run_of (g.K.KeyFinder.tables l.self.keys.now)) l.arguments) l.argument-index l.values.items (g.T.Tally.state l.tally);
  inside : All (IsIn l.context.tree) l.values.items;
  kept : g.T.Tally.kept l.tally ≡ g.T.Tally.kept l.fn.tally;
}

abbrev pub invariant-join_all-loop-right : goal.invariant-join_all-loop-right
invariant-join_all-loop-right g l = record {
  reported :
      limited l.self.site (joined_from l.context l.fn.left l.fn.operators (runs_of (g.K.KeyFinder.tables l.self.keys.now) l.operands))
      (g.T.Tally.state l.fn.tally)
      ≡ limited l.self.site (joined_from l.context l.left l.operators
      (drop l.right-index (map (run_of (g.K.KeyFinder.tables l.self.keys.now)) l.operands))) (g.T.Tally.state l.tally);
  inside : IsIn l.context.tree l.left;
  kept : g.T.Tally.kept l.tally ≡ g.T.Tally.kept l.fn.tally;
}

abbrev pub invariant-keep-loop-predicate : goal.invariant-keep-loop-predicate
invariant-keep-loop-predicate g l = record {
  reported :
      limited l.self.site (kept_of l.context (runs_of (g.K.KeyFinder.tables l.self.keys.now) l.predicates) l.fn.nodes) (g.T.Tally.state l.fn.tally)
      ≡ Rest l.self.site (filtered l.context) (λ kept. give (Nodes (in_order kept)))
      (map (run_of (g.K.KeyFinder.tables l.self.keys.now)) l.predicates) l.predicate-index l.nodes (g.T.Tally.state l.tally);
  some : AreSome l.context.tree l.nodes;
  kept : g.T.Tally.kept l.tally ≡ g.T.Tally.kept l.fn.tally;
}

abbrev pub invariant-filter_each-loop-node : goal.invariant-filter_each-loop-node
invariant-filter_each-loop-node g l = record {
  reported :
      limited l.self.site (filtered l.context l.nodes (run_of (g.K.KeyFinder.tables l.self.keys.now) l.predicate)) (g.T.Tally.state l.fn.tally)
      ≡ Rest l.self.site (judged l.context (length l.nodes) (run_of (g.K.KeyFinder.tables l.self.keys.now) l.predicate)) (λ kept. give kept)
      (enumerate_from 1 l.nodes) l.node-index l.kept (g.T.Tally.state l.tally);
  place : l.position ≡ l.node-index;
  inside : All (λ k. k < length l.context.tree) l.kept;
  few : length l.kept ≤ l.node-index;
  kept : g.T.Tally.kept l.tally ≡ g.T.Tally.kept l.fn.tally;
}

abbrev pub invariant-evaluate_path-loop-step : goal.invariant-evaluate_path-loop-step
invariant-evaluate_path-loop-step g l = record {
  reported :
      limited l.self.site (path (run_of (g.K.KeyFinder.tables l.self.keys.now) l.start) (runs_of (g.K.KeyFinder.tables l.self.keys.now) l.steps) l.context)
      (g.T.Tally.state l.fn.tally)
      ≡ Rest l.self.site (through l.context) (λ reached. give (Nodes reached))
      (map (run_of (g.K.KeyFinder.tables l.self.keys.now)) l.steps) l.step-index l.nodes (g.T.Tally.state l.tally);
  inside : All (λ k. k < length l.context.tree) l.nodes;
  kept : g.T.Tally.kept l.tally ≡ g.T.Tally.kept l.fn.tally;
}

abbrev pub invariant-follow_each-loop-node : goal.invariant-follow_each-loop-node
invariant-follow_each-loop-node g l = record {
  reported :
      limited l.self.site (through l.context l.nodes (run_of (g.K.KeyFinder.tables l.self.keys.now) l.step)) (g.T.Tally.state l.fn.tally)
      ≡ Rest l.self.site (and_from l.context (run_of (g.K.KeyFinder.tables l.self.keys.now) l.step)) (λ found. give (in_order found))
      l.nodes l.node-index l.found (g.T.Tally.state l.tally);
  inside : All (λ k. k < length l.context.tree) l.found;
  kept : g.T.Tally.kept l.tally ≡ g.T.Tally.kept l.fn.tally;
}
