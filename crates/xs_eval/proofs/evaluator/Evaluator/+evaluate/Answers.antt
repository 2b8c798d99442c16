use Rattle.std.proofs.Common.{ℕ, ◌<◌, ◌≤◌, List, get_or, ◌≡◌, ◌∙◌, ◌+◌, ◌++◌, ◌∷◌, [], ap, arith, drop, length, map, refl, sym, subst}
use Rattle.std.proofs.Common.{All, rules}
use Rattle.std.proofs.lemmas.List.Elements.{All-append, All-get_or, All-push}
use Rattle.std.proofs.lemmas.Result.{err_from_is_err_and}
use Rattle.std.specs.List.{enumerate_from}
use Rattle.xs_trace.specs.Play.{Goes}
use Rattle.xs_trace.specs.Run.{costs, give, limited, ◌>>=◌}
use Rattle.xs_value.specs.Conversion.{IsIn}
use Rattle.xs_value.specs.declared.value.Value.TheVariants.{Nodes}
use Rattle.xs_value.specs.NodeSet.{in_order}
use Rattle.xs_value.proofs.NodeSetLemmas.{in_order-same}
use Rattle.xs_xpath.specs.declared.expr.Expr.TheVariants as expr
use Rattle.xs_xpath.specs.declared.token.Operator.TheVariants.{Or}
use Rattle.xs_eval_spec.specs.Conditions.{IsContext}
use Rattle.xs_eval_spec.specs.Context.{Context, at_node}
use Rattle.xs_eval_spec.specs.Evaluation.{and_argument, answered, arguments, called_of, chain, joined, joined_from, run_of, runs_of}
use Rattle.xs_eval_spec.specs.Operators.{negation, operated}
use Rattle.xs_eval_spec.specs.Nodes.{AreSome}
use Rattle.xs_eval.specs.steps.Positions.{picked}
use Rattle.xs_eval_spec.specs.Paths.{and_from, filter_expr, filtered, judged, kept_if, kept_of, path, selected, selects, step, steps_from, through}
use Rattle.xs_eval_spec.specs.Results.{given, nodes_in}
use Rattle.xs_eval_spec.proofs.CaseLemmas.{run_call, run_chain, run_number}
use Rattle.xs_eval_spec.proofs.CaseLemmas.{run_step, run_filter, run_path}
use Rattle.xs_eval_spec.proofs.InsideLemmas.{in_order_all, kept_if_all, kept_if_few, moved, some_in_list}
use Rattle.xs_eval.proofs.PositionLemmas.{filtered_by_number, picked_some}
use Rattle.xs_eval_spec.proofs.StepLemmas.{by_case, closes, continues, costs_on, exits, exits_at_costs, exits_at_tick, exits_in_items, exits_in_parts}
use Rattle.xs_eval_spec.proofs.StepLemmas.{gives, goes_on, items_done, items_on, joins_here, joins_no_more}
use Rattle.xs_eval_spec.proofs.StepLemmas.{Rest, but_first, first_and_rest, first_and_rest_at}
use Rattle.xs_eval_spec.proofs.StepLemmas.{mapped_at, mapped_below, mapped_end, parts_on, placed_at, placed_below, placed_end, no_items, only_item, ticks_on}
use Rattle.xs_eval.proofs.UnionLemmas.{only_runs, union_runs}
use Rattle.xs_eval.proofs.evaluator.Evaluator.+evaluate.Goals as goal

-- an expression of each kind that holds others in a list
pub evaluate-returns-in-Call-clause-reported : goal.evaluate-returns-in-Call-clause-reported
evaluate-returns-in-Call-clause-reported g t c =
    let keys = g.K.KeyFinder.tables c.args.self.now.keys.now in
    let ctx = c.args.context.now in
    by_case c.args.self.now.site keys c.args.expr.now (expr.Call c.in-Call.function c.in-Call.arguments) ctx
    (called_of keys c.in-Call.function (runs_of keys c.deref.result.now) ctx)
    c.evaluate_call.result (g.T.Tally.state c.args.tally.now) (g.T.Tally.state c.evaluate_call.new.tally)
    c.in-Call.is (run_call keys c.in-Call.function c.in-Call.arguments ctx
    ∙ ap (λ es. called_of keys c.in-Call.function (runs_of keys es) ctx) (sym c.deref.ensures.value)) c.evaluate_call.ensures.reported

pub evaluate-returns-in-Chain-clause-reported : goal.evaluate-returns-in-Chain-clause-reported
evaluate-returns-in-Chain-clause-reported g t c =
    let keys = g.K.KeyFinder.tables c.args.self.now.keys.now in
    let ctx = c.args.context.now in
    by_case c.args.self.now.site keys c.args.expr.now (expr.Chain c.in-Chain.operators c.in-Chain.operands) ctx
    (chain c.deref-in-Chain.result.now (runs_of keys c.deref-in-Chain-2.result.now) ctx)
    c.evaluate_chain.result (g.T.Tally.state c.args.tally.now) (g.T.Tally.state c.evaluate_chain.new.tally)
    c.in-Chain.is (run_chain keys c.in-Chain.operators c.in-Chain.operands ctx
    ∙ ap (λ ops. chain ops (runs_of keys c.in-Chain.operands.items) ctx) (sym c.deref-in-Chain.ensures.value)
    ∙ ap (λ es. chain c.deref-in-Chain.result.now (runs_of keys es) ctx) (sym c.deref-in-Chain-2.ensures.value)) c.evaluate_chain.ensures.reported

pub evaluate-returns-in-Step-clause-reported : goal.evaluate-returns-in-Step-clause-reported
evaluate-returns-in-Step-clause-reported g t c =
    let keys = g.K.KeyFinder.tables c.args.self.now.keys.now in
    let ctx = c.args.context.now in
    by_case c.args.self.now.site keys c.args.expr.now (expr.Step c.in-Step.axis c.in-Step.test c.in-Step.predicates) ctx
    (step c.in-Step.axis c.in-Step.test (runs_of keys c.deref-in-Step.result.now) ctx)
    c.evaluate_step.result (g.T.Tally.state c.args.tally.now) (g.T.Tally.state c.evaluate_step.new.tally)
    c.in-Step.is (run_step keys c.in-Step.axis c.in-Step.test c.in-Step.predicates ctx
    ∙ ap (λ es. step c.in-Step.axis c.in-Step.test (runs_of keys es) ctx) (sym c.deref-in-Step.ensures.value)) c.evaluate_step.ensures.reported

pub evaluate-returns-in-Filter-clause-reported : goal.evaluate-returns-in-Filter-clause-reported
evaluate-returns-in-Filter-clause-reported g t c =
    let keys = g.K.KeyFinder.tables c.args.self.now.keys.now in
    let ctx = c.args.context.now in
    by_case c.args.self.now.site keys c.args.expr.now (expr.Filter c.in-Filter.inner c.in-Filter.predicates) ctx
    (filter_expr (run_of keys c.deref-in-Filter.result.now) (runs_of keys c.deref-in-Filter-2.result.now) ctx)
    c.evaluate_filter.result (g.T.Tally.state c.args.tally.now) (g.T.Tally.state c.evaluate_filter.new.tally)
    c.in-Filter.is (run_filter keys c.in-Filter.inner c.in-Filter.predicates ctx
    ∙ ap (λ e. filter_expr (run_of keys e) (runs_of keys c.in-Filter.predicates.items) ctx) (sym c.deref-in-Filter.ensures)
    ∙ ap (λ es. filter_expr (run_of keys c.deref-in-Filter.result.now) (runs_of keys es) ctx) (sym c.deref-in-Filter-2.ensures.value))
    c.evaluate_filter.ensures.reported

pub evaluate-returns-in-Path-clause-reported : goal.evaluate-returns-in-Path-clause-reported
evaluate-returns-in-Path-clause-reported g t c =
    let keys = g.K.KeyFinder.tables c.args.self.now.keys.now in
    let ctx = c.args.context.now in
    by_case c.args.self.now.site keys c.args.expr.now (expr.Path c.in-Path.start c.in-Path.steps) ctx
    (path (run_of keys c.deref-in-Path.result.now) (runs_of keys c.deref-in-Path-2.result.now) ctx)
    c.evaluate_path.result (g.T.Tally.state c.args.tally.now) (g.T.Tally.state c.evaluate_path.new.tally)
    c.in-Path.is (run_path keys c.in-Path.start c.in-Path.steps ctx
    ∙ ap (λ e. path (run_of keys e) (runs_of keys c.in-Path.steps.items) ctx) (sym c.deref-in-Path.ensures)
    ∙ ap (λ es. path (run_of keys c.deref-in-Path.result.now) (runs_of keys es) ctx) (sym c.deref-in-Path-2.ensures.value)) c.evaluate_path.ensures.reported

-- an operand that is lent
pub operand-returns-in-Some-clause-reported : goal.operand-returns-in-Some-clause-reported
operand-returns-in-Some-clause-reported g t c =
    let s = g.T.Tally.state c.args.tally.now in
    ap (λ r. limited c.args.self.now.site r s) (c.in-Some.ensures.run (g.K.KeyFinder.tables c.args.self.now.keys.now))
    ∙ gives c.args.self.now.site c.in-Some.lent s

-- a call: its tick
pub evaluate_call-returns-in_err-tick-clause-reported : goal.evaluate_call-returns-in_err-tick-clause-reported
evaluate_call-returns-in_err-tick-clause-reported g t c =
    let p = err_from_is_err_and c.from_residual.result c.from_residual.ensures.1 in
    let keys = g.K.KeyFinder.tables c.args.self.now.keys.now in
    exits_at_tick (λ v. v) c.args.self.now.site
    (arguments c.args.context.now (runs_of keys c.args.arguments.now) >>= answered keys c.args.context.now c.args.function) _
    (g.T.Tally.state c.args.tally.now) (g.T.Tally.state c.tick.new.self) c.from_residual.result _ _ refl p.1 p.2 c.in_err-tick.ensures.reported

-- its arguments
pub evaluate_call-loop-argument-init : goal.evaluate_call-loop-argument-init
evaluate_call-loop-argument-init g t c =
    let keys = g.K.KeyFinder.tables c.args.self.now.keys.now in
    record {
      reported =
          ticks_on c.args.self.now.site
          (arguments c.args.context.now (runs_of keys c.args.arguments.now) >>= answered keys c.args.context.now c.args.function) _
          (g.T.Tally.state c.args.tally.now) (g.T.Tally.state c.tick.new.self) c.in_ok-tick.ensures.reported
          ∙ ap (λ vs. Rest c.args.self.now.site (and_argument c.args.context.now) (answered keys c.args.context.now c.args.function)
          (map (run_of keys) c.args.arguments.now) 0 vs (g.T.Tally.state c.tick.new.self)) (sym c.new-values.ensures.items);
      inside = search rules;
      kept = c.in_ok-tick.ensures.kept;
    }

pub evaluate_call-returns-in_err-v-clause-reported : goal.evaluate_call-returns-in_err-v-clause-reported
evaluate_call-returns-in_err-v-clause-reported g t c =
    let p = err_from_is_err_and c.from_residual-in_err-v.result c.from_residual-in_err-v.ensures.1 in
    let keys = g.K.KeyFinder.tables c.args.self.now.keys.now in
    let es = c.args.arguments.now in
    let k = c.loop-argument.argument-index in
    let e = c.argument-item.result in
    exits_in_parts (λ v. v) (λ v. v) c.args.self.now.site (and_argument c.args.context.now) (answered keys c.args.context.now c.args.function)
    (map (run_of keys) es) k (run_of keys e) c.loop-argument.values.items (run_of keys e c.args.context.now) (λ v. c.loop-argument.values.items ++ v ∷ [])
    (g.T.Tally.state c.loop-argument.tally) (g.T.Tally.state c.operand.new.tally) _ c.from_residual-in_err-v.result _ _ c.loop-argument.invariant.reported
    (mapped_below (run_of keys) es k (omega arith)) (mapped_at (run_of keys) es k e (omega arith) c.argument-item.is) refl p.1 p.2 c.in_err-v.ensures.reported

pub evaluate_call-loop-argument-preserved : goal.evaluate_call-loop-argument-preserved
evaluate_call-loop-argument-preserved g t c =
    let keys = g.K.KeyFinder.tables c.args.self.now.keys.now in
    let es = c.args.arguments.now in
    let k = c.loop-argument.argument-index in
    let e = c.argument-item.result in
    record {
      reported =
          parts_on c.args.self.now.site (and_argument c.args.context.now) (answered keys c.args.context.now c.args.function) (map (run_of keys) es) k
          (run_of keys e) c.loop-argument.values.items (run_of keys e c.args.context.now) (λ v. c.loop-argument.values.items ++ v ∷ [])
          c.in_ok-v.v c.push.new.self.items (g.T.Tally.state c.loop-argument.tally) (g.T.Tally.state c.operand.new.tally) _
          c.loop-argument.invariant.reported (mapped_below (run_of keys) es k (omega arith)) (mapped_at (run_of keys) es k e (omega arith) c.argument-item.is)
          refl
          c.in_ok-v.ensures.reported c.in_ok-push.ensures.items;
      inside =
          subst (All (IsIn c.args.context.now.tree)) (sym c.in_ok-push.ensures.items)
          (All-push (IsIn c.args.context.now.tree) c.loop-argument.values.items c.in_ok-v.v c.loop-argument.invariant.inside c.in_ok-v.ensures.inside);
      kept = c.in_ok-v.ensures.kept ∙ c.loop-argument.invariant.kept;
    }

-- its function
pub evaluate_call-returns-clause-reported : goal.evaluate_call-returns-clause-reported
evaluate_call-returns-clause-reported g t c =
    let keys = g.K.KeyFinder.tables c.args.self.now.keys.now in
    let es = c.args.arguments.now in
    let k = c.loop-argument.argument-index in
    let s = g.T.Tally.state c.loop-argument.tally in
    continues (λ v. v) _ _ _ _
    (c.loop-argument.invariant.reported
    ∙ items_done c.args.self.now.site (and_argument c.args.context.now) (answered keys c.args.context.now c.args.function) (map (run_of keys) es) k
    c.loop-argument.values.items s (mapped_end (run_of keys) es k (omega arith))
    ∙ ap (λ vs. limited c.args.self.now.site (answered keys c.args.context.now c.args.function vs) s) (sym c.deref.ensures.value))
    c.answer.ensures.reported

-- minus signs
pub evaluate_negative-returns-in_err-v-clause-reported : goal.evaluate_negative-returns-in_err-v-clause-reported
evaluate_negative-returns-in_err-v-clause-reported g t c =
    let p = err_from_is_err_and c.from_residual.result c.from_residual.ensures.1 in
    exits (λ v. v) (λ v. v) c.args.self.now.site (run_of (g.K.KeyFinder.tables c.args.self.now.keys.now) c.args.inner.now c.args.context.now)
    (λ v. given (negation c.args.signs c.args.context.now.tree v)) _
    (g.T.Tally.state c.args.tally.now) (g.T.Tally.state c.operand.new.tally) c.from_residual.result _ _ refl p.1 p.2 c.in_err-v.ensures.reported

pub evaluate_negative-returns-clause-reported : goal.evaluate_negative-returns-clause-reported
evaluate_negative-returns-clause-reported g t c =
    let s = g.T.Tally.state c.operand.new.tally in
    closes (λ v. v) c.args.self.now.site (negation c.args.signs c.context.inside.tree.now c.in_ok-v.v) c.negate-negated.result _ c.or_halt.result s
    (goes_on c.args.self.now.site (run_of (g.K.KeyFinder.tables c.args.self.now.keys.now) c.args.inner.now c.args.context.now)
    (λ v. given (negation c.args.signs c.args.context.now.tree v)) c.in_ok-v.v (g.T.Tally.state c.args.tally.now) s c.in_ok-v.ensures.reported
    ∙ ap (λ (a : Context). limited c.args.self.now.site (given (negation c.args.signs a.tree c.in_ok-v.v)) s) (sym c.context.view_is))
    c.or_halt.ensures c.negate-negated.ensures.value

-- a union of paths of one step
pub evaluate_chain-returns-then-is_union_of_steps-clause-reported : goal.evaluate_chain-returns-then-is_union_of_steps-clause-reported
evaluate_chain-returns-then-is_union_of_steps-clause-reported g t c =
    let keys = g.K.KeyFinder.tables c.args.self.now.keys.now in
    continues (λ v. v) _ _ _ _
    (ap (λ r. limited c.args.self.now.site r (g.T.Tally.state c.args.tally.now))
    (union_runs keys c.args.operators.now c.args.operands.now c.args.context.now (sym c.is_union_of_steps.ensures ∙ c.if-is_union_of_steps.true)))
    c.unite_steps.ensures.reported

-- operands joined
pub evaluate_chain-returns-in_err-left-in-len1-up-clause-reported : goal.evaluate_chain-returns-in_err-left-in-len1-up-clause-reported
evaluate_chain-returns-in_err-left-in-len1-up-clause-reported g t c =
    let p = err_from_is_err_and c.from_residual-in_err-left-in-len1-up.result c.from_residual-in_err-left-in-len1-up.ensures.1 in
    let keys = g.K.KeyFinder.tables c.args.self.now.keys.now in
    let e = c.first-item.result in
    exits (λ v. v) (λ v. v) c.args.self.now.site (run_of keys e c.args.context.now)
    (λ v. joined_from c.args.context.now v c.args.operators.now (runs_of keys (but_first c.args.operands.now))) _
    (g.T.Tally.state c.args.tally.now) (g.T.Tally.state c.operand.new.tally) c.from_residual-in_err-left-in-len1-up.result _ _
    (ap (λ es. limited c.args.self.now.site (chain c.args.operators.now (runs_of keys es) c.args.context.now) (g.T.Tally.state c.args.tally.now))
    (first_and_rest c.args.operands.now e (omega arith) c.first-item.is)) p.1 p.2 c.in_err-left-in-len1-up.ensures.reported

pub evaluate_chain-returns-in_ok-left-in-len1-up-clause-reported : goal.evaluate_chain-returns-in_ok-left-in-len1-up-clause-reported
evaluate_chain-returns-in_ok-left-in-len1-up-clause-reported g t c =
    let keys = g.K.KeyFinder.tables c.args.self.now.keys.now in
    let e = c.first-item.result in
    continues (λ v. v) _ _ _ _
    (ap (λ es. limited c.args.self.now.site (chain c.args.operators.now (runs_of keys es) c.args.context.now) (g.T.Tally.state c.args.tally.now))
    (first_and_rest c.args.operands.now e (omega arith) c.first-item.is)
    ∙ goes_on c.args.self.now.site (run_of keys e c.args.context.now)
    (λ v. joined_from c.args.context.now v c.args.operators.now (runs_of keys (but_first c.args.operands.now))) c.in_ok-left-in-len1-up.left
    (g.T.Tally.state c.args.tally.now) (g.T.Tally.state c.operand.new.tally) c.in_ok-left-in-len1-up.ensures.reported)
    c.join_all.ensures.reported

-- two operands
pub join_right-returns-in_err-v-clause-reported : goal.join_right-returns-in_err-v-clause-reported
join_right-returns-in_err-v-clause-reported g t c =
    let p = err_from_is_err_and c.from_residual.result c.from_residual.ensures.1 in
    exits (λ v. v) (λ v. v) c.args.self.now.site (run_of (g.K.KeyFinder.tables c.args.self.now.keys.now) c.args.right.now c.args.context.now)
    (λ v. given (operated c.args.operator c.args.context.now.tree c.args.left v)) _
    (g.T.Tally.state c.args.tally.now) (g.T.Tally.state c.operand.new.tally) c.from_residual.result _ _ refl p.1 p.2 c.in_err-v.ensures.reported

pub join_right-returns-clause-reported : goal.join_right-returns-clause-reported
join_right-returns-clause-reported g t c =
    let s = g.T.Tally.state c.operand.new.tally in
    closes (λ v. v) c.args.self.now.site (operated c.args.operator c.context.inside.tree.now c.args.left c.in_ok-v.v) c.operate-joined.result _
    c.or_halt.result s
    (goes_on c.args.self.now.site (run_of (g.K.KeyFinder.tables c.args.self.now.keys.now) c.args.right.now c.args.context.now)
    (λ v. given (operated c.args.operator c.args.context.now.tree c.args.left v)) c.in_ok-v.v (g.T.Tally.state c.args.tally.now) s c.in_ok-v.ensures.reported
    ∙ ap (λ (a : Context). limited c.args.self.now.site (given (operated c.args.operator a.tree c.args.left c.in_ok-v.v)) s) (sym c.context.view_is))
    c.or_halt.ensures c.operate-joined.ensures.value

-- all operands
pub join_all-returns-in-empty-clause-reported : goal.join_all-returns-in-empty-clause-reported
join_all-returns-in-empty-clause-reported g t c =
    c.loop-right.invariant.reported ∙ joins_no_more c.args.self.now.site c.args.context.now c.loop-right.left c.loop-right.operators.now
    (drop c.loop-right.right-index (map (run_of (g.K.KeyFinder.tables c.args.self.now.keys.now)) c.args.operands.now)) (g.T.Tally.state c.loop-right.tally)
    (no_items c.loop-right.operators.now (omega arith))
    ∙ ap (λ v. Goes v (g.T.Tally.state c.loop-right.tally)) (sym c.in_ok-into_value-in-empty.ensures.value)

pub join_all-returns-in_err-v-in-len1-up-clause-reported : goal.join_all-returns-in_err-v-in-len1-up-clause-reported
join_all-returns-in_err-v-in-len1-up-clause-reported g t c =
    let p = err_from_is_err_and c.from_residual-in_err-v-in-len1-up.result c.from_residual-in_err-v-in-len1-up.ensures.1 in
    let keys = g.K.KeyFinder.tables c.args.self.now.keys.now in
    let ms = map (run_of keys) c.args.operands.now in
    let k = c.loop-right.right-index in
    let e = c.right-item.result in
    let ops = c.loop-right.operators.now in
    let s = g.T.Tally.state c.loop-right.tally in
    exits (λ v. v) (λ v. v) c.args.self.now.site (joined (get_or ops 0 Or) c.loop-right.left (run_of keys e) c.args.context.now)
    (λ v. joined_from c.args.context.now v (but_first ops) (drop (k + 1) ms)) _ s (g.T.Tally.state c.join.new.tally)
    c.from_residual-in_err-v-in-len1-up.result _ _
    (c.loop-right.invariant.reported
    ∙ ap (λ o. limited c.args.self.now.site (joined_from c.args.context.now c.loop-right.left o (drop k ms)) s) (first_and_rest_at ops Or (omega arith))
    ∙ joins_here c.args.self.now.site c.args.context.now c.loop-right.left (get_or ops 0 Or) (but_first ops) ms k (run_of keys e) s
    (mapped_below (run_of keys) c.args.operands.now k (omega arith)) (mapped_at (run_of keys) c.args.operands.now k e (omega arith) c.right-item.is))
    p.1 p.2 c.in_err-v-in-len1-up.ensures.reported

pub join_all-loop-right-preserved : goal.join_all-loop-right-preserved
join_all-loop-right-preserved g t c =
    let keys = g.K.KeyFinder.tables c.args.self.now.keys.now in
    let ms = map (run_of keys) c.args.operands.now in
    let k = c.loop-right.right-index in
    let e = c.right-item.result in
    let ops = c.loop-right.operators.now in
    let s = g.T.Tally.state c.loop-right.tally in
    record {
      reported =
          c.loop-right.invariant.reported
          ∙ ap (λ o. limited c.args.self.now.site (joined_from c.args.context.now c.loop-right.left o (drop k ms)) s) (first_and_rest_at ops Or (omega arith))
          ∙ joins_here c.args.self.now.site c.args.context.now c.loop-right.left (get_or ops 0 Or) (but_first ops) ms k (run_of keys e) s
          (mapped_below (run_of keys) c.args.operands.now k (omega arith)) (mapped_at (run_of keys) c.args.operands.now k e (omega arith) c.right-item.is)
          ∙ goes_on c.args.self.now.site (joined (get_or ops 0 Or) c.loop-right.left (run_of keys e) c.args.context.now)
          (λ v. joined_from c.args.context.now v (but_first ops) (drop (k + 1) ms)) c.in_ok-v-in-len1-up.v s (g.T.Tally.state c.join.new.tally)
          c.in_ok-v-in-len1-up.ensures.reported
          ∙ ap (λ v. limited c.args.self.now.site (joined_from c.args.context.now v (but_first ops) (drop (k + 1) ms)) (g.T.Tally.state c.join.new.tally))
          (sym c.own-left.ensures.value);
      inside = subst (IsIn c.args.context.now.tree) (sym c.own-left.ensures.value) c.in_ok-v-in-len1-up.ensures.inside;
      kept = c.in_ok-v-in-len1-up.ensures.kept ∙ c.loop-right.invariant.kept;
    }

-- a step: its ticks
pub evaluate_step-returns-in_err-tick_several-clause-reported : goal.evaluate_step-returns-in_err-tick_several-clause-reported
evaluate_step-returns-in_err-tick_several-clause-reported g t c =
    let p = err_from_is_err_and c.from_residual-in_err-tick_several.result c.from_residual-in_err-tick_several.ensures.1 in
    let ms = runs_of (g.K.KeyFinder.tables c.args.self.now.keys.now) c.args.predicates.now in
    let ns = c.in_ok-nodes.nodes in
    let s = g.T.Tally.state c.args.tally.now in
    let n : c.len.result ≡ length ns = omega arith in
    exits_at_costs (λ v. v) c.args.self.now.site c.len.result (kept_of c.args.context.now ms ns) _ s (g.T.Tally.state c.tick_several.new.tally)
    c.from_residual-in_err-tick_several.result _ _
    (ap (λ l. limited c.args.self.now.site (costs (length l) (kept_of c.args.context.now ms l)) s) (sym c.in_ok-nodes.ensures.nodes)
    ∙ ap (λ k. limited c.args.self.now.site (costs k (kept_of c.args.context.now ms ns)) s) (sym n)) p.1 p.2 c.in_err-tick_several.ensures.reported

pub evaluate_step-returns-clause-reported : goal.evaluate_step-returns-clause-reported
evaluate_step-returns-clause-reported g t c =
    let ms = runs_of (g.K.KeyFinder.tables c.args.self.now.keys.now) c.args.predicates.now in
    let ns = c.in_ok-nodes.nodes in
    let s = g.T.Tally.state c.args.tally.now in
    let n : c.len.result ≡ length ns = omega arith in
    continues (λ v. v) _ _ _ _
    (ap (λ l. limited c.args.self.now.site (costs (length l) (kept_of c.args.context.now ms l)) s) (sym c.in_ok-nodes.ensures.nodes)
    ∙ ap (λ k. limited c.args.self.now.site (costs k (kept_of c.args.context.now ms ns)) s) (sym n)
    ∙ costs_on c.args.self.now.site c.len.result (kept_of c.args.context.now ms ns) _ s (g.T.Tally.state c.tick_several.new.tally)
    c.in_ok-tick_several.ensures.reported)
    c.keep.ensures.reported

-- a filter: its nodes
pub evaluate_filter-returns-in_err-set-clause-reported : goal.evaluate_filter-returns-in_err-set-clause-reported
evaluate_filter-returns-in_err-set-clause-reported g t c =
    let p = err_from_is_err_and c.from_residual.result c.from_residual.ensures.1 in
    let keys = g.K.KeyFinder.tables c.args.self.now.keys.now in
    exits (λ v. v) (λ v. v) c.args.self.now.site (selected (run_of keys c.args.inner.now) c.args.context.now)
    (λ ns. kept_of c.args.context.now (runs_of keys c.args.predicates.now) ns) _
    (g.T.Tally.state c.args.tally.now) (g.T.Tally.state c.evaluate_nodes.new.tally) c.from_residual.result _ _ refl p.1 p.2 c.in_err-set.ensures.reported

pub evaluate_filter-returns-clause-reported : goal.evaluate_filter-returns-clause-reported
evaluate_filter-returns-clause-reported g t c =
    let keys = g.K.KeyFinder.tables c.args.self.now.keys.now in
    let ms = runs_of keys c.args.predicates.now in
    continues (λ v. v) _ _ _ _
    (goes_on c.args.self.now.site (selected (run_of keys c.args.inner.now) c.args.context.now) (λ ns. kept_of c.args.context.now ms ns) c.in_ok-set.set
    (g.T.Tally.state c.args.tally.now) (g.T.Tally.state c.evaluate_nodes.new.tally) c.in_ok-set.ensures.reported)
    c.keep_of_set.ensures.reported

-- what predicates keep of a set
pub keep_of_set-returns-in_ok-into_set-in-empty-clause-reported : goal.keep_of_set-returns-in_ok-into_set-in-empty-clause-reported
keep_of_set-returns-in_ok-into_set-in-empty-clause-reported g t c =
    let keys = g.K.KeyFinder.tables c.args.self.now.keys.now in
    let s = g.T.Tally.state c.args.tally.now in
    ap (λ es. limited c.args.self.now.site (kept_of c.args.context.now (runs_of keys es) c.args.set) s) (no_items c.args.predicates.now (omega arith))
    ∙ gives c.args.self.now.site (Nodes (in_order c.args.set)) s
    ∙ ap (λ ns. Goes (Nodes ns) s) (in_order-same c.args.set c.nodes-nodes.ensures.list)
    ∙ ap (λ ns. Goes (Nodes ns) s) (sym c.in_ok-into_set-in-empty.ensures.nodes)

pub keep_of_set-filter-requires-clause-some : goal.keep_of_set-filter-requires-clause-some
keep_of_set-filter-requires-clause-some g t c =
    λ κs lives.
    subst (AreSome c.args.context.now.tree) (sym c.nodes.ensures.nodes)
    (some_in_list c.args.context.now.tree c.args.set c.nodes.ensures.list c.requires.inside)

pub keep_of_set-returns-in_err-nodes-in-len1-up-clause-reported : goal.keep_of_set-returns-in_err-nodes-in-len1-up-clause-reported
keep_of_set-returns-in_err-nodes-in-len1-up-clause-reported g t c =
    let p = err_from_is_err_and c.from_residual-in_err-nodes-in-len1-up.result c.from_residual-in_err-nodes-in-len1-up.ensures.1 in
    let keys = g.K.KeyFinder.tables c.args.self.now.keys.now in
    let ctx = c.args.context.now in
    let e = c.first-item.result in
    let es = e ∷ but_first c.args.predicates.now in
    let s = g.T.Tally.state c.args.tally.now in
    exits_in_items (λ ns. ns) (λ v. v) c.args.self.now.site (filtered ctx) (λ kept. give (Nodes (in_order kept))) (runs_of keys es) 0 (run_of keys e)
    c.nodes.result.now s (g.T.Tally.state c.filter.new.tally) _ c.from_residual-in_err-nodes-in-len1-up.result _ _
    (ap (λ xs. limited c.args.self.now.site (kept_of ctx (runs_of keys xs) c.args.set) s) (first_and_rest c.args.predicates.now e (omega arith) c.first-item.is)
    ∙ ap (λ ns. limited c.args.self.now.site (kept_of ctx (runs_of keys es) ns) s) (sym c.nodes.ensures.nodes))
    (omega arith) refl p.1 p.2 c.in_err-nodes-in-len1-up.ensures.reported

pub keep_of_set-returns-in_ok-nodes-in-len1-up-clause-reported : goal.keep_of_set-returns-in_ok-nodes-in-len1-up-clause-reported
keep_of_set-returns-in_ok-nodes-in-len1-up-clause-reported g t c =
    let keys = g.K.KeyFinder.tables c.args.self.now.keys.now in
    let ctx = c.args.context.now in
    let e = c.first-item.result in
    let es = e ∷ but_first c.args.predicates.now in
    let s = g.T.Tally.state c.args.tally.now in
    continues (λ v. v) _ _ _ _
    (items_on c.args.self.now.site (filtered ctx) (λ kept. give (Nodes (in_order kept))) (runs_of keys es) 0 (run_of keys e)
    c.nodes.result.now c.in_ok-nodes-in-len1-up.nodes s (g.T.Tally.state c.filter.new.tally) _
    (ap (λ xs. limited c.args.self.now.site (kept_of ctx (runs_of keys xs) c.args.set) s) (first_and_rest c.args.predicates.now e (omega arith) c.first-item.is)
    ∙ ap (λ ns. limited c.args.self.now.site (kept_of ctx (runs_of keys es) ns) s) (sym c.nodes.ensures.nodes))
    (omega arith) refl c.in_ok-nodes-in-len1-up.ensures.reported)
    c.keep.ensures.reported

-- what predicates keep
pub keep-returns-in_err-nodes-clause-reported : goal.keep-returns-in_err-nodes-clause-reported
keep-returns-in_err-nodes-clause-reported g t c =
    let p = err_from_is_err_and c.from_residual.result c.from_residual.ensures.1 in
    let keys = g.K.KeyFinder.tables c.args.self.now.keys.now in
    let es = c.args.predicates.now in
    let k = c.loop-predicate.predicate-index in
    let e = c.predicate-item.result in
    let s = g.T.Tally.state c.loop-predicate.tally in
    exits_in_items (λ ns. ns) (λ v. v) c.args.self.now.site (filtered c.args.context.now) (λ kept. give (Nodes (in_order kept)))
    (map (run_of keys) es) k
    (run_of keys e) c.as_slice.result.now s (g.T.Tally.state c.filter.new.tally) _ c.from_residual.result _ _
    (c.loop-predicate.invariant.reported
    ∙ ap (λ ns. Rest c.args.self.now.site (filtered c.args.context.now) (λ kept. give (Nodes (in_order kept))) (map (run_of keys) es) k ns s) (sym
    c.as_slice.ensures.nodes))
    (mapped_below (run_of keys) es k (omega arith)) (mapped_at (run_of keys) es k e (omega arith) c.predicate-item.is) p.1 p.2 c.in_err-nodes.ensures.reported

pub keep-loop-predicate-preserved : goal.keep-loop-predicate-preserved
keep-loop-predicate-preserved g t c =
    let keys = g.K.KeyFinder.tables c.args.self.now.keys.now in
    let es = c.args.predicates.now in
    let k = c.loop-predicate.predicate-index in
    let e = c.predicate-item.result in
    let s = g.T.Tally.state c.loop-predicate.tally in
    record {
      reported =
          items_on c.args.self.now.site (filtered c.args.context.now) (λ kept. give (Nodes (in_order kept))) (map (run_of keys) es) k
          (run_of keys e) c.as_slice.result.now c.in_ok-nodes.nodes s (g.T.Tally.state c.filter.new.tally) _
          (c.loop-predicate.invariant.reported
          ∙ ap (λ ns. Rest c.args.self.now.site (filtered c.args.context.now) (λ kept. give (Nodes (in_order kept))) (map (run_of keys) es) k ns s)
          (sym c.as_slice.ensures.nodes))
          (mapped_below (run_of keys) es k (omega arith)) (mapped_at (run_of keys) es k e (omega arith) c.predicate-item.is) c.in_ok-nodes.ensures.reported;
      some = c.in_ok-nodes.ensures.some;
      kept = c.in_ok-nodes.ensures.kept ∙ c.loop-predicate.invariant.kept;
    }

pub keep-returns-clause-reported : goal.keep-returns-clause-reported
keep-returns-clause-reported g t c =
    let keys = g.K.KeyFinder.tables c.args.self.now.keys.now in
    let es = c.args.predicates.now in
    let k = c.loop-predicate.predicate-index in
    let s = g.T.Tally.state c.loop-predicate.tally in
    c.loop-predicate.invariant.reported
    ∙ items_done c.args.self.now.site (filtered c.args.context.now) (λ kept. give (Nodes (in_order kept))) (map (run_of keys) es) k c.loop-predicate.nodes s
    (mapped_end (run_of keys) es k (omega arith))
    ∙ gives c.args.self.now.site (Nodes (in_order c.loop-predicate.nodes)) s
    ∙ ap (λ ns. Goes (Nodes ns) s) (sym c.in_ok-of_list.ensures.nodes)

pub keep-returns-clause-inside : goal.keep-returns-clause-inside
keep-returns-clause-inside g t c =
    subst (All (λ k. k < length c.args.context.now.tree)) (sym c.in_ok-of_list.ensures.nodes)
    (in_order_all (λ k. k < length c.args.context.now.tree) c.loop-predicate.nodes c.loop-predicate.invariant.some.inside)

-- what a number keeps
pub filter-returns-in_ok-picked-in-Some-clause-reported : goal.filter-returns-in_ok-picked-in-Some-clause-reported
filter-returns-in_ok-picked-in-Some-clause-reported g t c =
    let keys = g.K.KeyFinder.tables c.args.self.now.keys.now in
    let ns = c.args.nodes.now in
    let n = c.in-Some.number in
    let s = g.T.Tally.state c.args.tally.now in
    ap (λ r. limited c.args.self.now.site r s)
    (filtered_by_number (run_of keys c.args.predicate.now) n (λ a. ap (λ e. run_of keys e a) c.in-Some.ensures ∙ run_number keys n a) c.args.context.now ns)
    ∙ gives c.args.self.now.site (picked n 1 ns) s
    ∙ ap (λ l. Goes l s) (sym c.in_ok-picked-in-Some.ensures.nodes)

pub filter-returns-in_ok-picked-in-Some-clause-some : goal.filter-returns-in_ok-picked-in-Some-clause-some
filter-returns-in_ok-picked-in-Some-clause-some g t c =
    let tree = c.args.context.now.tree in
    subst (AreSome tree) (sym c.in_ok-picked-in-Some.ensures.nodes) (picked_some tree c.in-Some.number c.args.nodes.now c.requires.some)

-- what one predicate keeps
pub filter_each-returns-in_err-v-clause-reported : goal.filter_each-returns-in_err-v-clause-reported
filter_each-returns-in_err-v-clause-reported g t c =
    let p = err_from_is_err_and c.from_residual.result c.from_residual.ensures.1 in
    let keys = g.K.KeyFinder.tables c.args.self.now.keys.now in
    let ctx = c.args.context.now in
    let m = run_of keys c.args.predicate.now in
    let ns = c.args.nodes.now in
    let k = c.loop-node.node-index in
    let x = c.node-item.result in
    let kept = c.loop-node.kept in
    let around : c.at_node-around.result ≡ at_node ctx x (k + 1) (length ns) =
    c.at_node-around.ensures ∙ ap (λ j. at_node ctx x (j + 1) c.count_of-size.result) c.loop-node.invariant.place
    ∙ ap (λ j. at_node ctx x (k + 1) j) c.count_of-size.ensures in
    let here : judged ctx (length ns) m kept (k + 1, x) ≡ (m c.at_node-around.result >>= (λ v. give (kept_if (selects v (k + 1)) kept x))) =
    ap (λ a. m a >>= (λ v. give (kept_if (selects v (k + 1)) kept x))) (sym around) in
    exits_in_parts (λ v. v) (λ l. l) c.args.self.now.site (judged ctx (length ns) m) (λ l. give l) (enumerate_from 1 ns) k (k + 1, x) kept
    (m c.at_node-around.result) (λ v. kept_if (selects v (k + 1)) kept x) (g.T.Tally.state c.loop-node.tally) (g.T.Tally.state c.evaluate.new.tally) _
    c.from_residual.result _ _ c.loop-node.invariant.reported (placed_below ns k (omega arith)) (placed_at ns k x (omega arith) c.node-item.is) here
    p.1 p.2 c.in_err-v.ensures.reported

pub filter_each-loop-node-preserved : goal.filter_each-loop-node-preserved
filter_each-loop-node-preserved g t c =
    let keys = g.K.KeyFinder.tables c.args.self.now.keys.now in
    let ctx = c.args.context.now in
    let m = run_of keys c.args.predicate.now in
    let ns = c.args.nodes.now in
    let k = c.loop-node.node-index in
    let x = c.node-item.result in
    let kept = c.loop-node.kept in
    let around : c.at_node-around.result ≡ at_node ctx x (k + 1) (length ns) =
    c.at_node-around.ensures ∙ ap (λ j. at_node ctx x (j + 1) c.count_of-size.result) c.loop-node.invariant.place
    ∙ ap (λ j. at_node ctx x (k + 1) j) c.count_of-size.ensures in
    let here : judged ctx (length ns) m kept (k + 1, x) ≡ (m c.at_node-around.result >>= (λ v. give (kept_if (selects v (k + 1)) kept x))) =
    ap (λ a. m a >>= (λ v. give (kept_if (selects v (k + 1)) kept x))) (sym around) in
    let P = λ (n : ℕ). n < length ctx.tree in
    record {
      reported =
          parts_on c.args.self.now.site (judged ctx (length ns) m) (λ l. give l) (enumerate_from 1 ns) k (k + 1, x) kept
          (m c.at_node-around.result) (λ v. kept_if (selects v (k + 1)) kept x) c.in_ok-v.v c.in_ok-kept.kept
          (g.T.Tally.state c.loop-node.tally) (g.T.Tally.state c.evaluate.new.tally) _
          c.loop-node.invariant.reported (placed_below ns k (omega arith)) (placed_at ns k x (omega arith) c.node-item.is) here c.in_ok-v.ensures.reported
          (c.in_ok-kept.ensures.nodes
          ∙ ap (λ b. kept_if b kept x) (c.selects-is_kept.ensures ∙ ap (λ j. selects c.in_ok-v.v (j + 1)) c.loop-node.invariant.place));
      place = ap (λ j. j + 1) c.loop-node.invariant.place;
      inside =
          subst (All P) (sym c.in_ok-kept.ensures.nodes)
          (kept_if_all P c.selects-is_kept.result kept x c.loop-node.invariant.inside
          (subst P (sym c.node-item.is) (All-get_or P ns k x (omega arith) c.requires.some.inside)));
      few =
          subst (λ (l : List ℕ). length l ≤ k + 1) (sym c.in_ok-kept.ensures.nodes) (kept_if_few c.selects-is_kept.result kept x k c.loop-node.invariant.few);
      kept = c.in_ok-v.ensures.kept ∙ c.loop-node.invariant.kept;
    }

pub filter_each-returns-clause-reported : goal.filter_each-returns-clause-reported
filter_each-returns-clause-reported g t c =
    let m = run_of (g.K.KeyFinder.tables c.args.self.now.keys.now) c.args.predicate.now in
    let ns = c.args.nodes.now in
    let k = c.loop-node.node-index in
    let s = g.T.Tally.state c.loop-node.tally in
    c.loop-node.invariant.reported
    ∙ items_done c.args.self.now.site (judged c.args.context.now (length ns) m) (λ l. give l) (enumerate_from 1 ns) k c.loop-node.kept s
    (placed_end ns k (omega arith))
    ∙ gives c.args.self.now.site c.loop-node.kept s

-- a relative path of one step
pub evaluate_path-returns-in-Some-clause-reported : goal.evaluate_path-returns-in-Some-clause-reported
evaluate_path-returns-in-Some-clause-reported g t c =
    let keys = g.K.KeyFinder.tables c.args.self.now.keys.now in
    continues (λ v. v) _ _ _ _
    (ap (λ r. limited c.args.self.now.site r (g.T.Tally.state c.args.tally.now))
    (only_runs keys c.args.start.now c.args.steps.now c.in-Some.step.now c.args.context.now c.in-Some.ensures))
    c.evaluate.ensures.reported

-- a path: where it begins
pub evaluate_path-returns-in_err-nodes-clause-reported : goal.evaluate_path-returns-in_err-nodes-clause-reported
evaluate_path-returns-in_err-nodes-clause-reported g t c =
    let p = err_from_is_err_and c.from_residual.result c.from_residual.ensures.1 in
    let keys = g.K.KeyFinder.tables c.args.self.now.keys.now in
    exits (λ v. v) (λ v. v) c.args.self.now.site (selected (run_of keys c.args.start.now) c.args.context.now)
    (λ ns. steps_from c.args.context.now (runs_of keys c.args.steps.now) ns) _
    (g.T.Tally.state c.args.tally.now) (g.T.Tally.state c.evaluate_nodes.new.tally) c.from_residual.result _ _ refl p.1 p.2 c.in_err-nodes.ensures.reported

pub evaluate_path-loop-step-init : goal.evaluate_path-loop-step-init
evaluate_path-loop-step-init g t c =
    let keys = g.K.KeyFinder.tables c.args.self.now.keys.now in
    record {
      reported =
          goes_on c.args.self.now.site (selected (run_of keys c.args.start.now) c.args.context.now)
          (λ ns. steps_from c.args.context.now (runs_of keys c.args.steps.now) ns) c.in_ok-nodes.nodes (g.T.Tally.state c.args.tally.now)
          (g.T.Tally.state c.evaluate_nodes.new.tally) c.in_ok-nodes.ensures.reported;
      inside = c.in_ok-nodes.ensures.inside;
      kept = c.in_ok-nodes.ensures.kept;
    }

pub evaluate_path-returns-in_err-reached-clause-reported : goal.evaluate_path-returns-in_err-reached-clause-reported
evaluate_path-returns-in_err-reached-clause-reported g t c =
    let p = err_from_is_err_and c.from_residual-in_err-reached.result c.from_residual-in_err-reached.ensures.1 in
    let keys = g.K.KeyFinder.tables c.args.self.now.keys.now in
    let es = c.args.steps.now in
    let k = c.loop-step.step-index in
    let e = c.step-item.result in
    let s = g.T.Tally.state c.loop-step.tally in
    let list = c.nodes-in-loop-step.ensures.nodes in
    exits_in_items (λ ns. ns) (λ v. v) c.args.self.now.site (through c.args.context.now) (λ reached. give (Nodes reached)) (map (run_of keys) es) k
    (run_of keys e) c.nodes-in-loop-step.result.now s (g.T.Tally.state c.follow.new.tally) _ c.from_residual-in_err-reached.result _ _
    (c.loop-step.invariant.reported
    ∙ ap (λ ns. Rest c.args.self.now.site (through c.args.context.now) (λ reached. give (Nodes reached)) (map (run_of keys) es) k ns s) (sym list))
    (mapped_below (run_of keys) es k (omega arith)) (mapped_at (run_of keys) es k e (omega arith) c.step-item.is) p.1 p.2 c.in_err-reached.ensures.reported

pub evaluate_path-loop-step-preserved : goal.evaluate_path-loop-step-preserved
evaluate_path-loop-step-preserved g t c =
    let keys = g.K.KeyFinder.tables c.args.self.now.keys.now in
    let es = c.args.steps.now in
    let k = c.loop-step.step-index in
    let e = c.step-item.result in
    let s = g.T.Tally.state c.loop-step.tally in
    let list = c.nodes-in-loop-step.ensures.nodes in
    record {
      reported =
          items_on c.args.self.now.site (through c.args.context.now) (λ reached. give (Nodes reached)) (map (run_of keys) es) k
          (run_of keys e) c.nodes-in-loop-step.result.now c.in_ok-reached.reached s (g.T.Tally.state c.follow.new.tally) _
          (c.loop-step.invariant.reported
          ∙ ap (λ ns. Rest c.args.self.now.site (through c.args.context.now) (λ reached. give (Nodes reached)) (map (run_of keys) es) k ns s) (sym list))
          (mapped_below (run_of keys) es k (omega arith)) (mapped_at (run_of keys) es k e (omega arith) c.step-item.is) c.in_ok-reached.ensures.reported
          ∙ ap (λ ns. Rest c.args.self.now.site (through c.args.context.now) (λ reached. give (Nodes reached)) (map (run_of keys) es) (k + 1) ns
          (g.T.Tally.state c.follow.new.tally)) (sym c.own-nodes.ensures.nodes);
      inside = subst (All (λ n. n < length c.args.context.now.tree)) (sym c.own-nodes.ensures.nodes) c.in_ok-reached.ensures.inside;
      kept = c.in_ok-reached.ensures.kept ∙ c.loop-step.invariant.kept;
    }

pub evaluate_path-returns-clause-reported : goal.evaluate_path-returns-clause-reported
evaluate_path-returns-clause-reported g t c =
    let keys = g.K.KeyFinder.tables c.args.self.now.keys.now in
    let es = c.args.steps.now in
    let k = c.loop-step.step-index in
    let s = g.T.Tally.state c.loop-step.tally in
    c.loop-step.invariant.reported
    ∙ items_done c.args.self.now.site (through c.args.context.now) (λ reached. give (Nodes reached)) (map (run_of keys) es) k c.loop-step.nodes s
    (mapped_end (run_of keys) es k (omega arith))
    ∙ gives c.args.self.now.site (Nodes c.loop-step.nodes) s
    ∙ ap (λ ns. Goes (Nodes ns) s) (sym c.in_ok-into_set.ensures.nodes)

-- a step from the one node of a set
pub follow-follow_one-requires-clause-inside : goal.follow-follow_one-requires-clause-inside
follow-follow_one-requires-clause-inside g t c =
    λ κs lives.
    let P = λ (n : ℕ). n < length c.args.context.now.tree in
    subst P (sym c.node-item.is) (All-get_or P c.args.nodes.now 0 c.node-item.result (omega arith) c.requires.inside)

pub follow-returns-in-len1-clause-reported : goal.follow-returns-in-len1-clause-reported
follow-returns-in-len1-clause-reported g t c =
    let m = run_of (g.K.KeyFinder.tables c.args.self.now.keys.now) c.args.step.now in
    continues (λ v. v) _ _ _ _
    (ap (λ ns. limited c.args.self.now.site (through c.args.context.now ns m) (g.T.Tally.state c.args.tally.now))
    (only_item c.args.nodes.now c.node-item.result (omega arith) c.node-item.is))
    c.follow_one.ensures.reported

-- a step from one node
pub follow_one-evaluate_nodes-requires-clause-context : goal.follow_one-evaluate_nodes-requires-clause-context
follow_one-evaluate_nodes-requires-clause-context g t c =
    λ κs lives.
    subst (IsContext (g.K.KeyFinder.tables c.args.self.now.keys.now)) (sym c.at_node-around.ensures)
    (moved (g.K.KeyFinder.tables c.args.self.now.keys.now) c.args.context.now c.args.node c.context.inside.position c.context.inside.size c.requires.context
    c.requires.inside)

pub follow_one-returns-in_err-set-clause-reported : goal.follow_one-returns-in_err-set-clause-reported
follow_one-returns-in_err-set-clause-reported g t c =
    let p = err_from_is_err_and c.from_residual.result c.from_residual.ensures.1 in
    let ctx = c.args.context.now in
    let m = run_of (g.K.KeyFinder.tables c.args.self.now.keys.now) c.args.step.now in
    let x = c.args.node in
    let around : c.at_node-around.result ≡ at_node ctx x ctx.position ctx.size =
    c.at_node-around.ensures ∙ ap (λ (a : Context). at_node ctx x a.position a.size) c.context.view_is in
    let here : and_from ctx m [] x ≡ (selected m c.at_node-around.result >>= (λ l. give ([] ++ l))) =
    ap (λ a. selected m a >>= (λ l. give ([] ++ l))) (sym around) in
    exits_in_parts (λ l. l) (λ l. l) c.args.self.now.site (and_from ctx m) (λ l. give (in_order l)) (x ∷ []) 0 x []
    (selected m c.at_node-around.result) (λ l. [] ++ l) (g.T.Tally.state c.args.tally.now) (g.T.Tally.state c.evaluate_nodes.new.tally) _
    c.from_residual.result _ _ refl (omega arith) refl here p.1 p.2 c.in_err-set.ensures.reported

pub follow_one-returns-clause-reported : goal.follow_one-returns-clause-reported
follow_one-returns-clause-reported g t c =
    let ctx = c.args.context.now in
    let m = run_of (g.K.KeyFinder.tables c.args.self.now.keys.now) c.args.step.now in
    let x = c.args.node in
    let set = c.in_ok-set.set in
    let s = g.T.Tally.state c.evaluate_nodes.new.tally in
    let around : c.at_node-around.result ≡ at_node ctx x ctx.position ctx.size =
    c.at_node-around.ensures ∙ ap (λ (a : Context). at_node ctx x a.position a.size) c.context.view_is in
    let here : and_from ctx m [] x ≡ (selected m c.at_node-around.result >>= (λ l. give ([] ++ l))) =
    ap (λ a. selected m a >>= (λ l. give ([] ++ l))) (sym around) in
    parts_on c.args.self.now.site (and_from ctx m) (λ l. give (in_order l)) (x ∷ []) 0 x []
    (selected m c.at_node-around.result) (λ l. [] ++ l) set set (g.T.Tally.state c.args.tally.now) s _
    refl (omega arith) refl here c.in_ok-set.ensures.reported refl
    ∙ items_done c.args.self.now.site (and_from ctx m) (λ l. give (in_order l)) (x ∷ []) 1 set s (omega arith)
    ∙ gives c.args.self.now.site (in_order set) s
    ∙ ap (λ l. Goes l s) (in_order-same set c.nodes-nodes.ensures.list)
    ∙ ap (λ l. Goes l s) (sym c.in_ok-into_set.ensures.nodes)

-- a step from each node
pub follow_each-evaluate_nodes-requires-clause-context : goal.follow_each-evaluate_nodes-requires-clause-context
follow_each-evaluate_nodes-requires-clause-context g t c =
    λ κs lives.
    let P = λ (n : ℕ). n < length c.args.context.now.tree in
    subst (IsContext (g.K.KeyFinder.tables c.args.self.now.keys.now)) (sym c.at_node-around.ensures)
    (moved (g.K.KeyFinder.tables c.args.self.now.keys.now) c.args.context.now c.node-item.result c.context.inside.position c.context.inside.size
    c.requires.context
    (subst P (sym c.node-item.is) (All-get_or P c.args.nodes.now c.loop-node.node-index c.node-item.result (omega arith) c.requires.inside)))

pub follow_each-returns-in_err-set-clause-reported : goal.follow_each-returns-in_err-set-clause-reported
follow_each-returns-in_err-set-clause-reported g t c =
    let p = err_from_is_err_and c.from_residual.result c.from_residual.ensures.1 in
    let keys = g.K.KeyFinder.tables c.args.self.now.keys.now in
    let ctx = c.args.context.now in
    let m = run_of keys c.args.step.now in
    let ns = c.args.nodes.now in
    let k = c.loop-node.node-index in
    let x = c.node-item.result in
    let found = c.loop-node.found in
    let around : c.at_node-around.result ≡ at_node ctx x ctx.position ctx.size =
    c.at_node-around.ensures ∙ ap (λ (a : Context). at_node ctx x a.position a.size) c.context.view_is in
    let here : and_from ctx m found x ≡ (selected m c.at_node-around.result >>= (λ l. give (found ++ l))) =
    ap (λ a. selected m a >>= (λ l. give (found ++ l))) (sym around) in
    exits_in_parts (λ l. l) (λ l. l) c.args.self.now.site (and_from ctx m) (λ l. give (in_order l)) ns k x found
    (selected m c.at_node-around.result) (λ l. found ++ l) (g.T.Tally.state c.loop-node.tally) (g.T.Tally.state c.evaluate_nodes.new.tally) _
    c.from_residual.result _ _ c.loop-node.invariant.reported (omega arith) (sym c.node-item.is) here p.1 p.2 c.in_err-set.ensures.reported

pub follow_each-loop-node-preserved : goal.follow_each-loop-node-preserved
follow_each-loop-node-preserved g t c =
    let keys = g.K.KeyFinder.tables c.args.self.now.keys.now in
    let ctx = c.args.context.now in
    let m = run_of keys c.args.step.now in
    let ns = c.args.nodes.now in
    let k = c.loop-node.node-index in
    let x = c.node-item.result in
    let found = c.loop-node.found in
    let around : c.at_node-around.result ≡ at_node ctx x ctx.position ctx.size =
    c.at_node-around.ensures ∙ ap (λ (a : Context). at_node ctx x a.position a.size) c.context.view_is in
    let here : and_from ctx m found x ≡ (selected m c.at_node-around.result >>= (λ l. give (found ++ l))) =
    ap (λ a. selected m a >>= (λ l. give (found ++ l))) (sym around) in
    let P = λ (n : ℕ). n < length ctx.tree in
    let items = c.in_ok-extend_from_slice.ensures.nodes ∙ ap (λ l. found ++ l) c.nodes.ensures.nodes in
    record {
      reported =
          parts_on c.args.self.now.site (and_from ctx m) (λ l. give (in_order l)) ns k x found
          (selected m c.at_node-around.result) (λ l. found ++ l) c.in_ok-set.set c.extend_from_slice.new.self
          (g.T.Tally.state c.loop-node.tally) (g.T.Tally.state c.evaluate_nodes.new.tally) _
          c.loop-node.invariant.reported (omega arith) (sym c.node-item.is) here c.in_ok-set.ensures.reported items;
      inside =
          subst (All P) (sym items)
          (All-append P found c.in_ok-set.set c.loop-node.invariant.inside
          (subst (λ (a : Context). All (λ n. n < length a.tree) c.in_ok-set.set) around c.in_ok-set.ensures.inside));
      kept = c.in_ok-set.ensures.kept ∙ c.loop-node.invariant.kept;
    }

pub follow_each-returns-clause-reported : goal.follow_each-returns-clause-reported
follow_each-returns-clause-reported g t c =
    let m = run_of (g.K.KeyFinder.tables c.args.self.now.keys.now) c.args.step.now in
    let ns = c.args.nodes.now in
    let k = c.loop-node.node-index in
    let s = g.T.Tally.state c.loop-node.tally in
    c.loop-node.invariant.reported
    ∙ items_done c.args.self.now.site (and_from c.args.context.now m) (λ l. give (in_order l)) ns k c.loop-node.found s (omega arith)
    ∙ gives c.args.self.now.site (in_order c.loop-node.found) s
    ∙ ap (λ l. Goes l s) (sym c.in_ok-of_list.ensures.nodes)

pub follow_each-returns-clause-inside : goal.follow_each-returns-clause-inside
follow_each-returns-clause-inside g t c =
    subst (All (λ k. k < length c.args.context.now.tree)) (sym c.in_ok-of_list.ensures.nodes)
    (in_order_all (λ k. k < length c.args.context.now.tree) c.loop-node.found c.loop-node.invariant.inside)

-- nodes
pub evaluate_nodes-returns-in_err-v-clause-reported : goal.evaluate_nodes-returns-in_err-v-clause-reported
evaluate_nodes-returns-in_err-v-clause-reported g t c =
    let p = err_from_is_err_and c.from_residual.result c.from_residual.ensures.1 in
    exits (λ v. v) (λ v. v) c.args.self.now.site (run_of (g.K.KeyFinder.tables c.args.self.now.keys.now) c.args.expr.now c.args.context.now)
    (λ v. given (nodes_in v)) _
    (g.T.Tally.state c.args.tally.now) (g.T.Tally.state c.operand.new.tally) c.from_residual.result _ _ refl p.1 p.2 c.in_err-v.ensures.reported
