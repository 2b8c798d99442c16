use Rattle.std.proofs.Common.{ℕ, ◌+◌, List, arith, ap, drop, map, sym, ◌∙◌}
use Rattle.xs_eval_spec.specs.Evaluation.{run_of}
use Rattle.xs_eval_spec.specs.Paths.{Meaning}
use Rattle.xs_eval_spec.proofs.StepLemmas.{from_here, mapped_at, mapped_below}
use Rattle.xs_pattern_spec.specs.Predicates.{all_kept, kept}
use Rattle.xs_pattern.proofs.matcher.Matcher.all_kept.Goals as goal

pub loop-predicate-preserved : goal.loop-predicate-preserved
loop-predicate-preserved g c =
    let ctx = c.args.context.now in
    let keys = g.K.KeyFinder.tables c.args.self.now.keys.now in
    let es = c.args.predicates.now in
    let ms = map (run_of keys) es in
    let k = c.loop-predicate.predicate-index in
    let e = c.predicate-item.result in
    record {
      whole =
          ap (λ (l : List ℕ). all_kept ctx l (drop (k + 1) ms))
          (c.in_ok-nodes.ensures.nodes ∙ ap (λ (l : List ℕ). kept ctx l (run_of keys e)) c.deref.ensures.value)
          ∙ sym (ap (λ (l : List Meaning). all_kept ctx c.loop-predicate.nodes.items l)
          (from_here ms k (run_of keys e) (mapped_below (run_of keys) es k (omega arith)) (mapped_at (run_of keys) es k e (omega arith) c.predicate-item.is)))
          ∙ c.loop-predicate.invariant.whole;
      some = c.in_ok-nodes.ensures.some;
    }
