use Rattle.std.proofs.Common.{◌+◌, Bool, true, false, List, Option, Some, ap, arith, drop, map, subst, sym, ◌∙◌}
use Rattle.std.proofs.lemmas.List.{at_drop_all}
use Rattle.xs_eval_spec.specs.Evaluation.{run_of}
use Rattle.xs_eval_spec.specs.Paths.{Meaning}
use Rattle.xs_eval_spec.proofs.StepLemmas.{from_here, mapped_at, mapped_below, mapped_end}
use Rattle.xs_pattern.specs.steps.Alone.{AreSaid, IsSaid}
use Rattle.xs_pattern.proofs.KeptLemmas.{said-dropped, said-none, said-on}
use Rattle.xs_pattern.proofs.matcher.Matcher.say.Goals as goal

-- the node is dropped
pub returns-in-Some-false : goal.returns-in-Some-false
returns-in-Some-false g c =
    let ctx = c.args.context.now in
    let n = c.args.node in
    let keys = g.K.KeyFinder.tables c.args.self.now.keys.now in
    let es = c.args.predicates.now in
    let ms = map (run_of keys) es in
    let k = c.loop-predicate.predicate-index in
    let e = c.predicate-item.result in
    record {
      say =
          c.loop-predicate.invariant (Some false)
          (subst (λ (l : List Meaning). AreSaid n ctx l (Some false))
          (sym (from_here ms k (run_of keys e) (mapped_below (run_of keys) es k (omega arith))
          (mapped_at (run_of keys) es k e (omega arith) c.predicate-item.is)))
          (said-dropped n ctx (run_of keys e) (drop (k + 1) ms)
          (subst (λ (o : Option Bool). IsSaid n ctx (run_of keys e) o) (c.in-Some-false.is ∙ ap (λ (b : Bool). Some b) c.in-Some-false.field-0-test)
          c.in_ok-says.ensures.says)));
    }

-- it is kept by one, and the others decide
pub loop-predicate-preserved : goal.loop-predicate-preserved
loop-predicate-preserved g c =
    let ctx = c.args.context.now in
    let n = c.args.node in
    let keys = g.K.KeyFinder.tables c.args.self.now.keys.now in
    let es = c.args.predicates.now in
    let ms = map (run_of keys) es in
    let k = c.loop-predicate.predicate-index in
    let e = c.predicate-item.result in
    λ o rest.
    c.loop-predicate.invariant o
    (subst (λ (l : List Meaning). AreSaid n ctx l o)
    (sym (from_here ms k (run_of keys e) (mapped_below (run_of keys) es k (omega arith)) (mapped_at (run_of keys) es k e (omega arith) c.predicate-item.is)))
    (said-on n ctx (run_of keys e) (drop (k + 1) ms) o
    (subst (λ (o : Option Bool). IsSaid n ctx (run_of keys e) o) (c.in-Some-true.is ∙ ap (λ (b : Bool). Some b) c.in-Some-true.field-0-test)
    c.in_ok-says.ensures.says) rest))

-- all keep it
pub returns : goal.returns
returns g c =
    let ctx = c.args.context.now in
    let n = c.args.node in
    let keys = g.K.KeyFinder.tables c.args.self.now.keys.now in
    let es = c.args.predicates.now in
    let ms = map (run_of keys) es in
    let k = c.loop-predicate.predicate-index in
    record {
      say =
          c.loop-predicate.invariant (Some true)
          (subst (λ (l : List Meaning). AreSaid n ctx l (Some true))
          (sym (at_drop_all (λ (l : List Meaning). l) ms k (mapped_end (run_of keys) es k (omega arith)))) (said-none n ctx));
    }
