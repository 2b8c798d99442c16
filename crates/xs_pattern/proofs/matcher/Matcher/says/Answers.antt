use Rattle.std.proofs.Common.{ap, sym, ◌∙◌}
use Rattle.xs_xpath.specs.Exprs.{tree_from}
use Rattle.xs_eval_spec.specs.Context.{Context}
use Rattle.xs_eval_spec.specs.Evaluation.{run_of}
use Rattle.xs_pattern_spec.specs.Predicates.{value_in}
use Rattle.xs_pattern.specs.steps.Alone.{said}
use Rattle.xs_pattern.proofs.PlaceLemmas.{says-so, steady}
use Rattle.xs_pattern.proofs.matcher.Matcher.says.Goals as goal

pub returns : goal.returns
returns g c =
    let keys = g.K.KeyFinder.tables c.args.self.now.keys.now in
    let m = run_of keys c.args.predicate.now in
    record {
      says =
          says-so c.args.context.now c.args.node m c.said.result
          (steady keys (tree_from c.args.predicate.now) (sym c.uses_place.ensures.uses ∙ c.if-uses_place.false))
          (c.said.ensures ∙ ap said (c.in_ok-v.ensures.value ∙ ap (λ (x : Context). value_in (m x).end) c.at_node-around.ensures));
    }
