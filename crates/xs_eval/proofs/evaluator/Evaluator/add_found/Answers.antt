use Rattle.std.proofs.Common.{◌++◌, ap, filter, ◌∙◌}
use Rattle.xs_eval.specs.steps.Keys.{holds}
use Rattle.xs_eval.proofs.KeyLemmas.{held-are}
use Rattle.xs_eval.proofs.evaluator.Evaluator.add_found.Goals as goal

pub returns : goal.returns
returns g c = record {
  found = (
    c.in_ok-found.ensures.found.0,
    c.in_ok-add_held.ensures.nodes
        ∙ ap (λ ks. c.args.before ++ filter (holds c.args.document.now) ks) (c.nodes.ensures.nodes ∙ c.in_ok-found.ensures.found.1)
        ∙ ap (λ ks. c.args.before ++ ks)
        (held-are c.args.context.now (g.K.KeyFinder.tables c.args.self.now.keys.now) c.args.key c.args.text.now c.args.document.now c.requires.context.tables
        c.requires.document),
  );
}
