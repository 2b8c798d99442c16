use Rattle.std.proofs.Common.{[], ap, sym, ◌∙◌}
use Rattle.std.specs.Option.{option_map_or}
use Rattle.xs_trace.specs.Run.{Run}
use Rattle.xs_tree.specs.Kinds.{is_root_kind}
use Rattle.xs_tree.specs.Record.{at}
use Rattle.xs_value.specs.declared.value.Value.{Value}
use Rattle.xs_xpath.specs.declared.expr.Expr.{Expr}
use Rattle.xs_eval_spec.specs.Context.{Context}
use Rattle.xs_eval_spec.specs.Evaluation.{run_of}
use Rattle.xs_eval_spec.proofs.CaseLemmas.{run_root}
use Rattle.xs_pattern_spec.specs.Matching.{placed_at}
use Rattle.xs_pattern_spec.specs.Predicates.{is_among, nodes_of, value_in}
use Rattle.xs_pattern.proofs.StartLemmas.{root-among}
use Rattle.xs_pattern.proofs.matcher.Matcher.begins.Goals as goal

pub returns-in-Root : goal.returns-in-Root
returns-in-Root g c =
    let keys = g.K.KeyFinder.tables c.args.self.now.keys.now in
    let ctx = c.args.context.now in
    let n = c.args.node in
    record {
      begins =
          c.is_root.ensures
          ∙ ap (λ (x : Context). is_root_kind (at x.tree n).kind) c.context.view_is
          ∙ sym (root-among ctx.tree n c.requires.tree)
          ∙ sym (ap (λ (r : Run Value). is_among n (option_map_or nodes_of (value_in r.end) []))
          (ap (λ (e : Expr). run_of keys e (placed_at ctx n)) c.in-Root.is ∙ run_root keys (placed_at ctx n)));
    }
