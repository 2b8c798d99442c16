use Rattle.std.proofs.Common.{◌∙◌, ap, map}
use Rattle.std.specs.Cow.{cow_str_bytes}
use Rattle.std.specs.List.{list_any}
use Rattle.std.specs.Str.{bytes_eq}
use Rattle.xs_tree.specs.Record.{string_value}
use Rattle.xs_value.specs.Tables.{table_at}
use Rattle.xs_value.specs.TextIndexes.{IsIndexOf}
use Rattle.xs_eval.proofs.UnitedLemmas.{united-index}
use Rattle.xs_eval_spec.specs.Context.{Context}
use Rattle.xs_eval_spec.specs.Keys.{found_for}
use Rattle.xs_eval.proofs.KeyLemmas.{finds-same}
use Rattle.xs_eval.proofs.evaluator.Evaluator.found_for_nodes.Goals as goal

pub returns : goal.returns
returns g c =
    let around = c.args.context.now in
    let table = table_at (g.K.KeyFinder.tables c.args.self.now.keys.now) c.args.key in
    let index = c.in_ok-index.index.keys in
    let sought = map (string_value around.tree) c.args.sought.now in
    let is : IsIndexOf index sought = λ q.
    c.in_ok-index.ensures.texts q ∙ ap (λ (a : Context). list_any (bytes_eq q) (map (string_value a.tree) c.args.sought.now)) c.context.view_is in
    record {
      found =
          finds-same around table (map cow_str_bytes index) sought c.found_for_index-found.result (united-index (found_for around table) index sought is)
          c.found_for_index-found.ensures.found;
    }
