use Rattle.std.specs.List.{list_any}
use Rattle.xs_value.specs.TextIndexes.{is_indexed}
use Rattle.xs_value.specs.steps.Operands.{node_texts, some_equal}
use Rattle.xs_value.proofs.IndexLemmas.{by_index}
use Rattle.xs_value.proofs.KeptTextLemmas.{ok-same}
use Rattle.xs_value.proofs.comparison.texts.share_text_of_few.Goals as goal

pub returns : goal.returns
returns c =
    let few = node_texts c.args.tree.now c.args.few.now in
    let many = node_texts c.args.tree.now c.args.many.now in
    ok-same c.has_indexed.result (list_any (is_indexed c.in_ok-index.index.keys) many) (some_equal few many)
    (by_index (is_indexed c.in_ok-index.index.keys) few many c.in_ok-index.ensures.texts) c.has_indexed.ensures
