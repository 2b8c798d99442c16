use Rattle.xs_value.specs.steps.Operands.{node_texts, some_equal}
use Rattle.xs_value.proofs.IndexLemmas.{equal-swap}
use Rattle.xs_value.proofs.KeptTextLemmas.{ok-same}
use Rattle.xs_value.proofs.comparison.texts.share_text.Goals as goal

pub returns-then-right-left : goal.returns-then-right-left
returns-then-right-left c =
    let left = node_texts c.args.tree.now c.args.left.now in
    let right = node_texts c.args.tree.now c.args.right.now in
    ok-same c.share_text_of_few.result (some_equal right left) (some_equal left right) (equal-swap right left) c.share_text_of_few.ensures
