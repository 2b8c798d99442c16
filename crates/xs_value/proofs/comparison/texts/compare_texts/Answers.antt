use Rattle.xs_value.specs.steps.Operands.{kept_texts, some_different, some_equal}
use Rattle.xs_value.specs.Comparison.{compared}
use Rattle.xs_value.proofs.KeptTextLemmas.{compared-different, compared-equal, kept-in, ok-holds}
use Rattle.xs_value.proofs.comparison.texts.compare_texts.Goals as goal

pub some_equal-requires-clause-left : goal.some_equal-requires-clause-left
some_equal-requires-clause-left c = kept-in c.args.tree.now c.args.left.now c.in_ok-left.left c.in_ok-left.ensures c.requires.left

pub some_equal-requires-clause-right : goal.some_equal-requires-clause-right
some_equal-requires-clause-right c = kept-in c.args.tree.now c.args.right.now c.in_ok-right.right c.in_ok-right.ensures c.requires.right

pub some_different-requires : goal.some_different-requires
some_different-requires c = record {
  left = kept-in c.args.tree.now c.args.left.now c.in_ok-left.left c.in_ok-left.ensures c.requires.left;
  right = kept-in c.args.tree.now c.args.right.now c.in_ok-right.right c.in_ok-right.ensures c.requires.right;
}

pub returns-in-Eq : goal.returns-in-Eq
returns-in-Eq c = ok-holds c.some_equal.result (compared c.args.tree.now c.args.op c.args.left.now c.args.right.now)
    (some_equal (kept_texts c.args.tree.now c.in_ok-left.left) (kept_texts c.args.tree.now c.in_ok-right.right))
    (compared-equal c.args.tree.now c.args.op c.args.left.now c.args.right.now c.in_ok-left.left c.in_ok-right.right c.requires.strings c.in-Eq.is
    c.in_ok-left.ensures c.in_ok-right.ensures)
    c.some_equal.ensures

pub returns : goal.returns
returns c = ok-holds c.some_different.result (compared c.args.tree.now c.args.op c.args.left.now c.args.right.now)
    (some_different (kept_texts c.args.tree.now c.in_ok-left.left) (kept_texts c.args.tree.now c.in_ok-right.right))
    (compared-different c.args.tree.now c.args.op c.args.left.now c.args.right.now c.in_ok-left.left c.in_ok-right.right c.requires.strings c.in_default.not-Eq
    c.in_ok-left.ensures c.in_ok-right.ensures)
    c.some_different.ensures
