use Rattle.std.proofs.Common.{sym, ◌∙◌, ap, inl, inr, length}
use Rattle.std.proofs.lemmas.Bool.{eqb-true}
use Rattle.xs_value.specs.steps.Operands.{has_others, kept_texts, some_different}
use Rattle.xs_value.proofs.KeptTextLemmas.{ok-same, some-length}
use Rattle.xs_value.proofs.TextLemmas.{none_differs, others_differ}
use Rattle.xs_value.proofs.comparison.texts.some_different.Goals as goal

pub returns-then-is_empty : goal.returns-then-is_empty
returns-then-is_empty c = none_differs (kept_texts c.args.tree.now c.args.left.now) (kept_texts c.args.tree.now c.args.right.now)
    (inl (eqb-true (length (kept_texts c.args.tree.now c.args.left.now)) 0 (sym (c.if-is_empty.ensures c.args.tree.now))))

pub returns-then-is_empty-2 : goal.returns-then-is_empty-2
returns-then-is_empty-2 c = none_differs (kept_texts c.args.tree.now c.args.left.now) (kept_texts c.args.tree.now c.args.right.now)
    (inr (eqb-true (length (kept_texts c.args.tree.now c.args.right.now)) 0 (sym (c.if-is_empty-2.ensures c.args.tree.now))))

pub returns : goal.returns
returns c =
    let left = kept_texts c.args.tree.now c.args.left.now in
    let right = kept_texts c.args.tree.now c.args.right.now in
    ok-same c.has_other_in_both.result (has_others c.as_str.result.now left right) (some_different left right)
    (ap (λ t. has_others t left right) (c.as_str.ensures.value ∙ c.in_ok-text.ensures)
    ∙ others_differ left right (some-length (length left) (c.if-is_empty.ensures c.args.tree.now))
    (some-length (length right) (c.if-is_empty-2.ensures c.args.tree.now)))
    c.has_other_in_both.ensures
