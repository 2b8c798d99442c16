use Rattle.std.proofs.Common.{sym, ◌∙◌, ap, subst}
use Rattle.xs_value.specs.Results.{Answers}
use Rattle.xs_value.specs.steps.Operands.{AreIn, Keeps, kept_numbers, some_numbers}
use Rattle.xs_value.proofs.KeptNumberLemmas.{can-stand, compared-kept, empty-right, kept-in}
use Rattle.xs_value.proofs.comparison.numbers.compare_numbers.Goals as goal

pub returns-then-is_empty : goal.returns-then-is_empty
returns-then-is_empty c =
    compared-kept c.args.tree.now c.args.op c.args.left.now c.args.right.now c.in-Ok.left c.in-Ok-numbers_of.right c.requires.numbers c.in-Ok.ensures
    c.in-Ok-numbers_of.ensures
    ∙ empty-right c.args.op (kept_numbers c.args.tree.now c.in-Ok.left) (kept_numbers c.args.tree.now c.in-Ok-numbers_of.right)
    (sym (c.if-is_empty.ensures c.args.tree.now))

pub compare_one-requires-clause-right : goal.compare_one-requires-clause-right
compare_one-requires-clause-right c = kept-in c.args.tree.now c.args.right.now c.in-Ok-numbers_of.right c.in-Ok-numbers_of.ensures c.requires.right

pub returns-in-One : goal.returns-in-One
returns-in-One c =
    let expected = compared-kept c.args.tree.now c.args.op c.args.left.now c.args.right.now c.in-Ok.left c.in-Ok-numbers_of.right c.requires.numbers
    c.in-Ok.ensures c.in-Ok-numbers_of.ensures in
    subst (λ d. Answers d c.compare_one.result)
    (sym (expected ∙ ap (λ l. some_numbers c.args.op (kept_numbers c.args.tree.now l) (kept_numbers c.args.tree.now c.in-Ok-numbers_of.right)) c.in-One.is))
    c.compare_one.ensures

pub compare_nodes-requires-clause-left : goal.compare_nodes-requires-clause-left
compare_nodes-requires-clause-left c =
    subst (AreIn c.args.tree.now) c.in-Nodes.is (kept-in c.args.tree.now c.args.left.now c.in-Ok.left c.in-Ok.ensures c.requires.left)

pub compare_nodes-requires-clause-right : goal.compare_nodes-requires-clause-right
compare_nodes-requires-clause-right c = kept-in c.args.tree.now c.args.right.now c.in-Ok-numbers_of.right c.in-Ok-numbers_of.ensures c.requires.right

pub compare_nodes-requires-clause-can : goal.compare_nodes-requires-clause-can
compare_nodes-requires-clause-can c = can-stand c.args.op c.args.left.now c.args.right.now c.in-Nodes.nodes c.in-Ok-numbers_of.right c.requires.numbers
    (subst (Keeps c.args.left.now) c.in-Nodes.is c.in-Ok.ensures) c.in-Ok-numbers_of.ensures

pub returns-in-Nodes : goal.returns-in-Nodes
returns-in-Nodes c =
    let expected = compared-kept c.args.tree.now c.args.op c.args.left.now c.args.right.now c.in-Ok.left c.in-Ok-numbers_of.right c.requires.numbers
    c.in-Ok.ensures c.in-Ok-numbers_of.ensures in
    subst (λ d. Answers d c.compare_nodes.result)
    (sym (expected ∙ ap (λ l. some_numbers c.args.op (kept_numbers c.args.tree.now l) (kept_numbers c.args.tree.now c.in-Ok-numbers_of.right)) c.in-Nodes.is))
    c.compare_nodes.ensures
