-- The walk passes what is no text, and stops at the end of the subtree.
use Rattle.std.proofs.Common.{arith, ◌≡◌, ◌<◌, ◌∙◌, sym, true, false}
use Rattle.xs_tree.specs.Kinds.{is_text_kind}
use Rattle.xs_tree.specs.Record.{at}
use Rattle.xs_tree.proofs.WalkLemmas.{text_nodes-true, text_nodes-false, text_nodes-over}
use Rattle.xs_tree.proofs.trees.Tree.text_node_from.Goals as goal

pub returns-then-is_text-clause-value : goal.returns-then-is_text-clause-value
returns-then-is_text-clause-value c =
    let node_is : c.at-node.result ≡ c.loop-place.place = c.at-node.ensures in
    let after : c.args.outer < c.loop-place.place = omega (arith, c.requires.after, c.loop-place.auto.place) in
    let is_text : is_text_kind (at c.args.self.now c.loop-place.place).kind ≡ true = rw (← node_is) (sym c.is_text.ensures ∙ c.if-is_text.true) in
    c.loop-place.invariant
    ∙ rw node_is
    (text_nodes-true c.args.self.now c.args.outer c.args.end c.loop-place.place c.len-count.ensures.tree c.requires.end after c.loop-place-test.true is_text)

pub loop-place-preserved : goal.loop-place-preserved
loop-place-preserved c =
    let node_is : c.at-node.result ≡ c.loop-place.place = c.at-node.ensures in
    let other : is_text_kind (at c.args.self.now c.loop-place.place).kind ≡ false = rw (← node_is) (sym c.is_text.ensures ∙ c.if-is_text.false) in
    c.loop-place.invariant
    ∙ text_nodes-false c.args.self.now c.args.outer c.args.end c.loop-place.place c.requires.end c.loop-place-test.true other

pub returns-clause-value : goal.returns-clause-value
returns-clause-value c =
    let at_end : c.loop-place.place ≡ c.args.end = omega (arith, c.loop-place-test.false, c.loop-place.auto.place-end, c.requires.until) in
    c.loop-place.invariant ∙ rw at_end (text_nodes-over c.args.self.now c.args.outer c.args.end c.len-count.ensures.tree c.requires.end)
