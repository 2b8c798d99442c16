-- The walk passes what is no content.
use Rattle.std.proofs.Common.{◌≡◌, ◌∙◌, sym, true, false}
use Rattle.xs_axes.specs.Walks.{is_content}
use Rattle.xs_axes.proofs.RangeLemmas.{between-true, between-false}
use Rattle.xs_axes.proofs.forward.next_content.Goals as goal

pub returns-then-is_child-clause-step : goal.returns-then-is_child-clause-step
returns-then-is_child-clause-step c =
    let node_is : c.at-node.result ≡ c.loop-place.place = c.at-node.ensures in
    let passes : is_content c.args.tree.now c.loop-place.place ≡ true = rw (← node_is, ← c.kind.ensures.kind) (sym c.is_child.ensures ∙ c.if-is_child.true) in
    c.loop-place.invariant ∙ rw node_is (between-true (is_content c.args.tree.now) c.loop-place.place c.args.end c.loop-place-test.true passes)

pub loop-place-preserved : goal.loop-place-preserved
loop-place-preserved c =
    let node_is : c.at-node.result ≡ c.loop-place.place = c.at-node.ensures in
    let fails : is_content c.args.tree.now c.loop-place.place ≡ false = rw (← node_is, ← c.kind.ensures.kind) (sym c.is_child.ensures ∙ c.if-is_child.false) in
    c.loop-place.invariant ∙ between-false (is_content c.args.tree.now) c.loop-place.place c.args.end c.loop-place-test.true fails
