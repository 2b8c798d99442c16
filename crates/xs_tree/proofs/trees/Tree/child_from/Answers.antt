-- The walk passes what is no child, and stops where none can follow.
use Rattle.std.proofs.Common.{arith, ◌≡◌, ◌<◌, ◌∙◌, sym, length, true, false}
use Rattle.xs_tree.specs.Record.{is_child}
use Rattle.xs_tree.proofs.WalkLemmas.{passing-true, passing-false, not_child-past, refuted}
use Rattle.xs_tree.proofs.trees.Tree.child_from.Goals as goal

pub returns-then-is_child-clause-value : goal.returns-then-is_child-clause-value
returns-then-is_child-clause-value c =
    let node_is : c.at-node.result ≡ c.loop-place.place = c.at-node.ensures in
    let within : c.loop-place.place < length c.args.self.now = omega (arith, c.loop-place-test.true, c.len-place-end.ensures.count) in
    let passes : is_child c.args.self.now c.args.parent c.loop-place.place ≡ true = rw (← node_is) (sym c.is_child.ensures.value ∙ c.if-is_child.true) in
    c.loop-place.invariant ∙ rw node_is (passing-true (is_child c.args.self.now c.args.parent) c.args.self.now c.loop-place.place within passes)

pub returns-then-not-begins_inside-clause-value : goal.returns-then-not-begins_inside-clause-value
returns-then-not-begins_inside-clause-value c =
    let node_is : c.at-node.result ≡ c.loop-place.place = c.at-node.ensures in
    let within : c.loop-place.place < length c.args.self.now = omega (arith, c.loop-place-test.true, c.len-place-end.ensures.count) in
    let after : c.args.parent < c.loop-place.place = omega (arith, c.requires, c.loop-place.auto.place, c.place-place.ensures) in
    c.loop-place.invariant ∙ not_child-past c.args.self.now c.args.parent c.loop-place.place c.len-place-end.ensures.tree after within
    (rw (← node_is) (refuted c.begins_inside.result _ c.begins_inside.ensures.value c.if-not-begins_inside.true))

pub loop-place-preserved : goal.loop-place-preserved
loop-place-preserved c =
    let node_is : c.at-node.result ≡ c.loop-place.place = c.at-node.ensures in
    let within : c.loop-place.place < length c.args.self.now = omega (arith, c.loop-place-test.true, c.len-place-end.ensures.count) in
    let fails : is_child c.args.self.now c.args.parent c.loop-place.place ≡ false = rw (← node_is) (sym c.is_child.ensures.value ∙ c.if-is_child.false) in
    c.loop-place.invariant ∙ passing-false (is_child c.args.self.now c.args.parent) c.args.self.now c.loop-place.place within fails
