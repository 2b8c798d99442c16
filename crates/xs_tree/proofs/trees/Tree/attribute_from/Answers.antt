-- The walk passes what is no attribute, and stops where none can follow.
use Rattle.std.proofs.Common.{arith, ◌≡◌, ◌<◌, ◌∙◌, sym, length, true, false}
use Rattle.xs_tree.specs.Kinds.{rank}
use Rattle.xs_tree.specs.Record.{at, is_attribute}
use Rattle.xs_tree.proofs.WalkLemmas.{passing-true, passing-false, not_attribute-past}
use Rattle.xs_tree.proofs.trees.Tree.attribute_from.Goals as goal

pub returns-then-is_attribute-clause-value : goal.returns-then-is_attribute-clause-value
returns-then-is_attribute-clause-value c =
    let node_is : c.at-node.result ≡ c.loop-place.place = c.at-node.ensures in
    let within : c.loop-place.place < length c.args.self.now = omega (arith, c.loop-place-test.true, c.len-place-end.ensures.count) in
    let passes : is_attribute c.args.self.now c.args.parent c.loop-place.place ≡ true =
    rw (← node_is) (sym c.is_attribute.ensures.value ∙ c.if-is_attribute.true) in
    c.loop-place.invariant ∙ rw node_is (passing-true (is_attribute c.args.self.now c.args.parent) c.args.self.now c.loop-place.place within passes)

pub loop-place-preserved : goal.loop-place-preserved
loop-place-preserved c =
    let node_is : c.at-node.result ≡ c.loop-place.place = c.at-node.ensures in
    let within : c.loop-place.place < length c.args.self.now = omega (arith, c.loop-place-test.true, c.len-place-end.ensures.count) in
    let fails : is_attribute c.args.self.now c.args.parent c.loop-place.place ≡ false =
    rw (← node_is) (sym c.is_attribute.ensures.value ∙ c.if-is_attribute.false) in
    c.loop-place.invariant ∙ passing-false (is_attribute c.args.self.now c.args.parent) c.args.self.now c.loop-place.place within fails

pub returns-then-rank-eq2-clause-value : goal.returns-then-rank-eq2-clause-value
returns-then-rank-eq2-clause-value c =
    let node_is : c.at-node.result ≡ c.loop-place.place = c.at-node.ensures in
    let within : c.loop-place.place < length c.args.self.now = omega (arith, c.loop-place-test.true, c.len-place-end.ensures.count) in
    let after : c.args.parent < c.loop-place.place = omega (arith, c.requires, c.loop-place.auto.place, c.place-place.ensures) in
    let two : rank (at c.args.self.now c.loop-place.place).kind ≡ 2 = rw (← node_is, ← c.kind.ensures.kind) (sym c.rank.ensures ∙ c.if-rank-eq2.true) in
    c.loop-place.invariant ∙ not_attribute-past c.args.self.now c.args.parent c.loop-place.place c.len-place-end.ensures.tree after within (omega (arith, two))
