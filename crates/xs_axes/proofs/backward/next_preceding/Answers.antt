-- The walk passes what does not precede the node, and stops at the root of its document.
use Rattle.std.proofs.Common.{arith, ◌≡◌, ◌+◌, ◌-◌, ◌∙◌, ap, sym, true, false}
use Rattle.xs_tree.specs.Axis.{is_preceding}
use Rattle.xs_axes.specs.Walks.{passing_before}
use Rattle.xs_axes.proofs.BackwardAxisLemmas.{preceding-found, preceding-none, preceding-passed}
use Rattle.xs_axes.proofs.backward.next_preceding.Goals as goal

pub returns-then-precedes-clause-step : goal.returns-then-precedes-clause-step
returns-then-precedes-clause-step c =
    let found : is_preceding c.args.tree.now c.args.node (c.loop-before.before - 1) ≡ true =
    rw (← c.at-candidate.ensures) (sym c.precedes.ensures.value ∙ c.if-precedes.true) in
    let step : c.loop-before.before ≡ c.loop-before.before - 1 + 1 = omega (arith, c.loop-before-test.true) in
    c.loop-before.invariant.1
    ∙ ap (λ b. passing_before (is_preceding c.args.tree.now c.args.node) b) step
    ∙ rw c.at-candidate.ensures (preceding-found c.args.tree.now c.args.node (c.loop-before.before - 1) found)

pub loop-before-preserved : goal.loop-before-preserved
loop-before-preserved c =
    let passed : is_preceding c.args.tree.now c.args.node (c.loop-before.before - 1) ≡ false =
    rw (← c.at-candidate.ensures) (sym c.precedes.ensures.value ∙ c.if-precedes.false) in
    let step : c.loop-before.before ≡ c.loop-before.before - 1 + 1 = omega (arith, c.loop-before-test.true) in (
      omega (arith, c.loop-before.invariant.0),
      c.loop-before.invariant.1
          ∙ ap (λ b. passing_before (is_preceding c.args.tree.now c.args.node) b) step
          ∙ preceding-passed c.args.tree.now c.args.node (c.loop-before.before - 1) passed,
    )

pub returns-clause-step : goal.returns-clause-step
returns-clause-step c =
    c.loop-before.invariant.1 ∙ preceding-none c.args.tree.now c.args.node c.loop-before.before
    (omega (arith, c.requires.root, c.loop-before-test.false, c.place.ensures))
