-- The climb passes what is inside the node reached, and stops at a child of the parent.
use Rattle.std.proofs.Common.{arith, ◌≡◌, ◌<◌, ◌≤◌, ◌∙◌, Some, sym, ap, length, true, false}
use Rattle.std.proofs.lemmas.Bool.{eqb-true, eqb-false}
use Rattle.xs_tree.specs.Kinds.{is_child_kind}
use Rattle.xs_tree.specs.Record.{at}
use Rattle.xs_tree.proofs.WalkLemmas.{IsPlaced-at}
use Rattle.xs_axes.proofs.BackwardAxisLemmas.{parent-between, siblings-found, siblings-none, siblings-stop, siblings-up}
use Rattle.xs_axes.proofs.backward.sibling_before.Goals as goal

pub returns-then-is_child-clause-value : goal.returns-then-is_child-clause-value
returns-then-is_child-clause-value c =
    let own : (at c.args.tree.now c.loop-parent.node).parent ≡ Some c.args.parent = sym c.in_ok-up.ensures.parent
    ∙ ap Some (eqb-true c.in_ok-up.up c.args.parent (sym c.eq.ensures ∙ c.if-eq.true)) in
    let child : is_child_kind (at c.args.tree.now c.loop-parent.node).kind ≡ true = rw (← c.kind.ensures.kind) (sym c.is_child.ensures ∙ c.if-is_child.true) in
    c.loop-parent.invariant.2 ∙ siblings-found c.args.tree.now c.args.parent c.loop-parent.node own child

pub returns-else-is_child-clause-value : goal.returns-else-is_child-clause-value
returns-else-is_child-clause-value c =
    let own : (at c.args.tree.now c.loop-parent.node).parent ≡ Some c.args.parent = sym c.in_ok-up.ensures.parent
    ∙ ap Some (eqb-true c.in_ok-up.up c.args.parent (sym c.eq.ensures ∙ c.if-eq.true)) in
    let no_child : is_child_kind (at c.args.tree.now c.loop-parent.node).kind ≡ false =
    rw (← c.kind.ensures.kind) (sym c.is_child.ensures ∙ c.if-is_child.false) in
    c.loop-parent.invariant.2 ∙ siblings-stop c.args.tree.now c.args.parent c.loop-parent.node c.len-count.ensures.tree
    (omega (arith, c.loop-parent.invariant.1, c.requires.within)) own no_child

pub loop-parent-preserved : goal.loop-parent-preserved
loop-parent-preserved c =
    let up : (at c.args.tree.now c.loop-parent.node).parent ≡ Some c.in_ok-up.up = sym c.in_ok-up.ensures.parent in
    let within : c.loop-parent.node < length c.args.tree.now = omega (arith, c.loop-parent.invariant.1, c.requires.within) in
    let above : c.args.parent < c.loop-parent.node = omega (arith, c.loop-parent-test.true, c.place-in-loop-parent.ensures, c.place-in-loop-parent-2.ensures) in
    let from : c.args.parent ≤ c.in_ok-up.up = parent-between c.args.tree.now c.args.parent c.args.before c.loop-parent.node c.in_ok-up.up
    c.len-count.ensures.tree c.requires.within c.requires.child above c.loop-parent.invariant.1 up in
    let other : c.in_ok-up.up ≡ c.args.parent → ⊥ = eqb-false c.in_ok-up.up c.args.parent (sym c.eq.ensures ∙ c.if-eq.false) in
    let after : c.args.parent < c.in_ok-up.up = omega (arith, from, other) in (
      from,
      omega (arith, c.loop-parent.invariant.1, (IsPlaced-at c.args.tree.now c.loop-parent.node c.in_ok-up.up c.len-count.ensures.tree within up).before),
      c.loop-parent.invariant.2 ∙ siblings-up c.args.tree.now c.args.parent c.loop-parent.node c.in_ok-up.up c.len-count.ensures.tree within up after,
    )

pub returns-clause-value : goal.returns-clause-value
returns-clause-value c =
    let same : c.loop-parent.node ≡ c.args.parent =
    omega (arith, c.loop-parent.invariant.0, c.loop-parent-test.false, c.place-in-loop-parent.ensures, c.place-in-loop-parent-2.ensures) in
    c.loop-parent.invariant.2 ∙ rw same (siblings-none c.args.tree.now c.args.parent c.len-count.ensures.tree
    (omega (arith, same, c.loop-parent.invariant.1, c.requires.within)))
