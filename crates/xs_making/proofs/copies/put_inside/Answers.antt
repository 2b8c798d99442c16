use Rattle.std.proofs.Common.{◌+◌, ◌-◌, ◌*◌, ◌<◌, ◌∙◌, length, refl, subst, sym}
use Rattle.std.proofs.lemmas.Bool.{eqb-false, eqb-true}
use Rattle.std.proofs.lemmas.Result.{err_from_is_err_and}
use Rattle.xs_making.proofs.WalkLemmas.{IsCopying, copying-all, copying-end, copying-next, copying-parent, copying-start, copying-stops}
use Rattle.xs_making.proofs.WalkLemmas.{copying-stops-end, smaller-end, smaller-next}
use Rattle.xs_making.proofs.copies.put_inside.Goals as goal

pub loop-child-init : goal.loop-child-init
loop-child-init g c =
    let s = g.R.Tally.state c.args.recorder.now in (
      subst (λ k. IsCopying c.args.site c.args.tree.now c.args.node s s c.args.node k) (sym c.next_place-from.ensures.place)
          (copying-start c.args.site c.args.tree.now c.args.node s c.requires),
      refl,
    )

pub returns-in_err-put_opening-clause-reported : goal.returns-in_err-put_opening-clause-reported
returns-in_err-put_opening-clause-reported g c =
    let p = err_from_is_err_and c.from_residual.result c.from_residual.ensures.1 in
    copying-stops c.args.site c.args.tree.now c.args.node (g.R.Tally.state c.args.recorder.now) (g.R.Tally.state c.loop-child.recorder)
    (g.R.Tally.state c.put_opening.new.recorder) c.loop-child.holder c.loop-child.from c.in-Some.child c.from_residual.result _ _
    c.next_place-from.ensures.tree c.in-Some.ensures.within c.in-Some.ensures.after c.loop-child.invariant.0 c.in-Some.ensures.value p.1 p.2
    c.in_err-put_opening.ensures.reported

pub loop-child-smaller-in-Some : goal.loop-child-smaller-in-Some
loop-child-smaller-in-Some g c =
    smaller-next c.args.site c.args.tree.now c.args.node (g.R.Tally.state c.args.recorder.now) (g.R.Tally.state c.loop-child.recorder)
    c.loop-child.holder c.loop-child.from c.in-Some.child c.next_place-from-in-Some.result c.holder_after-holder.result c.loop-child.invariant.0
    c.in-Some.ensures.within c.in-Some.ensures.value c.holder_after-holder.ensures c.next_place-from-in-Some.ensures.place

pub loop-child-preserved-in-Some : goal.loop-child-preserved-in-Some
loop-child-preserved-in-Some g c = (
  copying-next c.args.site c.args.tree.now c.args.node (g.R.Tally.state c.args.recorder.now) (g.R.Tally.state c.loop-child.recorder)
      (g.R.Tally.state c.put_opening.new.recorder) c.loop-child.holder c.loop-child.from c.in-Some.child c.next_place-from-in-Some.result
      c.holder_after-holder.result c.next_place-from.ensures.tree c.in-Some.ensures.within c.in-Some.ensures.after c.loop-child.invariant.0
      c.in-Some.ensures.value c.in_ok-put_opening.ensures.reported c.holder_after-holder.ensures c.next_place-from-in-Some.ensures.place,
  c.in_ok-put_opening.ensures.kept ∙ c.loop-child.invariant.1,
)

pub returns-then-eq-clause-reported : goal.returns-then-eq-clause-reported
returns-then-eq-clause-reported g c =
    copying-all c.args.site c.args.tree.now c.args.node (g.R.Tally.state c.args.recorder.now) (g.R.Tally.state c.loop-child.recorder)
    c.loop-child.holder c.loop-child.from c.loop-child.invariant.0 (eqb-true c.loop-child.holder c.args.node (sym c.eq.ensures ∙ c.if-eq.true))
    c.in_default.ensures.value

pub returns-in_err-put_one-clause-reported : goal.returns-in_err-put_one-clause-reported
returns-in_err-put_one-clause-reported g c =
    let p = err_from_is_err_and c.from_residual-in_err-put_one.result c.from_residual-in_err-put_one.ensures.1 in
    copying-stops-end c.args.site c.args.tree.now c.args.node (g.R.Tally.state c.args.recorder.now) (g.R.Tally.state c.loop-child.recorder)
    (g.R.Tally.state c.put_one.new.recorder) c.loop-child.holder c.loop-child.from c.from_residual-in_err-put_one.result _ _ c.loop-child.invariant.0
    (eqb-false c.loop-child.holder c.args.node (sym c.eq.ensures ∙ c.if-eq.false)) c.in_default.ensures.value p.1 p.2 c.in_err-put_one.ensures.reported

pub parent_of-holder-requires-clause-inside : goal.parent_of-holder-requires-clause-inside
parent_of-holder-requires-clause-inside g c =
    copying-parent c.args.site c.args.tree.now c.args.node (g.R.Tally.state c.args.recorder.now) (g.R.Tally.state c.loop-child.recorder)
    c.loop-child.holder c.loop-child.from c.loop-child.invariant.0 (eqb-false c.loop-child.holder c.args.node (sym c.eq.ensures ∙ c.if-eq.false))

pub loop-child-smaller : goal.loop-child-smaller
loop-child-smaller g c =
    let n = length c.args.tree.now in
    subst (λ k. (n - k) * (n + 1) + c.parent_of-holder.result < (n - c.loop-child.from) * (n + 1) + c.loop-child.holder) (sym c.at-from.ensures)
    (smaller-end c.args.site c.args.tree.now c.args.node (g.R.Tally.state c.args.recorder.now) (g.R.Tally.state c.loop-child.recorder)
    c.loop-child.holder c.loop-child.from c.parent_of-holder.result c.subtree_end.result c.subtree_end.ensures.tree c.loop-child.invariant.0
    c.parent_of-holder.ensures c.subtree_end.ensures.end)

pub loop-child-preserved : goal.loop-child-preserved
loop-child-preserved g c =
    let s = g.R.Tally.state c.args.recorder.now in
    let m = g.R.Tally.state c.put_one.new.recorder in (
      subst (λ k. IsCopying c.args.site c.args.tree.now c.args.node s m c.parent_of-holder.result k) (sym c.at-from.ensures)
          (copying-end c.args.site c.args.tree.now c.args.node s (g.R.Tally.state c.loop-child.recorder) m c.loop-child.holder c.loop-child.from
          c.parent_of-holder.result c.subtree_end.result c.subtree_end.ensures.tree c.loop-child.invariant.0
          (eqb-false c.loop-child.holder c.args.node (sym c.eq.ensures ∙ c.if-eq.false)) c.in_default.ensures.value c.parent_of-holder.ensures
          c.subtree_end.ensures.end c.in_ok-put_one.ensures.reported),
      c.in_ok-put_one.ensures.kept ∙ c.loop-child.invariant.1,
    )
