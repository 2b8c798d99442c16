use Rattle.std.proofs.Common.{◌∙◌, ap, sym, arith, inr}
use Rattle.xs_compile.proofs.LookupLemmas.{around-up, lookup-end, lookup-found, lookup-more}
use Rattle.xs_compile.proofs.ReachLemmas.{parent-before}
use Rattle.xs_compile.specs.steps.Locals.{slot_among}
use Rattle.xs_compile.proofs.slots.Locals.slot_at.Goals as goal

pub returns-in-Some-slot_in : goal.returns-in-Some-slot_in
returns-in-Some-slot_in c =
    let rs = c.args.tree.now in
    sym (lookup-found rs c.in-Some.ensures.tree c.requires.apart c.args.self.now c.requires.locals c.args.uri.now c.args.local.now c.args.n c.loop-parent.inside
    c.in-Some.parent c.in-Some-slot_in.slot c.requires.inside c.loop-parent.invariant.within (sym c.in-Some.ensures.parent) c.loop-parent.invariant.around
    (ap (λ k. slot_among c.args.self.now c.in-Some.parent k c.args.uri.now c.args.local.now) (sym c.place.ensures) ∙ sym c.in-Some-slot_in.ensures))

pub loop-parent-preserved : goal.loop-parent-preserved
loop-parent-preserved c =
    let rs = c.args.tree.now in
    let tree = c.in-Some.ensures.tree in
    let parent = sym c.in-Some.ensures.parent in
    let before = parent-before rs tree c.loop-parent.inside c.in-Some.parent c.loop-parent.invariant.within parent in
    record {
      within = omega (arith, before, c.loop-parent.invariant.within);
      around = inr (around-up rs tree c.loop-parent.inside c.in-Some.parent c.args.n c.loop-parent.invariant.within parent c.loop-parent.invariant.around);
      none = lookup-more rs tree c.requires.apart c.args.self.now c.requires.locals c.args.uri.now c.args.local.now c.args.n c.loop-parent.inside
          c.in-Some.parent
          c.requires.inside c.loop-parent.invariant.within parent c.loop-parent.invariant.around
          (ap (λ k. slot_among c.args.self.now c.in-Some.parent k c.args.uri.now c.args.local.now) (sym c.place.ensures) ∙ sym c.in_default-slot_in.ensures)
          c.loop-parent.invariant.none;
    }

pub returns : goal.returns
returns c =
    sym (lookup-end c.args.tree.now c.in_default.ensures.tree c.requires.apart c.args.self.now c.requires.locals c.args.uri.now c.args.local.now c.args.n
    c.loop-parent.inside c.requires.inside (sym c.in_default.ensures.parent) c.loop-parent.invariant.around c.loop-parent.invariant.none)
