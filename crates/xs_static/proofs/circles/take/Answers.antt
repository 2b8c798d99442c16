use Rattle.std.proofs.Common.{refl, sym}
use Rattle.xs_static.specs.steps.First.{past, straight, circular}
use Rattle.xs_static.proofs.FirstLemmas.{reported-true, reported-false}
use Rattle.xs_static.proofs.RankLemmas.{no-circle, reported-both}
use Rattle.xs_static.specs.steps.Ranks.{falls}
use Rattle.xs_static.proofs.circles.take.Goals as goal

pub returns-then-is_past : goal.returns-then-is_past
returns-then-is_past c = past refl (sym c.if-is_past.ensures)

pub returns-then-is_reported : goal.returns-then-is_reported
returns-then-is_reported c =
    let both = reported-both c.args.is_ranked (falls c.args.ranks.now c.args.declaration.now) c.if-is_reported.ensures in
    straight refl (no-circle c.args.ranks.now c.args.declarations.now (c.requires both.0) c.args.declaration.now both.1)

pub returns-then-branch : goal.returns-then-branch
returns-then-branch c =
    circular refl (sym c.if-is_past.ensures) (reported-true _ _ c.in_ok-leads_back.field-0 c.if-branch.true c.in_ok-leads_back.ensures)

pub returns : goal.returns
returns c = straight refl (reported-false _ _ c.in_ok-leads_back.field-0 c.if-branch.false c.in_ok-leads_back.ensures)
