use Rattle.std.proofs.Common.{rules, ◌≡◌, ◌∷◌}
use Rattle.xs_body.proofs.AttemptLemmas.{says-next}
use Rattle.xs_body.proofs.attempts.says_of.Goals as goal

pub loop-item-preserved : goal.loop-item-preserved
loop-item-preserved c =
    let e : c.loop-item.left.now ≡ (c.in-Some.item.now ∷ c.in-Some.others.now) = search rules in
    says-next c.loop-item.says.items _ _ c.loop-item.left.now c.in-Some.others.now c.in-Some.item.now e c.loop-item.invariant c.in_ok-push_said.ensures
