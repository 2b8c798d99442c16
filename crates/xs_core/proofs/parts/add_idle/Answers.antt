use Rattle.std.proofs.Common.{◌++◌, ◌∷◌, ◌∙◌, [], None, ap}
use Rattle.xs_core.specs.Machine.{worker}
use Rattle.xs_core.proofs.OpeningLemmas.{idle-after}
use Rattle.xs_core.proofs.parts.add_idle.Goals as goal

pub loop-other-preserved : goal.loop-other-preserved
loop-other-preserved c =
    c.in_ok-push.ensures.items
    ∙ ap (λ w. c.loop-other.seats.items ++ w ∷ []) c.new.ensures.idle
    ∙ ap (λ ws. ws ++ worker [] None ∷ []) c.loop-other.invariant
    ∙ idle-after c.args.seats.now.items c.loop-other._other
