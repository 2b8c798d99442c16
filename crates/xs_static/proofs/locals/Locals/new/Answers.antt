use Rattle.std.proofs.Common.{◌∙◌, ap, List, Bool, reverse}
use Rattle.std.specs.Prelude.{◌||◌}
use Rattle.xs_static.specs.declared.locals.OpenBinding.{OpenBinding}
use Rattle.xs_static.specs.steps.Locals.{comes}
use Rattle.xs_static.proofs.locals.Locals.new.Goals as goal

pub returns-clause-bound : goal.returns-clause-bound
unfolding comes
returns-clause-bound c = λ uri local k.
    ap (λ (x : Bool). x || comes (reverse c.new-2.result.items) uri local k) (c.new.ensures uri local k)
    ∙ ap (λ (os : List OpenBinding). comes (reverse os) uri local k) c.new-2.ensures.items
