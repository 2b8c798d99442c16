use Rattle.std.proofs.Common.{ap, ◌∙◌}
use Rattle.std.proofs.lemmas.Iterator.{items_from_drains, YieldsList-from_slice}
use Rattle.xs_result.specs.Built.{built}
use Rattle.xs_value.specs.declared.value.Value.TheVariants.{Piece}
use Rattle.xs_body.proofs.bindings.fragment_value.Goals as goal

pub returns : goal.returns
returns c =
    let d = c.in_ok-built.ensures in
    let given = items_from_drains d.0 (d.1.1.0, d.1.1.1, λ _. (d.1.0, d.1.1.2))
    (YieldsList-from_slice c.args.fragment (c.iter.ensures.rest ∙ c.events.ensures.events)) in
    ap Piece (c.in_ok-of.ensures.events ∙ d.2 ∙ ap built given)
