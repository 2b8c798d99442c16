use Rattle.std.proofs.Common.{◌≡◌, ◌∙◌}
use Rattle.xs_tree.specs.declared.kinds.Kind.TheVariants.{Element}
use Rattle.xs_tree.specs.Record.{at}
use Rattle.xs_axes.proofs.ForwardAxisLemmas.{axis-attributes, axis-no_attributes}
use Rattle.xs_axes.proofs.starts.attributes.Goals as goal

pub returns-in-Element-clause-left : goal.returns-in-Element-clause-left
returns-in-Element-clause-left c =
    rw c.place_after-from.ensures.place (axis-attributes c.args.tree.now c.args.node c.place_after-from.ensures.tree c.requires)

pub returns-in_default-clause-left : goal.returns-in_default-clause-left
returns-in_default-clause-left c =
    let other : (at c.args.tree.now c.args.node).kind ≡ Element → ⊥ = λ e. c.in_default.not-Element (c.kind.ensures.kind ∙ e) in
    axis-no_attributes c.args.tree.now c.args.node c.place_after-from.ensures.tree other
