use Rattle.std.proofs.Common.{◌∙◌, ap}
use Rattle.xs_elements.specs.Nodes.{own_name}
use Rattle.xs_structure.proofs.places.name_at.Goals as goal

pub returns : goal.returns
returns c = c.own_name.ensures ∙ ap (λ rs. own_name rs c.args.n) c.tree_of.ensures
