use Rattle.std.proofs.Common.{ap, ◌∙◌}
use Rattle.xs_xpath.specs.Rows.{first_named}
use Rattle.xs_parser.proofs.RowLemmas.{axes_named}
use Rattle.xs_parser.proofs.names.axis_of.Goals as goal

pub loop-spelling-init : goal.loop-spelling-init
loop-spelling-init c = ap (λ rows. first_named rows c.args.name.now) c.axes-spelling-items.ensures ∙ axes_named c.args.name.now
