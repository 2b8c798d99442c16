use Rattle.std.proofs.Common.{ap, ◌∙◌}
use Rattle.xs_xpath.specs.Rows.{first_named}
use Rattle.xs_xpath.proofs.RowLemmas.{functions_named}
use Rattle.xs_xpath.proofs.scope.function_of.Goals as goal

pub loop-spelling-init : goal.loop-spelling-init
loop-spelling-init c = ap (λ rows. first_named rows c.args.name.now) c.functions-spelling-items.ensures ∙ functions_named c.args.name.now
