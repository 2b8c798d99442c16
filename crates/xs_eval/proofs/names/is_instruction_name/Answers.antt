use Rattle.std.proofs.Common.{ap, ◌∙◌}
use Rattle.xs_eval.specs.steps.Names.{is_one_of}
use Rattle.xs_eval.proofs.NameLemmas.{instructions_named}
use Rattle.xs_eval.proofs.names.is_instruction_name.Goals as goal

pub loop-name-init : goal.loop-name-init
loop-name-init c = ap (λ names. is_one_of names c.args.local.now) c.instructions-name-items.ensures ∙ instructions_named c.args.local.now
