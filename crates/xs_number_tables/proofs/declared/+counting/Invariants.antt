use denote.Param.Weighed.{most}
use Rattle.std.proofs.Common.{◌+◌, ◌*◌}
use Rattle.xs_sheet.specs.declared.body.Binding.{size-Binding}
use Rattle.xs_sheet.specs.declared.body.Body.{size-Body}
use Rattle.xs_sheet.specs.declared.body.Choice.{size-Choice}
use Rattle.xs_sheet.specs.declared.body.Content.{size-Content}
use Rattle.xs_sheet.specs.declared.body.Instr.{size-Instr}
use Rattle.xs_sheet.specs.declared.body.When.{size-When}
use Rattle.xs_number_tables.proofs.declared.+counting.Given as goal

abbrev pub decreases-add_of_body : goal.decreases-add_of_body
decreases-add_of_body l = 3 * size-Body l.body.now

abbrev pub decreases-add_of_instrs : goal.decreases-add_of_instrs
decreases-add_of_instrs l = 3 * most size-Instr l.instrs.now + 2

abbrev pub decreases-add_of_instr : goal.decreases-add_of_instr
decreases-add_of_instr l = 3 * size-Instr l.instr.now

abbrev pub decreases-add_of_content : goal.decreases-add_of_content
decreases-add_of_content l = 3 * size-Content l.content.now

abbrev pub decreases-add_of_bindings : goal.decreases-add_of_bindings
decreases-add_of_bindings l = 3 * most size-Binding l.bindings.now + 2

abbrev pub decreases-add_of_choice : goal.decreases-add_of_choice
decreases-add_of_choice l = 3 * size-Choice l.choice.now

abbrev pub decreases-add_of_whens : goal.decreases-add_of_whens
decreases-add_of_whens l = 3 * most size-When l.whens.now + 2

abbrev pub decreases-add_of_bodies : goal.decreases-add_of_bodies
decreases-add_of_bodies l = 3 * most size-Body l.bodies.now + 2
