use Rattle.xs_body.proofs.GlobalLemmas.{fragment-binding, selected-binding}
use Rattle.xs_body.proofs.attempts.report_binding.Goals as goal

pub returns-in-Select-clause-reported : goal.returns-in-Select-clause-reported
returns-in-Select-clause-reported g c =
    selected-binding c.args.world.now c.args.binding.now c.in-Select.expr (g.R.Tally.state c.args.recorder.now) (g.R.Tally.state c.report_selected.new.recorder)
    c.report_selected.result c.in-Select.is c.report_selected.ensures.reported

pub returns-in-Body-clause-reported : goal.returns-in-Body-clause-reported
returns-in-Body-clause-reported g c =
    fragment-binding c.args.world.now c.args.binding.now c.in-Body.body (g.R.Tally.state c.args.recorder.now) (g.R.Tally.state c.report_content.new.recorder)
    c.report_content.result c.in-Body.is c.report_content.ensures.reported
