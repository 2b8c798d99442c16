use Rattle.std.proofs.Common.{◌≡◌, ◌<◌, ◌==◌, ◌∷◌, [], false, length, refl, rules, subst, sym, true}
use Rattle.xs_sheet.specs.declared.declarations.Template.{Template}
use Rattle.xs_body.specs.declared.frames.Scope.{Scope}
use Rattle.xs_body.specs.steps.Frames.{Evaluation, outer, params_first, pushed}
use Rattle.xs_body.proofs.ExitLemmas.{body-entered, params-entered}
use Rattle.xs_body.proofs.evaluator.Evaluator.enter_params.Goals as goal

pub returns-then-is_empty-clause-reported : goal.returns-then-is_empty-clause-reported
returns-then-is_empty-clause-reported g c =
    let template : Template = c.args.template.now in
    let none : (length template.params == 0) ≡ true = search rules in
    body-entered template.params c.args.passed template.body c.args.focus c.outer-scope.result c.args.self.now c.begin_body.new.self
    (g.R.Tally.state c.args.recorder.now) (g.R.Tally.state c.begin_body.new.recorder) c.begin_body.result none c.outer-scope.ensures
    c.begin_body.ensures.reported

pub returns-clause-reported : goal.returns-clause-reported
returns-clause-reported g c =
    let t : Evaluation = c.args.self.now in
    let template : Template = c.args.template.now in
    let some : (length template.params == 0) ≡ false = search rules in
    let same : c.begin_params.new.self ≡ pushed (params_first template.params c.args.passed template.body (outer c.args.focus) ∷ []) t = search rules in
    params-entered template.params c.args.passed template.body c.args.focus t c.begin_params.new.self (g.R.Tally.state c.args.recorder.now) some same

pub begin_body-requires-sync-K : goal.begin_body-requires-sync-K
begin_body-requires-sync-K g c κs within =
    let here = subst (λ (x : Scope). x.focus.node < length c.args.self.now.world.tree) (sym c.outer-scope.ensures) c.requires.node in
    (search rules, ((refl, tt), (c.requires.holes, here)))
