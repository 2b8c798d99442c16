use Rattle.std.proofs.Common.{◌≡◌, ◌∙◌, List, ℕ, None, Option, Some, ap, sym, subst}
use Rattle.std.specs.Prelude.{option_map}
use Rattle.xs_sheet.specs.declared.scoped.ScopedExpr.{ScopedExpr}
use Rattle.xs_trace.specs.Play.{IsStepBy}
use Rattle.xs_body.specs.steps.Frames.{lone_by}
use Rattle.xs_body.specs.steps.Making.{fixed_text, selected}
use Rattle.xs_body.proofs.evaluator.Evaluator.text_alone.Goals as goal

pub returns-in-Some-clause-reported : goal.returns-in-Some-clause-reported
returns-in-Some-clause-reported g c =
    let i = c.args.instr.now in
    let s = g.R.Tally.state c.args.recorder.now in
    let e : Some c.in-Some.text.now ≡ fixed_text i.kind = sym (ap (λ o. option_map (λ t. t.now) o) c.in-Some.is) ∙ c.fixed_text.ensures in
    subst (λ (o : Option (List ℕ)). IsStepBy {A = Option (List ℕ)} {B = Option (List ℕ)} (λ x. x)
    (lone_by o (selected i.kind) i.site c.args.scope c.args.self.now s) c.fixed_alone.result (g.R.Tally.state c.fixed_alone.new.recorder)) e
    c.fixed_alone.ensures.reported

pub returns-in-None-clause-reported : goal.returns-in-None-clause-reported
returns-in-None-clause-reported g c =
    let i = c.args.instr.now in
    let s = g.R.Tally.state c.args.recorder.now in
    let e : None ≡ fixed_text i.kind = sym (ap (λ o. option_map (λ t. t.now) o) c.in-None.is) ∙ c.fixed_text.ensures in
    subst (λ (o : Option (List ℕ)). IsStepBy {A = Option (List ℕ)} {B = Option (List ℕ)} (λ x. x)
    (lone_by o (selected i.kind) i.site c.args.scope c.args.self.now s) c.string_alone.result (g.R.Tally.state c.string_alone.new.recorder)) e
    (subst (λ (o : Option ScopedExpr). IsStepBy {A = Option (List ℕ)} {B = Option (List ℕ)} (λ x. x)
    (lone_by None o i.site c.args.scope c.args.self.now s) c.string_alone.result (g.R.Tally.state c.string_alone.new.recorder)) c.selected.ensures
    c.string_alone.ensures.reported)
