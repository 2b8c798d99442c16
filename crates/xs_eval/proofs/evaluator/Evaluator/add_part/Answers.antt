use Rattle.std.proofs.Common.{◌≡◌, ◌∙◌, ◌++◌, ap, sym}
use Rattle.std.proofs.lemmas.Result.{err_from_is_err_and}
use Rattle.std.specs.String.{string_bytes}
use Rattle.xs_trace.specs.Play.{Goes}
use Rattle.xs_trace.specs.Run.{give, limited}
use Rattle.xs_value.specs.Conversion.{text_value}
use Rattle.xs_xpath.specs.AvtParts.{part_from}
use Rattle.xs_eval_spec.specs.Context.{Context}
use Rattle.xs_eval_spec.specs.Evaluation.{run_of}
use Rattle.xs_eval_spec.specs.Templates.{and_part}
use Rattle.xs_eval_spec.proofs.StepLemmas.{exits, gives, goes_on}
use Rattle.xs_eval.proofs.evaluator.Evaluator.add_part.Goals as goal

pub returns-in_err-v-in-Computed-clause-reported : goal.returns-in_err-v-in-Computed-clause-reported
returns-in_err-v-in-Computed-clause-reported g c =
    let r = c.from_residual-in_err-v-in-Computed in
    let p = err_from_is_err_and r.result r.ensures.1 in
    let keys = g.K.KeyFinder.tables c.args.self.now.keys.now in
    let around = c.args.context.now in
    let text = string_bytes c.args.text in
    let s = g.T.Tally.state c.args.tally.now in
    exits (λ v. v) (λ t. string_bytes t) c.args.self.now.site (run_of keys c.in-Computed.expr around) (λ v. give (text ++ text_value around.tree v))
    (limited c.args.self.now.site (and_part keys around text (part_from c.args.part.now)) s) s
    (g.T.Tally.state c.evaluate.new.tally) r.result _ _
    (ap (λ part. limited c.args.self.now.site (and_part keys around text (part_from part)) s) c.in-Computed.is) p.1 p.2
    c.in_err-v-in-Computed.ensures.reported

pub returns-in_ok-with_text-in-Computed-clause-reported : goal.returns-in_ok-with_text-in-Computed-clause-reported
returns-in_ok-with_text-in-Computed-clause-reported g c =
    let keys = g.K.KeyFinder.tables c.args.self.now.keys.now in
    let around = c.args.context.now in
    let text = string_bytes c.args.text in
    let s = g.T.Tally.state c.args.tally.now in
    let m = g.T.Tally.state c.evaluate.new.tally in
    let v = c.in_ok-v-in-Computed.v in
    let more : c.as_str-in-Computed.result.now ≡ text_value around.tree v =
    c.as_str-in-Computed.ensures.value ∙ c.in_ok-more-in-Computed.ensures.text ∙ ap (λ (a : Context). text_value a.tree v) c.context.view_is in
    let all : string_bytes c.in_ok-with_text-in-Computed.field-0 ≡ text ++ text_value around.tree v =
    c.in_ok-with_text-in-Computed.ensures.text ∙ ap (λ b. text ++ b) more in
    ap (λ part. limited c.args.self.now.site (and_part keys around text (part_from part)) s) c.in-Computed.is
    ∙ goes_on c.args.self.now.site (run_of keys c.in-Computed.expr around) (λ w. give (text ++ text_value around.tree w)) v s m
    c.in_ok-v-in-Computed.ensures.reported
    ∙ gives c.args.self.now.site (text ++ text_value around.tree v) m ∙ ap (λ b. Goes b m) (sym all)
