use Rattle.std.proofs.Common.{ℕ, List, ap, refl, sym, ◌∙◌}
use Rattle.std.proofs.lemmas.Result.{err_from_is_err_and}
use Rattle.xs_eval_spec.proofs.StepLemmas.{continues, gives, goes_on}
use Rattle.xs_trace.specs.Play.{and_then}
use Rattle.xs_trace.specs.Run.{Run, give, ◌>>=◌}
use Rattle.xs_body_spec.specs.Numbers.{Formatting, Numbered, formatting_run, numbered_by, written}
use Rattle.xs_body.specs.declared.numbers.Formatting as code_formatting
use Rattle.xs_body.specs.declared.numbers.Numbered as code_numbered
use Rattle.xs_body.specs.steps.Frames.{chars_steps, last}
use Rattle.xs_body.specs.steps.Numbers.{formatting_of, numbered_of}
use Rattle.xs_body.proofs.NumberLemmas.{put-ends}
use Rattle.xs_body.proofs.evaluator.Evaluator.put_number.Goals as goal

pub returns-in_err-numbered-clause-reported : goal.returns-in_err-numbered-clause-reported
returns-in_err-numbered-clause-reported g c =
    let p = err_from_is_err_and c.from_residual.result c.from_residual.ensures.1 in
    let w = c.args.self.now.world in
    let d = c.args.decl.now in
    let f = c.args.scope.focus in
    let vs = last c.args.scope.seen c.args.self.now.slots in
    let next : Numbered → Run (List ℕ) = λ n. formatting_run w d f vs >>= (λ z. give (written n z)) in
    put-ends (λ (n : code_numbered.Numbered). numbered_of n) c.args.site (numbered_by w d.value d f vs) next _
    (g.R.Tally.state c.args.recorder.now) (g.R.Tally.state c.numbered.new.tally) c.from_residual.result _ _ refl p.1 p.2
    c.in_err-numbered.ensures.reported

pub returns-in_err-formatting-clause-reported : goal.returns-in_err-formatting-clause-reported
returns-in_err-formatting-clause-reported g c =
    let p = err_from_is_err_and c.from_residual-in_err-formatting.result c.from_residual-in_err-formatting.ensures.1 in
    let w = c.args.self.now.world in
    let d = c.args.decl.now in
    let f = c.args.scope.focus in
    let vs = last c.args.scope.seen c.args.self.now.slots in
    let n : Numbered = numbered_of c.in_ok-numbered.numbered in
    let next : Numbered → Run (List ℕ) = λ k. formatting_run w d f vs >>= (λ z. give (written k z)) in
    put-ends (λ (z : code_formatting.Formatting). formatting_of z) c.args.site (formatting_run w d f vs) (λ z. give (written n z)) _
    (g.R.Tally.state c.numbered.new.tally) (g.R.Tally.state c.formatting.new.tally) c.from_residual-in_err-formatting.result _ _
    (ap (λ j. and_then j (λ text m. chars_steps c.args.site text m))
    (goes_on c.args.site (numbered_by w d.value d f vs) next n (g.R.Tally.state c.args.recorder.now) (g.R.Tally.state c.numbered.new.tally)
    c.in_ok-numbered.ensures.reported)) p.1 p.2 c.in_err-formatting.ensures.reported

pub returns-clause-reported : goal.returns-clause-reported
returns-clause-reported g c =
    let w = c.args.self.now.world in
    let d = c.args.decl.now in
    let f = c.args.scope.focus in
    let vs = last c.args.scope.seen c.args.self.now.slots in
    let p = c.args.site in
    let n : Numbered = numbered_of c.in_ok-numbered.numbered in
    let z : Formatting = formatting_of c.in_ok-formatting.formatting in
    let m = g.R.Tally.state c.formatting.new.tally in
    let next : Numbered → Run (List ℕ) = λ k. formatting_run w d f vs >>= (λ q. give (written k q)) in
    continues (λ (u : Unit {0}). u) _ _ c.put_text.result (g.R.Tally.state c.put_text.new.recorder)
    (ap (λ j. and_then j (λ text i. chars_steps p text i))
    (goes_on p (numbered_by w d.value d f vs) next n (g.R.Tally.state c.args.recorder.now) (g.R.Tally.state c.numbered.new.tally)
    c.in_ok-numbered.ensures.reported
    ∙ goes_on p (formatting_run w d f vs) (λ q. give (written n q)) z (g.R.Tally.state c.numbered.new.tally) m c.in_ok-formatting.ensures.reported
    ∙ gives p (written n z) m)
    ∙ ap (λ (text : List ℕ). chars_steps p text m) (sym c.in_ok-text.ensures)) c.put_text.ensures.reported
