use Rattle.std.proofs.Common.{ap, refl}
use Rattle.std.specs.Cow.{cow_str_bytes}
use Rattle.std.specs.declared.alloc.Global.{Global}
use Rattle.std.proofs.lemmas.Result.{err_from_is_err_and}
use Rattle.xs_trace.specs.Play.{and_then}
use Rattle.xs_trace.proofs.GrowthLemmas.{grows-then, passes}
use Rattle.xs_making.specs.Names.{result_name}
use Rattle.xs_body.specs.steps.Frames.{last}
use Rattle.xs_body.specs.steps.Making.{namespace_steps, outcome_steps}
use Rattle.xs_body.proofs.MakingLemmas.{namespace-grows, outcome-grows}
use Rattle.xs_body.proofs.evaluator.Evaluator.made_name.Goals as goal

pub returns-in_err-text-clause-reported : goal.returns-in_err-text-clause-reported
returns-in_err-text-clause-reported g c =
    let p = err_from_is_err_and c.from_residual.result c.from_residual.ensures.1 in
    let w = c.args.self.now.world in
    let f = c.args.scope.focus in
    let vs = last c.args.scope.seen c.args.self.now.slots in
    let name = c.args.name.now in
    let site = c.args.site in
    let b = c.args.is_attribute in
    passes (λ t. cow_str_bytes {Z = Global} t) (λ x. x) _ _
    (λ text m. and_then (namespace_steps w site f vs name.namespace m) (λ uri n. outcome_steps site (result_name name.scope b uri text) n))
    (g.R.Tally.state c.lend_template.new.tally) c.from_residual.result _ _ refl
    (λ text m. grows-then m (namespace_steps w site f vs name.namespace m) (λ uri n. outcome_steps site (result_name name.scope b uri text) n)
    (namespace-grows w site f vs name.namespace m) (λ uri. outcome-grows site (result_name name.scope b uri text))) p.1 p.2 c.in_err-text.ensures.reported

pub returns-in_err-uri-clause-reported : goal.returns-in_err-uri-clause-reported
returns-in_err-uri-clause-reported g c =
    let p = err_from_is_err_and c.from_residual-in_err-uri.result c.from_residual-in_err-uri.ensures.1 in
    let w = c.args.self.now.world in
    let f = c.args.scope.focus in
    let vs = last c.args.scope.seen c.args.self.now.slots in
    let name = c.args.name.now in
    let site = c.args.site in
    let b = c.args.is_attribute in
    let text = cow_str_bytes c.in_ok-text.text in
    passes (λ x. x) (λ x. x) _ (namespace_steps w site f vs name.namespace (g.R.Tally.state c.lend_template.new.tally))
    (λ uri n. outcome_steps site (result_name name.scope b uri text) n) (g.R.Tally.state c.namespace.new.recorder)
    c.from_residual-in_err-uri.result _ _
    (ap (λ h. and_then h (λ t m. and_then (namespace_steps w site f vs name.namespace m) (λ uri n. outcome_steps site (result_name name.scope b uri t) n)))
    c.in_ok-text.ensures.reported)
    (λ uri. outcome-grows site (result_name name.scope b uri text)) p.1 p.2 c.in_err-uri.ensures.reported
