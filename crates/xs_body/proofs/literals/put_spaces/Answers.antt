use Rattle.std.proofs.Common.{◌≡◌, ◌∷◌, ap, ◌∙◌, rules}
use Rattle.std.proofs.lemmas.Result.{err_from_is_err_and}
use Rattle.xs_trace.proofs.GrowthLemmas.{passes}
use Rattle.xs_body_spec.specs.Making.{aliased}
use Rattle.xs_body.specs.steps.Making.{space_steps, spaces_steps}
use Rattle.xs_body.proofs.MakingLemmas.{spaces-grow}
use Rattle.xs_body.proofs.literals.put_spaces.Goals as goal

pub returns-in_err-put_space-clause-reported : goal.returns-in_err-put_space-clause-reported
returns-in_err-put_space-clause-reported g c =
    let p = err_from_is_err_and c.from_residual.result c.from_residual.ensures.1 in
    let e : c.loop-space.left.now ≡ (c.in-Some.space.now ∷ c.in-Some.behind.now) = search rules in
    let s = g.R.Tally.state c.loop-space.recorder in
    let ls = c.args.aliases.now in
    passes (λ x. x) (λ x. x) _ (space_steps c.args.site c.in-Some.space.now.0 (aliased ls c.in-Some.space.now.1) s)
    (λ u m. spaces_steps ls c.args.site c.in-Some.behind.now m) (g.R.Tally.state c.put_space.new.recorder) c.from_residual.result _ _
    (c.loop-space.invariant.0 ∙ ap (λ xs. spaces_steps ls c.args.site xs s) e) (λ u. spaces-grow ls c.args.site c.in-Some.behind.now) p.1 p.2
    c.in_err-put_space.ensures.reported
