use Rattle.std.proofs.Common.{◌≡◌, ◌∷◌, Bool, cond, ap, ◌∙◌, rules}
use Rattle.std.proofs.lemmas.Result.{err_from_is_err_and}
use Rattle.xs_sheet.specs.declared.body.Body.{Body}
use Rattle.xs_sheet.specs.declared.body.Choice.{out-Choice}
use Rattle.xs_sheet.specs.declared.body.When.{out-When}
use Rattle.xs_trace.specs.Play.{and_then}
use Rattle.xs_trace.specs.Run.{Run, Gives, give, limited}
use Rattle.xs_trace.proofs.GrowthLemmas.{passes}
use Rattle.xs_trace.proofs.RunLemmas.{limited-bind, limited-end, limited-grows}
use Rattle.xs_body_spec.specs.World.{test_run}
use Rattle.xs_body.specs.steps.Frames.{chosen_of, last}
use Rattle.xs_body.proofs.evaluator.Evaluator.chosen.Goals as goal

pub returns-in_err-holds-clause-reported : goal.returns-in_err-holds-clause-reported
returns-in_err-holds-clause-reported g c =
    let p = err_from_is_err_and c.from_residual.result c.from_residual.ensures.1 in
    let e : c.loop-when.left.now ≡ (c.in-Some.when.now ∷ c.in-Some.behind.now) = search rules in
    let s = g.T.Tally.state c.loop-when.tally in
    let w = c.args.self.now.world in
    let f = c.args.scope.focus in
    let vs = last c.args.scope.seen c.args.self.now.slots in
    let other = (out-Choice c.args.choice.now).otherwise in
    let r = test_run w (out-When c.in-Some.when.now).test f vs in
    let k : Bool → Run Body = λ b. cond b (give (out-When c.in-Some.when.now).body)
    (chosen_of c.in-Some.behind.now other w f vs) in
    passes (λ b. b) (λ body. body.now) _ (limited c.args.site r s) (λ b m. limited c.args.site (k b) m) (g.T.Tally.state c.holds.new.tally)
    c.from_residual.result _ _
    (c.loop-when.invariant.0 ∙ ap (λ ts. limited c.args.site (chosen_of ts other w f vs) s) e ∙ limited-bind
    c.args.site r k s)
    (λ b. limited-grows c.args.site (k b)) p.1 p.2 c.in_err-holds.ensures.reported

pub loop-when-preserved : goal.loop-when-preserved
loop-when-preserved g c =
    let e : c.loop-when.left.now ≡ (c.in-Some.when.now ∷ c.in-Some.behind.now) = search rules in
    let s = g.T.Tally.state c.loop-when.tally in
    let w = c.args.self.now.world in
    let f = c.args.scope.focus in
    let vs = last c.args.scope.seen c.args.self.now.slots in
    let other = (out-Choice c.args.choice.now).otherwise in
    let r = test_run w (out-When c.in-Some.when.now).test f vs in
    let k : Bool → Run Body = λ b. cond b (give (out-When c.in-Some.when.now).body)
    (chosen_of c.in-Some.behind.now other w f vs) in (
      c.loop-when.invariant.0 ∙ ap (λ ts. limited c.args.site (chosen_of ts other w f vs) s) e ∙ limited-bind
          c.args.site r k s
          ∙ ap (λ j. and_then j (λ b m. limited c.args.site (k b) m)) c.in_ok-holds.ensures.reported ∙ ap
          (λ b. limited c.args.site (k b) (g.T.Tally.state c.holds.new.tally)) c.if-branch.false,
      c.holds.ensures.kept ∙ c.loop-when.invariant.1,
    )

pub returns-then-branch-clause-reported : goal.returns-then-branch-clause-reported
returns-then-branch-clause-reported g c =
    let e : c.loop-when.left.now ≡ (c.in-Some.when.now ∷ c.in-Some.behind.now) = search rules in
    let s = g.T.Tally.state c.loop-when.tally in
    let m = g.T.Tally.state c.holds.new.tally in
    let w = c.args.self.now.world in
    let f = c.args.scope.focus in
    let vs = last c.args.scope.seen c.args.self.now.slots in
    let other = (out-Choice c.args.choice.now).otherwise in
    let body = (out-When c.in-Some.when.now).body in
    let r = test_run w (out-When c.in-Some.when.now).test f vs in
    let k : Bool → Run Body = λ b. cond b (give body) (chosen_of c.in-Some.behind.now other w f vs) in
    c.loop-when.invariant.0
    ∙ ap (λ ts. limited c.args.site (chosen_of ts other w f vs) s) e
    ∙ limited-bind c.args.site r k s
    ∙ ap (λ j. and_then j (λ b n. limited c.args.site (k b) n)) c.in_ok-holds.ensures.reported
    ∙ ap (λ b. limited c.args.site (k b) m) c.if-branch.true
    ∙ limited-end c.args.site (Gives body) m
