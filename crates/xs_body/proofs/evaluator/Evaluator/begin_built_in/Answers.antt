use Rattle.std.proofs.Common.{◌≡◌, ◌||◌, true, false, refl, rules}
use Rattle.xs_tree.specs.Kinds.{has_content, is_attribute_kind, is_text_kind}
use Rattle.xs_tree.specs.Record.{Record, at}
use Rattle.xs_body.specs.steps.Frames.{Evaluation}
use Rattle.xs_body.proofs.ExitLemmas.{text-reported}
use Rattle.xs_body.proofs.evaluator.Evaluator.begin_built_in.Goals as goal

pub returns-in-Text-clause-reported : goal.returns-in-Text-clause-reported
returns-in-Text-clause-reported g c =
    let t : Evaluation = c.args.self.now in
    let r : Record = at t.world.tree c.args.focus.node in
    let a : has_content r.kind ≡ false = search rules in
    let b : (is_text_kind r.kind || is_attribute_kind r.kind) ≡ true = search rules in
    text-reported c.args.mode c.args.site c.args.focus r t t (g.R.Tally.state c.args.recorder.now) (g.R.Tally.state c.put_own_text.new.recorder)
    c.put_own_text.result a b refl c.put_own_text.ensures.reported
