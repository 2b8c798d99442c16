use Rattle.std.proofs.Common.{refl}
use Rattle.std.proofs.lemmas.Result.{err_from_is_err_and}
use Rattle.std.specs.List.{flat_map}
use Rattle.xs_tree.specs.Record.{at, attributes}
use Rattle.xs_making.specs.Copies.{attribute_events, start_events, tag_events}
use Rattle.xs_making.proofs.PutLemmas.{events-end, events-go}
use Rattle.xs_making.proofs.copies.put_tag.Goals as goal

pub returns-in_err-put_start-clause-reported : goal.returns-in_err-put_start-clause-reported
returns-in_err-put_start-clause-reported g c =
    let p = err_from_is_err_and c.from_residual.result c.from_residual.ensures.1 in
    let rs = c.args.tree.now in
    events-end c.args.site (tag_events rs c.args.n) (start_events rs c.args.n) (flat_map (λ k. attribute_events (at rs k)) (attributes rs c.args.n))
    (g.R.Tally.state c.args.recorder.now) (g.R.Tally.state c.put_start.new.recorder) c.from_residual.result _ _ refl p.1 p.2
    c.in_err-put_start.ensures.reported

pub returns-clause-reported : goal.returns-clause-reported
returns-clause-reported g c =
    let rs = c.args.tree.now in
    events-go c.args.site (tag_events rs c.args.n) (start_events rs c.args.n) (flat_map (λ k. attribute_events (at rs k)) (attributes rs c.args.n))
    (g.R.Tally.state c.args.recorder.now) (g.R.Tally.state c.put_start.new.recorder) (g.R.Tally.state c.put_attributes.new.recorder)
    c.put_attributes.result refl c.in_ok-put_start.ensures.reported c.put_attributes.ensures.reported
