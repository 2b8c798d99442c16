use Rattle.std.proofs.Common.{List, [], ◌∷◌, ◌++◌, refl}
use Rattle.std.proofs.lemmas.Result.{err_from_is_err_and}
use Rattle.xs_trace.specs.declared.event.Event.{Event}
use Rattle.xs_trace.specs.declared.event.Event.TheVariants.{End}
use Rattle.xs_making.specs.Copies.{tag_events}
use Rattle.xs_making.specs.steps.Walk.{inside}
use Rattle.xs_making.proofs.PutLemmas.{events-after, events-end, events-go, events-then-end}
use Rattle.xs_making.proofs.copies.put_element.Goals as goal

pub returns-in_err-put_tag-clause-reported : goal.returns-in_err-put_tag-clause-reported
returns-in_err-put_tag-clause-reported g c =
    let p = err_from_is_err_and c.from_residual.result c.from_residual.ensures.1 in
    let tag : List Event = tag_events c.args.tree.now c.args.n in
    let held : List Event = inside c.args.tree.now c.args.n in
    events-end c.args.site (tag ++ (held ++ End ∷ [])) tag (held ++ End ∷ []) (g.R.Tally.state c.args.recorder.now)
    (g.R.Tally.state c.put_tag.new.recorder) c.from_residual.result _ _ refl p.1 p.2 c.in_err-put_tag.ensures.reported

pub returns-in_err-put_inside-clause-reported : goal.returns-in_err-put_inside-clause-reported
returns-in_err-put_inside-clause-reported g c =
    let p = err_from_is_err_and c.from_residual-in_err-put_inside.result c.from_residual-in_err-put_inside.ensures.1 in
    let tag : List Event = tag_events c.args.tree.now c.args.n in
    let held : List Event = inside c.args.tree.now c.args.n in
    let s = g.R.Tally.state c.args.recorder.now in
    let m = g.R.Tally.state c.put_tag.new.recorder in
    events-then-end c.args.site (tag ++ (held ++ End ∷ [])) (held ++ End ∷ []) held (End ∷ []) s m (g.R.Tally.state c.put_inside.new.recorder)
    c.from_residual-in_err-put_inside.result _ _
    (events-after c.args.site (tag ++ (held ++ End ∷ [])) tag (held ++ End ∷ []) s m refl c.in_ok-put_tag.ensures.reported) refl p.1 p.2
    c.in_err-put_inside.ensures.reported

pub returns-clause-reported : goal.returns-clause-reported
returns-clause-reported g c =
    let tag : List Event = tag_events c.args.tree.now c.args.n in
    let held : List Event = inside c.args.tree.now c.args.n in
    let s = g.R.Tally.state c.args.recorder.now in
    let m = g.R.Tally.state c.put_tag.new.recorder in
    let n = g.R.Tally.state c.put_inside.new.recorder in
    let r = g.R.Tally.state c.put_one.new.recorder in
    events-go c.args.site (tag ++ (held ++ End ∷ [])) tag (held ++ End ∷ []) s m r c.put_one.result refl c.in_ok-put_tag.ensures.reported
    (events-go c.args.site (held ++ End ∷ []) held (End ∷ []) m n r c.put_one.result refl c.in_ok-put_inside.ensures.reported c.put_one.ensures.reported)
