use Rattle.std.proofs.Common.{List, [], ◌∷◌, ap, sym}
use Rattle.std.proofs.lemmas.Result.{err_from_is_err_and}
use Rattle.std.specs.List.{flat_map}
use Rattle.xs_trace.specs.declared.event.Event.{Event}
use Rattle.xs_trace.specs.declared.event.Event.TheVariants.{Start}
use Rattle.xs_tree.specs.Record.{at, namespaces}
use Rattle.xs_making.specs.Copies.{space_events, start_events}
use Rattle.xs_making.proofs.PutLemmas.{events-end, events-go}
use Rattle.xs_making.proofs.copies.put_start.Goals as goal

pub returns-in_err-put_one-clause-reported : goal.returns-in_err-put_one-clause-reported
returns-in_err-put_one-clause-reported g c =
    let p = err_from_is_err_and c.from_residual-in_err-put_one.result c.from_residual-in_err-put_one.ensures.1 in
    let rs = c.args.tree.now in
    let spaces : List Event = flat_map (λ k. space_events (at rs k)) (namespaces rs c.args.n) in
    events-end c.args.site (start_events rs c.args.n) (Start c.in_ok-name.name ∷ []) spaces (g.R.Tally.state c.args.recorder.now)
    (g.R.Tally.state c.put_one.new.recorder) c.from_residual-in_err-put_one.result _ _
    (ap (λ name. Start name ∷ spaces) (sym c.in_ok-name.ensures.label)) p.1 p.2 c.in_err-put_one.ensures.reported

pub returns-clause-reported : goal.returns-clause-reported
returns-clause-reported g c =
    let rs = c.args.tree.now in
    let spaces : List Event = flat_map (λ k. space_events (at rs k)) (namespaces rs c.args.n) in
    events-go c.args.site (start_events rs c.args.n) (Start c.in_ok-name.name ∷ []) spaces (g.R.Tally.state c.args.recorder.now)
    (g.R.Tally.state c.put_one.new.recorder) (g.R.Tally.state c.put_spaces.new.recorder) c.put_spaces.result
    (ap (λ name. Start name ∷ spaces) (sym c.in_ok-name.ensures.label)) c.in_ok-put_one.ensures.reported c.put_spaces.ensures.reported
