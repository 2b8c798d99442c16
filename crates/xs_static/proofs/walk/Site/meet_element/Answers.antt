use Rattle.xs_elements.specs.Reading.{is_seen}
use Rattle.xs_static.proofs.MeetLemmas.{on_ok}
use Rattle.xs_static.proofs.FoundLemmas.{met-deep, met-seen, seen-of}
use Rattle.xs_static.specs.steps.Found.{deep_faults}
use Rattle.xs_static.proofs.walk.Site.meet_element.Goals as goal

pub returns : goal.returns
returns c =
    let m = c.args.self.now.number in
    let rs = c.args.self.now.tree.now in
    let lines = c.args.self.now.lines.now in
    let n = c.args.n in
    let l = c.args.least.now.fault in
    on_ok c.meet_seen.result _ _
    (λ h. met-seen m rs lines c.args.self.now.names.now n l c.meet_where.new.self.fault c.meet_seen.new.least.fault (deep_faults m rs lines n) (is_seen rs n)
    (seen-of rs n c.args.standing c.requires.standing c.if-not-standing.false)
    (met-deep m rs lines n c.line.result c.args.standing l c.meet_where.new.self.fault c.requires.standing c.line.ensures c.meet_where.ensures) h)
    c.meet_seen.ensures
