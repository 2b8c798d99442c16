use Rattle.xs_reply.specs.Items.{events_in}
use Rattle.xs_reply.proofs.TakenLemmas.{none_taken, one_taken}
use Rattle.xs_reply.proofs.items.add_segment.Goals as goal

pub returns-in_ok-add-in-Some-clause-taken : goal.returns-in_ok-add-in-Some-clause-taken
returns-in_ok-add-in-Some-clause-taken c =
    one_taken c.args.stream.now c.add.new.self c.args.lines.now.items
    c.add.new.out.items c.in-Some.event.now (events_in c.args.segment.now) (rw c.in-Some.is at c.event_of.ensures) c.in_ok-add-in-Some.ensures.taken

pub returns-in-None-clause-taken : goal.returns-in-None-clause-taken
returns-in-None-clause-taken c =
    none_taken c.args.stream.now c.args.lines.now.items (events_in c.args.segment.now)
    (rw c.in-None.is at c.event_of.ensures)
