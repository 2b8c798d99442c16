use Rattle.xs_core.proofs.StepLemmas.{took-by}
use Rattle.xs_core.proofs.seat.Seat.take.Goals as goal

pub returns : goal.returns
returns c = record {
  taken = took-by c.args.self.now c.hold.new.self c.self.inside.hand c.self.inside.deque.items c.pop_back.new.self.items c.in-Some.place c.self.view_is
      c.if-is_some.ensures c.in-Some.ensures.items c.hold.ensures.held;
}
