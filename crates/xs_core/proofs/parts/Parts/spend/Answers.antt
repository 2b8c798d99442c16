use Rattle.std.proofs.Common.{◌<◌, ◌≤◌, ◌+◌, length, arith}
use Rattle.xs_core.specs.Facts.{facts_of}
use Rattle.xs_core.specs.Good.{total}
use Rattle.xs_core.specs.Machine.{State}
use Rattle.xs_core.specs.steps.Parts.{parts}
use Rattle.xs_core.specs.steps.Stepped.{spent}
use Rattle.xs_core.proofs.PartsLemmas.{total-no, total-yes}
use Rattle.xs_core.proofs.RoomLemmas.{room}
use Rattle.xs_core.proofs.parts.Parts.spend.Goals as goal

pub returns-then-not-spend : goal.returns-then-not-spend
returns-then-not-spend c =
    let v : State = parts c.self.inside.seats.items c.self.inside.finished.items c.self.inside.dropped.items c.self.inside.total in
    let inside : c.args.worker < length v.workers = omega (arith, c.self.inside.seats.ok.0, c.len.ensures, c.if-worker-len.false) in
    record {
      spent = total-no (λ x. spent (facts_of c.args.facts.now) c.args.ticks x.hand x.deque) c.args.self.now v c.args.worker c.args.ticks c.index_mut.result.now
          c.spend.new.self c.spend.result c.self.view_is inside c.index_mut.ensures.value c.if-not-spend.true c.spend.ensures.spent;
    }

pub overflow_add-self : goal.overflow_add-self
overflow_add-self c =
    let v : State = parts c.self.inside.seats.items c.self.inside.finished.items c.self.inside.dropped.items c.self.inside.total in
    let inside : c.args.worker < length v.workers = omega (arith, c.self.inside.seats.ok.0, c.len.ensures, c.if-worker-len.false) in
    let fits : v.total + c.args.ticks ≤ total (λ x. x.ticks) c.args.facts.now =
    room c.args.facts.now c.args.budget c.args.ticks c.args.worker c.args.self.now v c.index_mut.result.now c.spend.new.self c.spend.result c.requires.good
    c.self.view_is inside c.index_mut.ensures.value c.if-not-spend.false c.spend.ensures.spent in
    omega (arith, fits, c.requires.few)

pub returns : goal.returns
returns c =
    let v : State = parts c.self.inside.seats.items c.self.inside.finished.items c.self.inside.dropped.items c.self.inside.total in
    let inside : c.args.worker < length v.workers = omega (arith, c.self.inside.seats.ok.0, c.len.ensures, c.if-worker-len.false) in
    record {
      spent = total-yes (λ x. spent (facts_of c.args.facts.now) c.args.ticks x.hand x.deque) c.args.self.now v c.args.worker c.args.ticks c.index_mut.result.now
          c.spend.new.self c.spend.result c.self.view_is inside c.index_mut.ensures.value c.if-not-spend.false c.spend.ensures.spent;
    }
