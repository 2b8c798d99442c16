use Rattle.std.proofs.Common.{◌<◌, length, arith}
use Rattle.xs_core.specs.Facts.{facts_of}
use Rattle.xs_core.specs.Machine.{State}
use Rattle.xs_core.specs.steps.Parts.{parts}
use Rattle.xs_core.specs.steps.Stepped.{gave}
use Rattle.xs_core.proofs.PartsLemmas.{puts-seen}
use Rattle.xs_core.proofs.parts.Parts.give.Goals as goal

pub returns : goal.returns
returns c =
    let v : State = parts c.self.inside.seats.items c.self.inside.finished.items c.self.inside.dropped.items c.self.inside.total in
    let inside : c.args.worker < length v.workers = omega (arith, c.self.inside.seats.ok.0, c.len.ensures, c.if-worker-len.false) in
    record {
      given = puts-seen (λ x. gave (facts_of c.args.facts.now) x.hand x.deque) c.args.self.now v c.args.worker c.index_mut.result.now
          c.give.new.self c.give.result c.self.view_is inside c.index_mut.ensures.value c.give.ensures.given;
    }
