use Rattle.std.proofs.Common.{◌<◌, length, arith}
use Rattle.xs_core.specs.Machine.{State}
use Rattle.xs_core.specs.steps.Parts.{parts}
use Rattle.xs_core.specs.steps.Stepped.{took}
use Rattle.xs_core.proofs.PartsLemmas.{put-seen}
use Rattle.xs_core.proofs.parts.Parts.take.Goals as goal

pub returns : goal.returns
returns c =
    let v : State = parts c.self.inside.seats.items c.self.inside.finished.items c.self.inside.dropped.items c.self.inside.total in
    let inside : c.args.worker < length v.workers = omega (arith, c.self.inside.seats.ok.0, c.len.ensures, c.if-worker-len.false) in
    record {
      taken = put-seen (λ x. took x.hand x.deque) c.args.self.now v c.args.worker c.index_mut.result.now c.take.new.self c.take.result c.self.view_is inside
          c.index_mut.ensures.value c.take.ensures.taken;
    }
