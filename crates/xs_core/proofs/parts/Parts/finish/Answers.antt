use Rattle.std.proofs.Common.{◌≡◌, ◌<◌, ◌∙◌, ap, length, arith, List}
use Rattle.xs_core.specs.Facts.{facts_of}
use Rattle.xs_core.specs.Machine.{Place, State}
use Rattle.xs_core.specs.steps.Parts.{parts}
use Rattle.xs_core.specs.steps.Stepped.{done}
use Rattle.xs_core.proofs.PartsLemmas.{finished-seen, not-finished-seen}
use Rattle.xs_core.proofs.parts.Parts.finish.Goals as goal

pub returns-in_default : goal.returns-in_default
returns-in_default c =
    let v : State = parts c.self.inside.seats.items c.reserve.new.self.items c.self.inside.dropped.items c.self.inside.total in
    let inside : c.args.worker < length v.workers = omega (arith, c.self.inside.seats.ok.0, c.len.ensures, c.if-worker-len.false) in
    let same : v ≡ c.args.self.now =
    ap (λ (fs : List Place). parts c.self.inside.seats.items fs c.self.inside.dropped.items c.self.inside.total)
    c.reserve.ensures.items ∙ c.self.view_is in
    record {
      finished = not-finished-seen (done (facts_of c.args.facts.now)) c.args.self.now v c.args.worker c.index_mut.result.now c.finish.new.self
          c.finish.result same inside c.index_mut.ensures.value c.in_default.is c.finish.ensures.finished;
    }

pub returns : goal.returns
returns c =
    let v : State = parts c.self.inside.seats.items c.reserve.new.self.items c.self.inside.dropped.items c.self.inside.total in
    let inside : c.args.worker < length v.workers = omega (arith, c.self.inside.seats.ok.0, c.len.ensures, c.if-worker-len.false) in
    let same : v ≡ c.args.self.now =
    ap (λ (fs : List Place). parts c.self.inside.seats.items fs c.self.inside.dropped.items c.self.inside.total)
    c.reserve.ensures.items ∙ c.self.view_is in
    record {
      finished = finished-seen (done (facts_of c.args.facts.now)) c.args.self.now v c.args.worker c.index_mut.result.now c.finish.new.self c.finish.result
          c.in-Some.piece c.push_reserved.new.self.items same inside c.index_mut.ensures.value c.in-Some.is c.push_reserved.ensures.items
          c.finish.ensures.finished;
    }
