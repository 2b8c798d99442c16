use Rattle.std.proofs.Common.{◌≡◌, ◌<◌, ◌∙◌, ap, length, arith, List}
use Rattle.xs_core.specs.declared.piece.Progress.{Progress}
use Rattle.xs_core.specs.Machine.{State}
use Rattle.xs_core.specs.steps.Parts.{parts}
use Rattle.xs_core.specs.steps.Stepped.{let_go}
use Rattle.xs_core.proofs.PartsLemmas.{dropped-seen, not-dropped-seen}
use Rattle.xs_core.proofs.parts.Parts.discard.Goals as goal

pub returns-in_default : goal.returns-in_default
returns-in_default c =
    let v : State = parts c.self.inside.seats.items c.self.inside.finished.items c.reserve.new.self.items c.self.inside.total in
    let inside : c.args.worker < length v.workers = omega (arith, c.self.inside.seats.ok.0, c.len.ensures, c.if-worker-len.false) in
    let over : c.args.budget < v.total = omega (arith, c.if-self-budget.false) in
    let same : v ≡ c.args.self.now =
    ap (λ (ds : List Progress). parts c.self.inside.seats.items c.self.inside.finished.items ds c.self.inside.total)
    c.reserve.ensures.items ∙ c.self.view_is in
    record {
      dropped = not-dropped-seen (λ x. let_go x.hand x.deque) c.args.budget c.args.self.now v c.args.worker c.index_mut.result.now c.let_go.new.self
          c.let_go.result same over inside c.index_mut.ensures.value c.in_default.is c.let_go.ensures.gone;
    }

pub returns : goal.returns
returns c =
    let v : State = parts c.self.inside.seats.items c.self.inside.finished.items c.reserve.new.self.items c.self.inside.total in
    let inside : c.args.worker < length v.workers = omega (arith, c.self.inside.seats.ok.0, c.len.ensures, c.if-worker-len.false) in
    let over : c.args.budget < v.total = omega (arith, c.if-self-budget.false) in
    let same : v ≡ c.args.self.now =
    ap (λ (ds : List Progress). parts c.self.inside.seats.items c.self.inside.finished.items ds c.self.inside.total)
    c.reserve.ensures.items ∙ c.self.view_is in
    record {
      dropped = dropped-seen (λ x. let_go x.hand x.deque) c.args.budget c.args.self.now v c.args.worker c.index_mut.result.now c.let_go.new.self c.let_go.result
          c.in-Some.piece c.push_reserved.new.self.items same over inside c.index_mut.ensures.value c.in-Some.is c.push_reserved.ensures.items
          c.let_go.ensures.gone;
    }
