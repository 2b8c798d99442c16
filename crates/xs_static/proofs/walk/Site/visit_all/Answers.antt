use Rattle.std.proofs.Common.{◌∙◌, ◌+◌, ℕ, ap, subst}
use Rattle.xs_static.proofs.FoundLemmas.{met-more, met-none, no-locals}
use Rattle.xs_static.specs.steps.Found.{node_faults}
use Rattle.xs_static.specs.steps.Least.{least_of}
use Rattle.xs_static.specs.steps.Locals.{AreLocals}
use Rattle.xs_static.proofs.walk.Site.visit_all.Goals as goal

pub loop-place-init : goal.loop-place-init
loop-place-init c =
    let s = c.args.self.now in
    record {
      locals = no-locals s.tree.now c.new-locals.result c.new-locals.ensures.bound c.new-locals.ensures.none;
      faults = met-none s.number s.tree.now s.lines.now s.names.now c.args.least.now.fault;
    }

pub loop-place-preserved : goal.loop-place-preserved
loop-place-preserved c =
    let s = c.args.self.now in
    let rs = s.tree.now in
    let x = c.loop-place.least.fault in
    record {
      locals = subst (λ (k : ℕ). AreLocals rs (k + 1) c.visit.new.locals) c.at.ensures c.in_ok-visit.ensures.locals;
      faults = met-more s.number rs s.lines.now s.names.now c.loop-place.place c.args.least.now.fault x c.visit.new.least.fault
          c.loop-place.invariant.faults
          (c.in_ok-visit.ensures.faults ∙ ap (λ (k : ℕ). least_of x (node_faults s.number rs s.lines.now s.names.now k)) c.at.ensures);
    }
