use Rattle.std.proofs.Common.{ap, subst, sym}
use Rattle.xs_record.specs.Store.{TakesRun}
use Rattle.xs_record.proofs.StoreLemmas.{takes-sum, takes-next, count-same, count-other, same-site, other-site}
use Rattle.xs_record.proofs.marks.Marks.count.Goals as goal

pub invariant_of-self : goal.invariant_of-self
invariant_of-self g c =
    takes-sum (g.R.ItemLog.items c.self.inside.log) c.self.inside.at c.self.inside.run c.args.count c.in-Some.sum c.if-count-eq0.false c.in-Some.ensures.1
    c.self.invariant

pub returns-then-eq-clause-reported : goal.returns-then-eq-clause-reported
returns-then-eq-clause-reported g c =
    count-same (g.R.ItemLog.items c.self.inside.log) _ c.args.site c.self.inside.at c.self.inside.run c.args.count c.in-Some.sum c.args.self.now.store
    (ap (λ v. v.store) c.self.view_is) c.if-count-eq0.false
    (same-site c.args.site c.self.inside.at c.if-eq.ensures) c.in-Some.ensures.1

pub invariant_of-self-2 : goal.invariant_of-self-2
invariant_of-self-2 g c =
    subst (λ js. TakesRun js c.args.site c.args.count)
    (sym c.in_ok-push_run.ensures.items)
    (takes-next (g.R.ItemLog.items c.self.inside.log) c.self.inside.at c.args.site c.self.inside.run c.args.count
    (other-site c.args.site c.self.inside.at c.if-eq.ensures) c.if-count-eq0.false c.self.invariant)

pub returns-clause-reported : goal.returns-clause-reported
returns-clause-reported g c =
    count-other (g.R.ItemLog.items c.self.inside.log) _ _ c.args.site c.self.inside.at c.self.inside.run c.args.count c.args.self.now.store
    (ap (λ v. v.store) c.self.view_is) c.if-count-eq0.false
    c.in_ok-push_run.ensures.items
