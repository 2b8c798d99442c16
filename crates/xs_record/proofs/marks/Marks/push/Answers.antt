use Rattle.std.proofs.Common.{◌++◌, ap, subst, sym}
use Rattle.xs_trace.specs.Kept.{IsPacked}
use Rattle.xs_record.specs.Store.{pending}
use Rattle.xs_record.proofs.StoreLemmas.{takes-any, push-marked}
use Rattle.xs_record.proofs.marks.Marks.push.Goals as goal

pub invariant_of-self-2 : goal.invariant_of-self-2
invariant_of-self-2 g c =
    λ q. subst (λ js. IsPacked (js ++ pending q 1))
    (sym c.in_ok-push.ensures.items)
    (takes-any (g.R.ItemLog.items c.self.inside.log) c.self.inside.at c.self.inside.run c.args.item c.requires.single c.self.invariant q)

pub returns-clause-reported : goal.returns-clause-reported
returns-clause-reported g c =
    push-marked (g.R.ItemLog.items c.self.inside.log) _ _ c.self.inside.at c.self.inside.run c.args.item c.args.self.now.store
    (ap (λ v. v.store) c.self.view_is)
    c.in_ok-push.ensures.items
