use Rattle.std.proofs.Common.{◌∙◌, ap, sym, subst}
use Rattle.xs_trace.specs.Kept.{marks_of, IsPacked}
use Rattle.xs_record.proofs.StoreLemmas.{marks-pending, packed-pending}
use Rattle.xs_record.proofs.marks.Marks.take.Goals as goal

pub returns-clause-items : goal.returns-clause-items
returns-clause-items g c =
    ap marks_of c.in_ok-taken.ensures.taken
    ∙ marks-pending (g.R.ItemLog.items c.self.inside.log) c.self.inside.at c.self.inside.run ∙ ap (λ s. s.store.reported) c.self.view_is

pub returns-clause-packed : goal.returns-clause-packed
returns-clause-packed g c =
    subst IsPacked
    (sym c.in_ok-taken.ensures.taken)
    (packed-pending (g.R.ItemLog.items c.self.inside.log) c.self.inside.at c.self.inside.run c.self.invariant)
