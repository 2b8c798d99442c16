use Rattle.xs_trace.specs.declared.item.Site.{Site}
use Rattle.xs_profile.proofs.CountLemmas.{moved, next-module}
use Rattle.xs_profile.proofs.table.add_counts.Goals as goal

pub returns-clause-before : goal.returns-clause-before
returns-clause-before c = λ n h.
    let at : Site = record { «module» = c.args.number; line = c.loop-ticks.line } in
    let later : Site = record { «module» = n; line = 0 } in
    moved c.loop-ticks.counts.items at later c.loop-ticks.invariant.before (next-module c.args.number c.loop-ticks.line n h)
