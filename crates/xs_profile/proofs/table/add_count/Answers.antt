use Rattle.std.proofs.Common.{◌∙◌, ◌+◌, List, ap, arith, subst, sym}
use Rattle.xs_trace.specs.declared.item.Site.{Site}
use Rattle.xs_profile.specs.declared.count.Count.{Count}
use Rattle.xs_profile.specs.steps.Table.{AreBefore, AreInOrder, ticks_of}
use Rattle.xs_profile.proofs.CountLemmas.{moved, next-line, push-before, push-order, push-ticks}
use Rattle.xs_profile.proofs.table.add_count.Goals as goal

pub returns-then-ticks-eq0-clause-before : goal.returns-then-ticks-eq0-clause-before
returns-then-ticks-eq0-clause-before c =
    let next : Site = record { «module» = c.args.site.«module»; line = c.args.site.line + 1 } in
    moved c.args.counts.now.items c.args.site next c.requires.before (next-line c.args.site)

pub returns-clause-in_order : goal.returns-clause-in_order
returns-clause-in_order c =
    let count : Count = record { site = c.args.site; ticks = c.args.ticks } in
    subst AreInOrder (sym c.in_ok-push.ensures.items)
    (push-order c.args.counts.now.items count c.requires.in_order c.requires.before (omega (arith, c.if-ticks-eq0.false)))

pub returns-clause-before : goal.returns-clause-before
returns-clause-before c =
    let count : Count = record { site = c.args.site; ticks = c.args.ticks } in
    let next : Site = record { «module» = c.args.site.«module»; line = c.args.site.line + 1 } in
    subst (λ (cs : List Count). AreBefore cs next) (sym c.in_ok-push.ensures.items)
    (push-before c.args.counts.now.items count next c.requires.before (next-line c.args.site))

pub returns-clause-each : goal.returns-clause-each
returns-clause-each c = λ s.
    let count : Count = record { site = c.args.site; ticks = c.args.ticks } in
    ap (λ (cs : List Count). ticks_of cs s) c.in_ok-push.ensures.items ∙ push-ticks c.args.counts.now.items count s c.requires.before
