use Rattle.std.proofs.Common.{IfSome, Option, subst, sym}
use Rattle.xs_number_tables.specs.declared.counters.Counted.{Counted}
use Rattle.xs_number_tables.specs.steps.Counters.{IsCounter}
use Rattle.xs_number_tables.proofs.TableLemmas.{same-counter}
use Rattle.xs_number_tables.proofs.counters.Counters.counter_of.Goals as goal

pub returns : goal.returns
returns c = λ keys rs counters.
    same-counter keys rs c.in_ok-counted.counted.now.decl.now c.args.decl.now c.in_ok-counted.counted.now.counter
    (c.is_same_counting.ensures c.if-not-is_same_counting.false)
    (subst (λ (o : Option Counted). IfSome o (λ k. IsCounter keys rs k.decl.now k.counter)) (sym c.in_ok-counted.ensures.value)
    (counters c.args.site.«module» c.args.site.line))
