use Rattle.std.proofs.Common.{◌∙◌}
use Rattle.std.proofs.lemmas.Result.{IfOk-weaker}
use Rattle.xs_number_tables.proofs.CounterLemmas.{alike-list, alike-numbers, flagged-list, flagged-numbers}
use Rattle.xs_number_tables.proofs.counter.Counter.list.Goals as goal

pub marked_list-requires-clause-numbers : goal.marked_list-requires-clause-numbers
marked_list-requires-clause-numbers g c =
    flagged-numbers (g.K.KeyFinder.tables c.args.keys.now) c.args.tree.now c.args.decl.now c.args.self.now c.in-Some.counts c.as_slice-counts.result.now
    c.as_slice-from.result.now c.as_slice-numbers.result.now c.in-Some.is c.requires.counter c.as_slice-counts.ensures.value c.as_slice-from.ensures.value
    c.as_slice-numbers.ensures.value

pub returns-in-Some : goal.returns-in-Some
returns-in-Some g c =
    IfOk-weaker c.marked_list.result _ _
    (λ v e. e
    ∙ flagged-list (g.K.KeyFinder.tables c.args.keys.now) c.args.tree.now c.args.decl.now c.args.self.now c.in-Some.counts c.args.node
    c.as_slice-counts.result.now c.as_slice-from.result.now c.in-Some.is c.requires.counter c.requires.node c.as_slice-counts.ensures.value
    c.as_slice-from.ensures.value)
    c.marked_list.ensures

pub alike_list-requires-clause-numbers : goal.alike_list-requires-clause-numbers
alike_list-requires-clause-numbers g c =
    alike-numbers (g.K.KeyFinder.tables c.args.keys.now) c.args.tree.now c.args.decl.now c.args.self.now c.as_slice-from.result.now
    c.as_slice-numbers.result.now c.in-None.is c.requires.counter c.as_slice-from.ensures.value c.as_slice-numbers.ensures.value

pub returns-in-None : goal.returns-in-None
returns-in-None g c =
    IfOk-weaker c.alike_list.result _ _
    (λ v e. e
    ∙ alike-list (g.K.KeyFinder.tables c.args.keys.now) c.args.tree.now c.args.decl.now c.args.self.now c.args.node c.as_slice-from.result.now
    c.in-None.is c.requires.counter c.requires.node c.as_slice-from.ensures.value)
    c.alike_list.ensures
