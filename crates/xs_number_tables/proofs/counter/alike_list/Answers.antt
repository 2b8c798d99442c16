use Rattle.std.proofs.Common.{◌∙◌}
use Rattle.std.proofs.lemmas.Result.{IfOk-weaker}
use Rattle.xs_number_tables.proofs.CounterLemmas.{alike-any, alike-single, alike-within}
use Rattle.xs_number_tables.proofs.counter.alike_list.Goals as goal

pub alone-requires : goal.alone-requires
alone-requires c =
    alike-within c.args.level c.args.from.now c.args.tree.now c.args.numbers.now c.args.node c.requires.numbers c.requires.node

pub returns-in-Single : goal.returns-in-Single
returns-in-Single c =
    IfOk-weaker c.alone.result _ _
    (λ v e. e
    ∙ alike-single c.args.level c.args.from.now c.args.tree.now c.args.numbers.now c.args.node c.in-Single.is c.requires.numbers c.requires.node)
    c.alone.ensures

pub alone-requires-in-Any : goal.alone-requires-in-Any
alone-requires-in-Any c =
    alike-within c.args.level c.args.from.now c.args.tree.now c.args.numbers.now c.args.node c.requires.numbers c.requires.node

pub returns-in-Any : goal.returns-in-Any
returns-in-Any c =
    IfOk-weaker c.alone-in-Any.result _ _
    (λ v e. e
    ∙ alike-any c.args.level c.args.from.now c.args.tree.now c.args.numbers.now c.args.node c.in-Any.is c.requires.numbers c.requires.node)
    c.alone-in-Any.ensures
