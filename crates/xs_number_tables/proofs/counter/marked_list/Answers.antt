use Rattle.std.proofs.Common.{◌∙◌}
use Rattle.std.proofs.lemmas.Result.{IfOk-weaker}
use Rattle.xs_number_tables.proofs.CounterLemmas.{any-list, any-within}
use Rattle.xs_number_tables.proofs.counter.marked_list.Goals as goal

pub alone-requires : goal.alone-requires
alone-requires c =
    any-within c.args.level c.args.counts.now c.args.from.now c.args.tree.now c.args.numbers.now c.args.node c.in-Any.is c.requires.numbers c.requires.node

pub returns-in-Any : goal.returns-in-Any
returns-in-Any c =
    IfOk-weaker c.alone.result _ _
    (λ v e. e
    ∙ any-list c.args.level c.args.counts.now c.args.from.now c.args.tree.now c.args.numbers.now c.args.node c.in-Any.is c.requires.numbers c.requires.node)
    c.alone.ensures
