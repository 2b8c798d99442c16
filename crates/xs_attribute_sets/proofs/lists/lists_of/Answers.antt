use Rattle.std.proofs.Common.{◌∷◌, ◌++◌, ◌∙◌, [], ap, arith, filter}
use Rattle.xs_attribute_sets.specs.Declarations.{has_name}
use Rattle.xs_attribute_sets.proofs.OrderLemmas.{all-listed, next-listed}
use Rattle.xs_attribute_sets.proofs.lists.lists_of.Goals as goal

pub loop-set-preserved : goal.loop-set-preserved
loop-set-preserved c = λ name.
    let s = c.set-item.result in
    c.in_ok-add.ensures name ∙ ap (λ xs. xs ++ filter (has_name name) (s.now ∷ [])) (c.loop-set.invariant name)
    ∙ next-listed (has_name name) c.args.sets.now c.loop-set.set-index s c.loop-set-test.true c.set-item.is

pub returns : goal.returns
returns c = λ name. c.loop-set.invariant name ∙ all-listed (has_name name) c.args.sets.now c.loop-set.set-index (omega arith)
