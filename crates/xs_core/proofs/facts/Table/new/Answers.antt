use Rattle.std.proofs.Common.{◌∙◌, List, ap, rules, subst, sym}
use Rattle.std.proofs.lemmas.List.Sorted.{answers_always}
use Rattle.xs_core.specs.declared.piece.PieceFacts.{PieceFacts}
use Rattle.xs_core.specs.Facts.{AreFew, find_facts}
use Rattle.xs_core.specs.steps.Table.{is_before}
use Rattle.xs_core.proofs.TableLemmas.{few-sorted, same-facts, weak}
use Rattle.xs_core.proofs.facts.Table.new.Goals as goal

pub invariant_of-result : goal.invariant_of-result
invariant_of-result c = c.in_ok-sort_by.ensures.sorted is_before weak (answers_always _ _ _ (λ f a r g h. search rules))

pub returns-clause-few : goal.returns-clause-few
returns-clause-few c = λ few.
    few-sorted c.in_ok-pieces.pieces.items c.sort_by.new.self.items c.in_ok-sort_by.ensures.permutation
    (subst (λ (xs : List PieceFacts). AreFew xs) (sym c.in_ok-pieces.ensures.facts) few)

pub returns-clause-facts : goal.returns-clause-facts
returns-clause-facts c = λ p.
    same-facts c.in_ok-pieces.pieces.items c.sort_by.new.self.items
    (c.in_ok-sort_by.ensures.stable is_before weak (answers_always _ _ _ (λ f a r g h. search rules))) p
    ∙ ap (λ xs. find_facts xs p) c.in_ok-pieces.ensures.facts
