use Rattle.std.proofs.Common.{◌≡◌, ◌<◌, true, cond, [], ◌∷◌, ◌++◌, map, sym, subst, ap, ◌∙◌}
use Rattle.xs_pattern_spec.specs.Counted.{alike_number}
use Rattle.xs_number_tables.specs.steps.Counters.{alike_to}
use Rattle.xs_numbering.specs.Counting.{sibling_number}
use Rattle.xs_numbering.proofs.LevelLemmas.{number-in, table-long}
use Rattle.xs_number_tables.proofs.CounterLemmas.{alike-same}
use Rattle.xs_number_tables.proofs.counter.add_alike.Goals as goal

pub number_at-requires : goal.number_at-requires
number_at-requires c =
    subst (λ k. c.args.node < k) (sym (table-long (alike_number c.args.tree.now) c.args.numbers.now c.args.tree.now c.requires.numbers)) c.requires.node

pub returns-in_ok-push : goal.returns-in_ok-push
returns-in_ok-push c =
    let rs = c.args.tree.now in
    let f = sibling_number (alike_to rs c.args.like) rs in
    let alike : alike_to rs c.args.like c.args.node ≡ true = sym c.is_alike.ensures ∙ c.if-is_alike.true in
    c.in_ok-push.ensures.items
    ∙ ap (λ y. c.args.out.now.items ++ y ∷ [])
    (c.number_at.ensures ∙ number-in (alike_number rs) c.args.numbers.now rs c.args.node c.requires.numbers c.requires.node
    ∙ alike-same rs c.args.node c.args.like alike)
    ∙ ap (λ t. c.args.out.now.items ++ map f (cond t (c.args.node ∷ []) [])) (sym alike)
