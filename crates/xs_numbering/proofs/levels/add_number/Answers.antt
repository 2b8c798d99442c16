use Rattle.std.proofs.Common.{◌≡◌, ◌<◌, true, cond, [], ◌∷◌, ◌++◌, map, sym, subst, ap, ◌∙◌}
use Rattle.xs_numbering.specs.Counting.{sibling_number}
use Rattle.xs_numbering.specs.Passes.{is_flagged}
use Rattle.xs_numbering.proofs.LevelLemmas.{number-in, table-long}
use Rattle.xs_numbering.proofs.levels.add_number.Goals as goal

pub number_at-requires : goal.number_at-requires
number_at-requires c =
    let f = sibling_number (is_flagged c.args.counts.now) c.args.tree.now in
    subst (λ k. c.args.node < k) (sym (table-long f c.args.numbers.now c.args.tree.now c.requires.numbers)) c.requires.node

pub returns-in_ok-push : goal.returns-in_ok-push
returns-in_ok-push c =
    let f = sibling_number (is_flagged c.args.counts.now) c.args.tree.now in
    let flagged : is_flagged c.args.counts.now c.args.node ≡ true = sym c.is_flagged.ensures ∙ c.if-is_flagged.true in
    c.in_ok-push.ensures.items
    ∙ ap (λ y. c.args.out.now.items ++ y ∷ [])
    (c.number_at.ensures ∙ number-in f c.args.numbers.now c.args.tree.now c.args.node c.requires.numbers c.requires.node)
    ∙ ap (λ t. c.args.out.now.items ++ map f (cond t (c.args.node ∷ []) [])) (sym flagged)
