use Rattle.std.proofs.Common.{◌∙◌, ◌++◌, ◌∷◌, [], arith, ap, sym}
use Rattle.xs_tree.specs.Record.{string_value}
use Rattle.xs_keys.specs.steps.Pairs.{pairs_in}
use Rattle.xs_keys.proofs.RunLemmas.{texts-next}
use Rattle.xs_keys.proofs.pairs.add_nodes.Goals as goal

pub loop-other-preserved : goal.loop-other-preserved
loop-other-preserved c =
    let rs = c.args.tree.now in
    let l = c.loop-other in
    texts-next (string_value rs) c.args.node c.args.nodes.now l.other-index c.other-item.result (pairs_in c.args.pairs.now.items)
    (pairs_in l.pairs.items) (pairs_in c.add_text.new.pairs.items) (omega arith) (sym c.other-item.is) l.invariant
    (c.in_ok-add_text.ensures ∙ ap (λ t. pairs_in l.pairs.items ++ (t, c.args.node) ∷ []) c.in_ok-text.ensures.text)
