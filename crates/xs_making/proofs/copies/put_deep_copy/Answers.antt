use Rattle.std.proofs.Common.{◌∙◌, subst, sym}
use Rattle.xs_tree.specs.Record.{at}
use Rattle.xs_making.specs.Putting.{Puts}
use Rattle.xs_making.proofs.CopyLemmas.{copy-element, copy-leaf, copy-root, leaf-other}
use Rattle.xs_making.proofs.copies.put_deep_copy.Goals as goal

pub returns-in-Root-clause-reported : goal.returns-in-Root-clause-reported
returns-in-Root-clause-reported g c =
    subst (λ xs. Puts c.args.site xs (g.R.Tally.state c.args.recorder.now) c.put_inside.result (g.R.Tally.state c.put_inside.new.recorder))
    (sym (copy-root c.args.tree.now c.args.node c.len-count.ensures.tree c.requires (sym c.kind.ensures.kind ∙ c.in-Root.is)))
    c.put_inside.ensures.reported

pub returns-in-Element-clause-reported : goal.returns-in-Element-clause-reported
returns-in-Element-clause-reported g c =
    subst (λ xs. Puts c.args.site xs (g.R.Tally.state c.args.recorder.now) c.put_element.result (g.R.Tally.state c.put_element.new.recorder))
    (sym (copy-element c.args.tree.now c.args.node c.len-count.ensures.tree c.requires (sym c.kind.ensures.kind ∙ c.in-Element.is)))
    c.put_element.ensures.reported

pub returns-in_default-clause-reported : goal.returns-in_default-clause-reported
returns-in_default-clause-reported g c =
    subst (λ xs. Puts c.args.site xs (g.R.Tally.state c.args.recorder.now) c.put_leaf.result (g.R.Tally.state c.put_leaf.new.recorder))
    (sym (copy-leaf c.args.tree.now c.args.node c.len-count.ensures.tree c.requires
    (leaf-other (at c.args.tree.now c.args.node).kind (λ e. c.in_default.not-Root (c.kind.ensures.kind ∙ e))
    (λ e. c.in_default.not-Element (c.kind.ensures.kind ∙ e)))))
    c.put_leaf.ensures.reported
