use Rattle.std.proofs.Common.{◌≡◌, ℕ, ◌&&◌, nat_le, nat_lt, subst, sym}
use Rattle.xs_tree.specs.Axis.{is_same_document, root_of}
use Rattle.xs_tree.specs.Shape.{EndsAt}
use Rattle.xs_eval.proofs.KeyLemmas.{ends-hold}
use Rattle.xs_eval.proofs.keys.Document.of.Goals as goal

pub returns : goal.returns
returns c = λ k w.
    let tree = c.args.tree.now in
    let end = c.subtree_end-end.result in
    let ends : EndsAt tree (root_of tree c.args.node) end =
    subst (λ (r : ℕ). EndsAt tree r end) c.root_of-root.ensures.root c.subtree_end-end.ensures.end in
    subst (λ (r : ℕ). is_same_document tree c.args.node k ≡ (nat_le r k && nat_lt k end)) (sym c.root_of-root.ensures.root)
    (ends-hold tree c.args.node end k c.subtree_end-end.ensures.tree c.requires ends w)
