use Rattle.std.proofs.Common.{◌≡◌, true, [], ap, length, replicate, subst, sym, ◌∙◌}
use Rattle.xs_xpath.specs.Exprs.{tree_from}
use Rattle.xs_xpath.specs.Tree.{Tree, here, root}
use Rattle.xs_pattern.specs.Above.{EndsBy, is_plain_path}
use Rattle.xs_pattern.proofs.AboveLemmas.{ends-anywhere, ends-roots}
use Rattle.xs_pattern.proofs.TreeLemmas.{here-tree, root-tree}
use Rattle.xs_pattern.proofs.above.beginnings.Goals as goal

pub returns-in_ok-vec-in-Here : goal.returns-in_ok-vec-in-Here
returns-in_ok-vec-in-Here c =
    let rs = c.args.tree.now in
    let t = c.in_ok-vec-in-Here.field-0.items in
    let e : tree_from c.args.start.now ≡ here = ap tree_from c.in-Here.is ∙ here-tree in
    let made : t ≡ replicate (length rs) true =
    c.in_ok-vec-in-Here.ensures.items_if_clones_equal (λ y same. same) ∙ ap (λ n. replicate n true) c.len.ensures.count in
    record {
      ends = (
        ap (λ (s : Tree). is_plain_path s []) e,
        subst (λ (s : Tree). EndsBy rs s [] t) (sym e) (ends-anywhere rs t made),
      );
    }

pub returns-in_ok-roots-in-Root : goal.returns-in_ok-roots-in-Root
returns-in_ok-roots-in-Root c =
    let rs = c.args.tree.now in
    let t = c.in_ok-roots-in-Root.field-0.items in
    let e : tree_from c.args.start.now ≡ root = ap tree_from c.in-Root.is ∙ root-tree in
    record {
      ends = (
        ap (λ (s : Tree). is_plain_path s []) e,
        subst (λ (s : Tree). EndsBy rs s [] t) (sym e)
            (ends-roots rs t c.in_ok-roots-in-Root.ensures.tree c.in_ok-roots-in-Root.ensures.roots),
      );
    }
