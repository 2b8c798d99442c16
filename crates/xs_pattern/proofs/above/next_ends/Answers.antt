use Rattle.std.proofs.Common.{◌≡◌, length, [], ◌∷◌, ap, arith, subst, sym, ◌∙◌}
use Rattle.std.proofs.lemmas.List.{nil_from_length}
use Rattle.std.specs.Vec.{vec_len}
use Rattle.xs_xpath.specs.Exprs.{tree_from}
use Rattle.xs_xpath.specs.Tree.{Tree, descend, no_trees, step}
use Rattle.xs_xpath.specs.declared.expr.Expr.{Expr}
use Rattle.xs_pattern.specs.Above.{EndsBy, is_plain}
use Rattle.xs_pattern.proofs.AboveLemmas.{ends-below, ends-led, no-items, some-items}
use Rattle.xs_pattern.proofs.TreeLemmas.{descend-tree, step-none, step-plain}
use Rattle.xs_pattern.proofs.above.next_ends.Goals as goal

pub returns-then-not-is_empty : goal.returns-then-not-is_empty
returns-then-not-is_empty c = record {
  next =
      ap (λ (x : Expr). is_plain (tree_from x)) c.in-Step.is
      ∙ step-plain c.in-Step.axis c.in-Step.test c.in-Step.predicates
      ∙ some-items (vec_len c.in-Step.predicates) (length c.in-Step.predicates.items) c.is_empty.result (omega (arith, c.in-Step.predicates.ok.0))
      c.is_empty.ensures c.if-not-is_empty.true;
}

pub returns-in_ok-below-in-Descend : goal.returns-in_ok-below-in-Descend
returns-in_ok-below-in-Descend c =
    let rs = c.args.tree.now in
    let t = c.in_ok-below-in-Descend.field-0.items in
    let e : tree_from c.args.step.now ≡ descend = ap tree_from c.in-Descend.is ∙ descend-tree in
    record {
      next = (
        ap is_plain e,
        λ start steps ends.
            subst (λ (s : Tree). EndsBy rs start (s ∷ steps) t) (sym e)
            (ends-below rs c.args.ends.now t c.in_ok-below-in-Descend.ensures.below start steps ends),
      );
    }

pub returns-in_ok-led-in-Step : goal.returns-in_ok-led-in-Step
returns-in_ok-led-in-Step c =
    let rs = c.args.tree.now in
    let t = c.in_ok-led-in-Step.field-0.items in
    let axis = c.in-Step.axis in
    let which = c.in-Step.test in
    let none : c.in-Step.predicates.items ≡ [] =
    nil_from_length c.in-Step.predicates.items (no-items (vec_len c.in-Step.predicates) (length c.in-Step.predicates.items) c.is_empty.result
    (omega (arith, c.in-Step.predicates.ok.0)) c.is_empty.ensures c.if-not-is_empty.false) in
    let e : tree_from c.args.step.now ≡ step axis which no_trees = ap tree_from c.in-Step.is ∙ step-none axis which c.in-Step.predicates none in
    record {
      next = (
        ap is_plain e,
        λ start steps ends.
            subst (λ (s : Tree). EndsBy rs start (s ∷ steps) t) (sym e)
            (ends-led rs axis which c.args.ends.now t c.in_ok-led-in-Step.ensures.tree c.in_ok-led-in-Step.ensures.led start steps ends),
      );
    }
