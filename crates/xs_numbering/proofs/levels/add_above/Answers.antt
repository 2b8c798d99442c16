use Rattle.std.proofs.Common.{[], ◌∷◌, ◌++◌, append_assoc, filter, map, not, take_while, sym, ap, ◌∙◌}
use Rattle.xs_tree.specs.declared.axes.Axis.TheVariants.{Ancestor}
use Rattle.xs_tree.specs.Axis.{axis_list}
use Rattle.xs_numbering.specs.Counting.{sibling_number}
use Rattle.xs_numbering.specs.Passes.{is_flagged}
use Rattle.xs_numbering.proofs.LevelLemmas.{ancestor-within, levels-next}
use Rattle.xs_numbering.proofs.levels.add_above.Goals as goal

pub add_number-requires-clause-node : goal.add_number-requires-clause-node
add_number-requires-clause-node c =
    ancestor-within c.args.tree.now c.args.node c.loop-ancestor.yielded c.next.new.self c.in-Some.ancestor
    (sym (ap (λ xs. c.loop-ancestor.yielded ++ xs) c.in-Some.ensures.steps) ∙ c.loop-ancestor.invariant.nodes)

pub loop-ancestor-preserved : goal.loop-ancestor-preserved
loop-ancestor-preserved c =
    let counts = is_flagged c.args.counts.now in
    let from = is_flagged c.args.from.now in
    let f = sibling_number counts c.args.tree.now in
    record {
      can = tt;
      ends = tt;
      nodes =
          append_assoc c.loop-ancestor.yielded (c.in-Some.ancestor ∷ []) c.next.new.self
          ∙ sym (ap (λ xs. c.loop-ancestor.yielded ++ xs) c.in-Some.ensures.steps) ∙ c.loop-ancestor.invariant.nodes;
      whole =
          levels-next f counts from c.in-Some.ancestor c.loop-ancestor.ancestor-iterator c.next.new.self c.loop-ancestor.out.items
          c.add_number.new.out.items
          (c.args.out.now.items ++ map f (filter counts (take_while (λ k. not (from k)) (axis_list Ancestor c.args.tree.now c.args.node))))
          (sym c.is_flagged.ensures ∙ c.if-is_flagged.false) c.in-Some.ensures.steps c.in_ok-add_number.ensures c.loop-ancestor.invariant.whole;
    }
