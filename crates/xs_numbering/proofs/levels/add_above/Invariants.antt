use Rattle.std.proofs.Common.{◌≡◌, ◌++◌, filter, map, not, take_while}
use Rattle.xs_tree.specs.declared.axes.Axis.TheVariants.{Ancestor}
use Rattle.xs_tree.specs.Axis.{axis_list}
use Rattle.xs_numbering.specs.Counting.{sibling_number}
use Rattle.xs_numbering.specs.Passes.{is_flagged}
use Rattle.xs_numbering.proofs.levels.add_above.Given as goal

-- the numbers so far, with those of the ancestors that are left, are all
abbrev pub invariant-loop-ancestor : goal.invariant-loop-ancestor
invariant-loop-ancestor l = record {
  can : goal.iterator-loop-ancestor.can_next l.ancestor-iterator;
  ends : goal.iterator-loop-ancestor.is_finite l.ancestor-iterator;
  nodes : l.yielded ++ l.ancestor-iterator ≡ axis_list Ancestor l.tree l.fn.node;
  whole :
      l.out.items
      ++ map (sibling_number (is_flagged l.counts) l.tree)
      (filter (is_flagged l.counts) (take_while (λ k. not (is_flagged l.from k)) l.ancestor-iterator))
      ≡ l.fn.out.items
      ++ map (sibling_number (is_flagged l.counts) l.tree)
      (filter (is_flagged l.counts) (take_while (λ k. not (is_flagged l.from k)) (axis_list Ancestor l.tree l.fn.node)));
}
