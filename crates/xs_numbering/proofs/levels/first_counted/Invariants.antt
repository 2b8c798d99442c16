use Rattle.std.proofs.Common.{◌≡◌, ◌++◌, filter, not, take_while}
use Rattle.xs_tree.specs.declared.axes.Axis.TheVariants.{Ancestor}
use Rattle.xs_tree.specs.Axis.{axis_list}
use Rattle.xs_numbering.specs.Counting.{counted}
use Rattle.xs_numbering.specs.Passes.{is_flagged}
use Rattle.xs_numbering.proofs.levels.first_counted.Given as goal

-- none of the ancestors that were passed is counted
abbrev pub invariant-loop-ancestor : goal.invariant-loop-ancestor
invariant-loop-ancestor l = record {
  can : goal.iterator-loop-ancestor.can_next l.ancestor-iterator;
  ends : goal.iterator-loop-ancestor.is_finite l.ancestor-iterator;
  nodes : l.yielded ++ l.ancestor-iterator ≡ axis_list Ancestor l.tree l.fn.node;
  none :
      counted (is_flagged l.counts) (is_flagged l.from) l.tree l.fn.node
      ≡ filter (is_flagged l.counts) (take_while (λ k. not (is_flagged l.from k)) l.ancestor-iterator);
}
