use Rattle.std.proofs.Common.{sym, ◌≡◌, ◌∙◌, true}
use Rattle.xs_tree.specs.Kinds.{is_child_kind}
use Rattle.xs_tree.specs.Record.{at}
use Rattle.xs_axes.proofs.BackwardAxisLemmas.{precedes-ended}
use Rattle.xs_axes.proofs.backward.precedes.Goals as goal

pub returns-then-is_child : goal.returns-then-is_child
returns-then-is_child c =
    let child : is_child_kind (at c.args.tree.now c.args.candidate).kind ≡ true = rw (← c.kind.ensures.kind) (sym c.is_child.ensures ∙ c.if-is_child.true) in
    record {
      value = rw c.place.ensures (sym (precedes-ended c.args.tree.now c.args.node c.args.candidate c.subtree_end.result
          c.subtree_end.ensures.tree c.requires.within c.requires.after c.requires.before c.subtree_end.ensures.end child));
    }
