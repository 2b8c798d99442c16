use Rattle.std.proofs.Common.{Bool, List, arith, subst, sym, take}
use Rattle.xs_xpath.specs.Exprs.{tree_from}
use Rattle.xs_pattern.specs.steps.Climb.{backwards}
use Rattle.xs_pattern.specs.steps.PathTables.{EndsIn}
use Rattle.xs_pattern.proofs.PathTableLemmas.{ends-more}
use Rattle.xs_pattern.proofs.path_tables.ends_of.Goals as goal

pub loop-step-preserved : goal.loop-step-preserved
loop-step-preserved c =
    let rs = c.args.tree.now in
    let scope = c.args.scope.now.pairs.items in
    let start = tree_from c.args.start.now in
    let steps = c.args.steps.now in
    let i = c.loop-step.step-index in
    record {
      begins = c.loop-step.invariant.begins;
      ends = λ free.
          ends-more rs scope start steps i c.step-item.result c.deref.result.now c.in_ok-ends.ends.items (omega arith) c.step-item.is free
          (subst (λ (l : List Bool). EndsIn rs scope start (backwards (take i steps)) l) (sym c.deref.ensures.value) (c.loop-step.invariant.ends free))
          c.in_ok-ends.ensures.next;
    }
