use Rattle.std.proofs.Common.{arith, sym}
use Rattle.xs_keys.proofs.AlternativeLemmas.{alternative-false, alternative-true, alternatives-end}
use Rattle.xs_keys.proofs.tables.some_matches.Goals as goal

pub returns-then-branch : goal.returns-then-branch
returns-then-branch c = record {
  matched =
      alternative-true c.args.tree.now c.args.pattern.now.scope c.scope-scope.result.now.pairs.items c.args.pattern.now.pattern
      c.alternatives-alternative-items.result.now c.args.node c.loop-alternative.alternative-index c.alternatives-alternative-items.ensures
      c.scope-scope.ensures c.alternative-item.result c.in_ok-matches_path.field-0 _ (omega arith) (sym c.alternative-item.is)
      c.in_ok-matches_path.ensures.matches c.if-branch.true c.loop-alternative.invariant;
}

pub loop-alternative-preserved : goal.loop-alternative-preserved
loop-alternative-preserved c =
    alternative-false c.args.tree.now c.args.pattern.now.scope c.scope-scope.result.now.pairs.items c.args.pattern.now.pattern
    c.alternatives-alternative-items.result.now c.args.node c.loop-alternative.alternative-index c.alternatives-alternative-items.ensures
    c.scope-scope.ensures c.alternative-item.result c.in_ok-matches_path.field-0 _ (omega arith) (sym c.alternative-item.is)
    c.in_ok-matches_path.ensures.matches c.if-branch.false c.loop-alternative.invariant

pub returns : goal.returns
returns c = record {
  matched =
      alternatives-end c.args.tree.now c.args.pattern.now.scope c.scope-scope.result.now.pairs.items c.args.pattern.now.pattern
      c.alternatives-alternative-items.result.now c.args.node c.loop-alternative.alternative-index c.alternatives-alternative-items.ensures
      c.scope-scope.ensures _ (omega arith) c.loop-alternative.invariant;
}
