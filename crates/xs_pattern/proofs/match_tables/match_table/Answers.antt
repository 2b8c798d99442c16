use Rattle.std.proofs.Common.{◌∙◌, ap, arith, false, get_or, sym}
use Rattle.xs_pattern.proofs.MatchTableLemmas.{joined-match-at, none-match}
use Rattle.xs_pattern.proofs.match_tables.match_table.Goals as goal

pub loop-alternative-init : goal.loop-alternative-init
loop-alternative-init g c = λ n lt.
    ap (λ l. get_or l n false) c.new-found.ensures.items
    ∙ none-match (g.K.KeyFinder.tables c.args.keys.now) c.args.tree.now c.args.pattern.now.scope n

pub loop-alternative-preserved : goal.loop-alternative-preserved
loop-alternative-preserved g c =
    joined-match-at (g.K.KeyFinder.tables c.args.keys.now) c.args.tree.now c.args.pattern.now.scope c.scope-scope.result.now.pairs.items
    c.args.pattern.now.pattern c.alternatives-alternative-items.result.now c.alternative-item.result c.loop-alternative.alternative-index
    c.deref.result.now c.in_ok-found.found.items c.alternatives-alternative-items.ensures c.scope-scope.ensures (omega arith) (sym c.alternative-item.is)
    (λ n lt. ap (λ l. get_or l n false) c.deref.ensures.value ∙ c.loop-alternative.invariant n lt) c.in_ok-found.ensures.table
