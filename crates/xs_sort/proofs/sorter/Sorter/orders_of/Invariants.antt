use Rattle.std.proofs.Common.{◌≡◌, length}
use Rattle.xs_eval_spec.proofs.StepLemmas.{Rest}
use Rattle.xs_trace.specs.Run.{give, limited}
use Rattle.xs_sort.specs.Sorting.{and_order, orders_of}
use Rattle.xs_sort.proofs.sorter.Sorter.orders_of.Given as goal

abbrev pub invariant-loop-decl : goal.invariant-loop-decl
invariant-loop-decl g l = record {
  reported :
      limited l.self.site (orders_of (g.K.KeyFinder.tables l.self.keys.now) l.context l.sorts) (g.T.Tally.state l.fn.tally)
      ≡ Rest l.self.site (and_order (g.K.KeyFinder.tables l.self.keys.now) l.context) (λ orders. give orders) l.sorts l.decl-index l.orders.items
      (g.T.Tally.state l.tally);
  kept : g.T.Tally.kept l.tally ≡ g.T.Tally.kept l.fn.tally;
  long : length l.orders.items ≡ l.decl-index;
}
