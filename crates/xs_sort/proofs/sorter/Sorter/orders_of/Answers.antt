use Rattle.std.proofs.Common.{◌∷◌, [], ◌++◌, ◌∙◌, arith, refl, sym}
use Rattle.std.proofs.lemmas.Result.{err_from_is_err_and}
use Rattle.xs_eval_spec.proofs.StepLemmas.{exits_in_parts, gives, items_done, parts_on}
use Rattle.xs_trace.specs.Run.{give}
use Rattle.xs_sort.specs.Sorting.{and_order, order_of}
use Rattle.xs_sort.proofs.sorter.Sorter.orders_of.Goals as goal

pub returns-in_err-order-clause-reported : goal.returns-in_err-order-clause-reported
returns-in_err-order-clause-reported g c =
    let p = err_from_is_err_and c.from_residual.result c.from_residual.ensures.1 in
    let keys = g.K.KeyFinder.tables c.args.self.now.keys.now in
    let ctx = c.args.context.now in
    let l = c.loop-decl in
    exits_in_parts (λ o. o) (λ v. v.items) c.args.self.now.site (and_order keys ctx) (λ orders. give orders) c.args.sorts.now l.decl-index c.decl-item.result
    l.orders.items (order_of keys ctx c.decl-item.result) (λ o. l.orders.items ++ o ∷ []) (g.T.Tally.state l.tally)
    (g.T.Tally.state c.order_of.new.tally) _ c.from_residual.result _ _ l.invariant.reported (omega arith) (sym c.decl-item.is) refl p.1 p.2
    c.in_err-order.ensures.reported

pub loop-decl-preserved : goal.loop-decl-preserved
loop-decl-preserved g c =
    let keys = g.K.KeyFinder.tables c.args.self.now.keys.now in
    let ctx = c.args.context.now in
    let l = c.loop-decl in
    record {
      reported =
          parts_on c.args.self.now.site (and_order keys ctx) (λ orders. give orders) c.args.sorts.now l.decl-index c.decl-item.result l.orders.items
          (order_of keys ctx c.decl-item.result) (λ o. l.orders.items ++ o ∷ []) c.in_ok-order.order c.push.new.self.items
          (g.T.Tally.state l.tally) (g.T.Tally.state c.order_of.new.tally) _ l.invariant.reported (omega arith) (sym c.decl-item.is) refl
          c.in_ok-order.ensures.reported c.in_ok-push.ensures.items;
      kept = c.in_ok-order.ensures.kept ∙ l.invariant.kept;
      long = grind (arith, c.in_ok-push.ensures.items, l.invariant.long);
    }

pub returns-clause-reported : goal.returns-clause-reported
returns-clause-reported g c =
    let keys = g.K.KeyFinder.tables c.args.self.now.keys.now in
    let l = c.loop-decl in
    let s = g.T.Tally.state l.tally in
    l.invariant.reported
    ∙ items_done c.args.self.now.site (and_order keys c.args.context.now) (λ orders. give orders) c.args.sorts.now l.decl-index l.orders.items s (omega arith)
    ∙ gives c.args.self.now.site l.orders.items s
