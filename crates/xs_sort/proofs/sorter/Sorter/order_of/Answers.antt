use Rattle.std.proofs.Common.{◌∙◌, Bool, codes, ap, refl, sym}
use Rattle.std.proofs.lemmas.Result.{err_from_is_err_and}
use Rattle.xs_eval_spec.proofs.StepLemmas.{exits, gives, goes_on}
use Rattle.xs_trace.specs.Play.{Goes}
use Rattle.xs_trace.specs.Run.{give, ◌>>=◌}
use Rattle.xs_sort_order.specs.declared.keys.Direction.{Direction}
use Rattle.xs_sort.specs.declared.orders.Order.{Order}
use Rattle.xs_sort.specs.Sorting.{direction_in, order_in, template_text}
use Rattle.xs_sort.proofs.GivenLemmas.{given-ends, given-on}
use Rattle.xs_sort.proofs.sorter.Sorter.order_of.Goals as goal

-- an order by whether it is numeric
abbrev with_kind : Bool → Direction → Order
with_kind b direction = record { is_numeric = b; direction = direction }

pub returns-in_err-kind-clause-reported : goal.returns-in_err-kind-clause-reported
returns-in_err-kind-clause-reported g c =
    let p = err_from_is_err_and c.from_residual.result c.from_residual.ensures.1 in
    let keys = g.K.KeyFinder.tables c.args.self.now.keys.now in
    let ctx = c.args.context.now in
    let d = c.args.decl.now in
    exits (λ t. t) (λ o. o) c.args.self.now.site (template_text keys ctx (codes "text") d.data_type)
    (λ kind. template_text keys ctx (codes "ascending") d.order >>= (λ order. direction_in order >>= (λ direction. give (order_in kind direction)))) _
    (g.T.Tally.state c.args.tally.now) (g.T.Tally.state c.template_text.new.tally) c.from_residual.result _ _ refl p.1 p.2 c.in_err-kind.ensures.reported

pub returns-in_err-order-clause-reported : goal.returns-in_err-order-clause-reported
returns-in_err-order-clause-reported g c =
    let p = err_from_is_err_and c.from_residual-in_err-order.result c.from_residual-in_err-order.ensures.1 in
    let keys = g.K.KeyFinder.tables c.args.self.now.keys.now in
    let ctx = c.args.context.now in
    let d = c.args.decl.now in
    let kind = c.in_ok-kind.kind in
    exits (λ t. t) (λ o. o) c.args.self.now.site (template_text keys ctx (codes "ascending") d.order)
    (λ order. direction_in order >>= (λ direction. give (order_in kind direction))) _
    (g.T.Tally.state c.template_text.new.tally) (g.T.Tally.state c.template_text-2.new.tally) c.from_residual-in_err-order.result _ _
    (goes_on c.args.self.now.site (template_text keys ctx (codes "text") d.data_type)
    (λ kind. template_text keys ctx (codes "ascending") d.order >>= (λ order. direction_in order >>= (λ direction. give (order_in kind direction))))
    kind (g.T.Tally.state c.args.tally.now) (g.T.Tally.state c.template_text.new.tally) c.in_ok-kind.ensures.reported)
    p.1 p.2 c.in_err-order.ensures.reported

pub returns-in_err-direction-clause-reported : goal.returns-in_err-direction-clause-reported
returns-in_err-direction-clause-reported g c =
    let p = err_from_is_err_and c.from_residual-in_err-direction.result c.from_residual-in_err-direction.ensures.1 in
    let keys = g.K.KeyFinder.tables c.args.self.now.keys.now in
    let ctx = c.args.context.now in
    let d = c.args.decl.now in
    let kind = c.in_ok-kind.kind in
    let order = c.in_ok-order.order in
    given-ends (λ (o : Order). o) c.args.self.now.site (direction_in order) (λ direction. give (order_in kind direction)) _
    (g.T.Tally.state c.template_text-2.new.tally) c.from_residual-in_err-direction.result _ _
    (goes_on c.args.self.now.site (template_text keys ctx (codes "text") d.data_type)
    (λ k. template_text keys ctx (codes "ascending") d.order >>= (λ o. direction_in o >>= (λ direction. give (order_in k direction))))
    kind (g.T.Tally.state c.args.tally.now) (g.T.Tally.state c.template_text.new.tally) c.in_ok-kind.ensures.reported
    ∙ goes_on c.args.self.now.site (template_text keys ctx (codes "ascending") d.order) (λ o. direction_in o >>= (λ direction. give (order_in kind direction)))
    order (g.T.Tally.state c.template_text.new.tally) (g.T.Tally.state c.template_text-2.new.tally) c.in_ok-order.ensures.reported)
    p.1 p.2 c.in_err-direction.ensures

pub returns-clause-reported : goal.returns-clause-reported
returns-clause-reported g c =
    let keys = g.K.KeyFinder.tables c.args.self.now.keys.now in
    let ctx = c.args.context.now in
    let d = c.args.decl.now in
    let kind = c.in_ok-kind.kind in
    let order = c.in_ok-order.order in
    let direction = c.in_ok-direction.direction in
    let m = g.T.Tally.state c.template_text-2.new.tally in
    goes_on c.args.self.now.site (template_text keys ctx (codes "text") d.data_type)
    (λ k. template_text keys ctx (codes "ascending") d.order >>= (λ o. direction_in o >>= (λ direction. give (order_in k direction))))
    kind (g.T.Tally.state c.args.tally.now) (g.T.Tally.state c.template_text.new.tally) c.in_ok-kind.ensures.reported
    ∙ goes_on c.args.self.now.site (template_text keys ctx (codes "ascending") d.order) (λ o. direction_in o >>= (λ direction. give (order_in kind direction)))
    order (g.T.Tally.state c.template_text.new.tally) m c.in_ok-order.ensures.reported
    ∙ given-on c.args.self.now.site (direction_in order) (λ direction. give (order_in kind direction)) direction m c.in_ok-direction.ensures
    ∙ gives c.args.self.now.site (order_in kind direction) m
    ∙ ap (λ (b : Bool). Goes (with_kind b direction) m) (sym c.is_number-is_numeric.ensures)
