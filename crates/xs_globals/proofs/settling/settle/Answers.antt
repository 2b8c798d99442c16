use Rattle.std.proofs.Common.{List, Option, [], false, ap, map, subst, sym, ◌∙◌}
use Rattle.std.specs.List.{All}
use Rattle.std.specs.Option.{IsSome}
use Rattle.xs_value.specs.declared.value.Value.{Value}
use Rattle.xs_body_spec.specs.Globals.{Table, value_given}
use Rattle.xs_body_spec.specs.World.{World}
use Rattle.xs_globals.specs.Results.{settled_by}
use Rattle.xs_globals.specs.steps.Settling.{table_of}
use Rattle.xs_globals.proofs.SettledLemmas.{first-going, first-flagged, settles-so, whole-there}
use Rattle.xs_globals.proofs.settling.settle.Goals as goal

pub settle_in_turn-requires-clause-going : goal.settle_in_turn-requires-clause-going
settle_in_turn-requires-clause-going g c κs within =
    let w = c.args.world.now in
    let s = c.as_slice-globals.ensures ∙ ap (λ (w : World). w.sheet.globals) c.world.view_is in
    let first : List (Option Value) → Table = λ vs. record { values = vs; says = []; ticks = 0; thrown = 0 } in
    first-going w c.args.budget c.args.given.now c.with-table.result.begun.items (table_of c.with-table.result)
    (c.with-table.ensures.begun ∙ c.in_ok-begun.ensures.marks ∙ ap (map (λ x. false)) s)
    (c.with-table.ensures.table ∙ ap first (c.in_ok-values.ensures.values ∙ ap (map (value_given c.args.given.now)) s))

pub settle_in_turn-requires-clause-flagged : goal.settle_in_turn-requires-clause-flagged
settle_in_turn-requires-clause-flagged g c κs within =
    let s = c.as_slice-globals.ensures ∙ ap (λ (w : World). w.sheet.globals) c.world.view_is in
    first-flagged c.args.given.now c.args.world.now.sheet.globals c.with-table.result.begun.items c.with-table.result.values.items
    (c.with-table.ensures.begun ∙ c.in_ok-begun.ensures.marks ∙ ap (map (λ x. false)) s)
    (ap (λ (t : Table). t.values) c.with-table.ensures.table ∙ c.in_ok-values.ensures.values ∙ ap (map (value_given c.args.given.now)) s)

pub returns-clause-whole : goal.returns-clause-whole
returns-clause-whole g c = λ e.
    let w = c.args.world.now in
    let s = c.as_slice-globals.ensures ∙ ap (λ (w : World). w.sheet.globals) c.world.view_is in
    let first : List (Option Value) → Table = λ vs. record { values = vs; says = []; ticks = 0; thrown = 0 } in
    let u = table_of c.settle_in_turn.new.table in
    let all = settles-so w c.args.given.now c.args.budget c.as_slice-globals.result.now c.in_ok-order.order.items c.deref.result.now
    (table_of c.with-table.result) (settled_by c.in_ok-end.end u) s c.in_ok-order.ensures.order c.deref.ensures.value
    (c.with-table.ensures.table ∙ ap first (c.in_ok-values.ensures.values ∙ ap (map (value_given c.args.given.now)) s)) c.in_ok-end.ensures.settles in
    subst (λ (vs : List (Option Value)). All IsSome vs) (sym c.ended.ensures.values)
    (whole-there w c.args.given.now c.args.budget u c.in_ok-end.end all c.in_ok-end.ensures.going.count (sym c.ended.ensures.end ∙ e))
