use Rattle.std.proofs.Common.{◌<◌, ◌∷◌, ◌++◌, ◌∙◌, Bool, List, [], ap, length, refl, slice_set, subst, sym, true}
use Rattle.xs_globals.specs.declared.settled.Turn.TheVariants as turn
use Rattle.xs_globals.specs.steps.Settling.{table_of}
use Rattle.xs_globals.proofs.SettlingLemmas.{needs-there, on-done, on-ends, on-needs, turn-as}
use Rattle.xs_globals.proofs.settling.take_turn.Goals as goal

pub descend-requires : goal.descend-requires
descend-requires g c =
    let t = table_of c.args.table.now in
    let u = table_of c.try_global.new.table in
    let q = turn-as c.args.world.now c.args.budget c.args.table.now.begun.items c.args.table.now.begun.items c.args.top t u c.in_ok-try_global.field-0
    (turn.Needs c.in-Needs.other) refl c.in-Needs.is c.in_ok-try_global.ensures.turn in
    let within = needs-there c.args.world.now c.args.budget c.args.table.now.begun.items t u c.args.top c.in-Needs.other c.requires.going q in
    record { there = subst (λ (bs : List Bool). c.in-Needs.other < length bs) (sym c.in_ok-try_global.ensures.begun) within }

pub returns-in-Done : goal.returns-in-Done
returns-in-Done g c =
    let t = table_of c.args.table.now in
    let u = table_of c.try_global.new.table in
    let ws = c.args.waiting.now.items in
    let q = turn-as c.args.world.now c.args.budget c.args.table.now.begun.items c.args.table.now.begun.items c.args.top t u c.in_ok-try_global.field-0 turn.Done
    refl c.in-Done.is c.in_ok-try_global.ensures.turn in
    record {
      turn = λ n first h. on-done c.args.world.now c.args.budget n first c.args.table.now.begun.items (ws ++ c.args.top ∷ []) ws t u c.args.top refl h
          c.try_global.new.table.begun.items c.in_ok-try_global.ensures.begun q c.in_ok-try_global.ensures.values;
    }

pub returns-in-Ends : goal.returns-in-Ends
returns-in-Ends g c =
    let t = table_of c.args.table.now in
    let u = table_of c.try_global.new.table in
    let ws = c.args.waiting.now.items in
    let q = turn-as c.args.world.now c.args.budget c.args.table.now.begun.items c.args.table.now.begun.items c.args.top t u c.in_ok-try_global.field-0
    (turn.Ends c.in-Ends.spot) refl c.in-Ends.is c.in_ok-try_global.ensures.turn in
    record {
      turn = λ n first h. on-ends c.args.world.now c.args.budget n first c.args.table.now.begun.items (ws ++ c.args.top ∷ []) ws t u c.args.top refl h
          c.try_global.new.table.begun.items c.in_ok-try_global.ensures.begun c.in-Ends.spot q;
    }

pub returns-in_ok-descend-in-Needs : goal.returns-in_ok-descend-in-Needs
returns-in_ok-descend-in-Needs g c =
    let t = table_of c.args.table.now in
    let u = table_of c.try_global.new.table in
    let ws = c.args.waiting.now.items in
    let q = turn-as c.args.world.now c.args.budget c.args.table.now.begun.items c.args.table.now.begun.items c.args.top t u c.in_ok-try_global.field-0
    (turn.Needs c.in-Needs.other) refl c.in-Needs.is c.in_ok-try_global.ensures.turn in
    record {
      turn = λ n first h. on-needs c.args.world.now c.args.budget n first c.args.table.now.begun.items (ws ++ c.args.top ∷ []) ws t u c.args.top refl h
          c.in-Needs.other q c.descend.new.begun.items c.descend.new.waiting.items
          (c.in_ok-descend-in-Needs.ensures.begun ∙ ap (λ (bs : List Bool). slice_set bs c.in-Needs.other true) c.in_ok-try_global.ensures.begun)
          c.in_ok-descend-in-Needs.ensures.waiting;
    }
