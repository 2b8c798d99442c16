use Rattle.std.proofs.Common.{List, ℕ, reverse, slice_set, true, subst, sym}
use Rattle.xs_globals.specs.steps.Settling.{IsUnderWay, table_of}
use Rattle.xs_globals.proofs.SettlingLemmas.{starts, turned}
use Rattle.xs_globals.proofs.settling.settle_one.Goals as goal

pub loop-top-init : goal.loop-top-init
loop-top-init g c =
    let t = table_of c.args.table.now in
    let begun = slice_set c.args.table.now.begun.items c.args.global true in
    subst (λ (ws : List ℕ). IsUnderWay c.args.world.now c.args.budget c.args.global t begun (reverse ws) t) (sym c.in_ok-waiting.ensures.items)
    (starts c.args.world.now c.args.budget c.args.table.now.begun.items c.args.global t c.requires.going c.requires.flagged c.requires.lacks)

pub returns-in-Some-2-clause-settles : goal.returns-in-Some-2-clause-settles
returns-in-Some-2-clause-settles g c =
    (turned c.args.world.now c.args.budget c.args.global (table_of c.args.table.now) c.loop-top.table.begun.items c.take_turn.new.table.begun.items
    c.loop-top.waiting.items c.pop.new.self.items c.take_turn.new.waiting.items c.in-Some.top (table_of c.loop-top.table)
    (table_of c.take_turn.new.table) c.in_ok-spot.field-0 _ c.in-Some.ensures.items c.loop-top.invariant c.in_ok-spot.ensures.turn c.in-Some-2.is).0

pub returns-in-Some-2-clause-going : goal.returns-in-Some-2-clause-going
returns-in-Some-2-clause-going g c =
    (turned c.args.world.now c.args.budget c.args.global (table_of c.args.table.now) c.loop-top.table.begun.items c.take_turn.new.table.begun.items
    c.loop-top.waiting.items c.pop.new.self.items c.take_turn.new.waiting.items c.in-Some.top (table_of c.loop-top.table)
    (table_of c.take_turn.new.table) c.in_ok-spot.field-0 _ c.in-Some.ensures.items c.loop-top.invariant c.in_ok-spot.ensures.turn c.in-Some-2.is).1

pub loop-top-smaller : goal.loop-top-smaller
loop-top-smaller g c =
    (turned c.args.world.now c.args.budget c.args.global (table_of c.args.table.now) c.loop-top.table.begun.items c.take_turn.new.table.begun.items
    c.loop-top.waiting.items c.pop.new.self.items c.take_turn.new.waiting.items c.in-Some.top (table_of c.loop-top.table)
    (table_of c.take_turn.new.table) c.in_ok-spot.field-0 _ c.in-Some.ensures.items c.loop-top.invariant c.in_ok-spot.ensures.turn c.in_default-2.is).1

pub loop-top-preserved : goal.loop-top-preserved
loop-top-preserved g c =
    (turned c.args.world.now c.args.budget c.args.global (table_of c.args.table.now) c.loop-top.table.begun.items c.take_turn.new.table.begun.items
    c.loop-top.waiting.items c.pop.new.self.items c.take_turn.new.waiting.items c.in-Some.top (table_of c.loop-top.table)
    (table_of c.take_turn.new.table) c.in_ok-spot.field-0 _ c.in-Some.ensures.items c.loop-top.invariant c.in_ok-spot.ensures.turn c.in_default-2.is).0
