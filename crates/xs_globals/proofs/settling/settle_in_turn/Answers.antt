use Rattle.xs_body_spec.specs.Globals.{settled}
use Rattle.xs_globals.specs.steps.Settling.{table_of}
use Rattle.xs_globals.proofs.SettlingLemmas.{none-follow}
use Rattle.xs_globals.proofs.settling.settle_in_turn.Goals as goal

pub returns-clause-settles : goal.returns-clause-settles
returns-clause-settles g c =
    c.loop-global.invariant.0 (settled (table_of c.loop-global.table))
    (none-follow c.args.world.now c.args.budget c.loop-global.left.now (table_of c.loop-global.table) c.in_default.ensures.cases)
