use Rattle.std.proofs.Common.{sym, ◌∙◌}
use Rattle.std.proofs.lemmas.Bool.{true≢false}
use Rattle.xs_globals.specs.steps.Settling.{table_of}
use Rattle.xs_globals.proofs.SettlingLemmas.{settles-if, skips-one}
use Rattle.xs_globals.proofs.settling.settle_next.Goals as goal

pub returns-then-not-lacks-clause-next : goal.returns-then-not-lacks-clause-next
returns-then-not-lacks-clause-next g c =
    skips-one c.args.world.now c.args.budget c.args.global (table_of c.args.table.now) (λ e. true≢false (sym (c.lacks.ensures.1 e) ∙ c.if-not-lacks.true))

pub returns-clause-next : goal.returns-clause-next
returns-clause-next g c =
    settles-if c.args.world.now c.args.budget c.args.global (table_of c.args.table.now) (table_of c.settle_one.new.table) c.settle_one.result
    (c.lacks.ensures.0 c.if-not-lacks.false) c.settle_one.ensures.settles
