use Rattle.std.proofs.Common.{arith, sym}
use Rattle.xs_keys.proofs.MatchTableLemmas.{tables-next}
use Rattle.xs_keys.proofs.tables.tables_of.Goals as goal

pub loop-member-preserved : goal.loop-member-preserved
loop-member-preserved c =
    tables-next c.args.tree.now c.args.members.now c.loop-member.member-index c.member-item.result c.loop-member.tables.items c.push.new.self.items
    c.in_ok-table.table (omega arith) (sym c.member-item.is) c.in_ok-push.ensures.items c.in_ok-table.ensures.table c.loop-member.invariant
