use Rattle.std.proofs.Common.{arith, sym}
use Rattle.xs_keys.proofs.RunLemmas.{members-next}
use Rattle.xs_keys.proofs.cells.members_of.Goals as goal

pub loop-decl-preserved : goal.loop-decl-preserved
loop-decl-preserved c =
    members-next c.args.name.now c.args.decls.now c.loop-decl.decl-index c.decl-item.result c.loop-decl.members.items c.add_member.new.members.items
    (omega arith) (sym c.decl-item.is) c.loop-decl.invariant c.in_ok-add_member.ensures
