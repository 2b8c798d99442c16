use Rattle.std.proofs.Common.{take}
use Rattle.xs_keys.specs.steps.Pairs.{AreMatchTables, decls_in}
use Rattle.xs_keys.proofs.tables.tables_of.Given as goal

abbrev pub invariant-loop-member : goal.invariant-loop-member
invariant-loop-member l = AreMatchTables l.tree (take l.member-index (decls_in l.members)) l.tables.items
