use Rattle.std.proofs.Common.{◌≡◌, take}
use Rattle.xs_keys.specs.KeyTables.{declarations_of}
use Rattle.xs_keys.specs.steps.Pairs.{decls_in}
use Rattle.xs_keys.proofs.cells.members_of.Given as goal

abbrev pub invariant-loop-decl : goal.invariant-loop-decl
invariant-loop-decl l = decls_in l.members.items ≡ declarations_of l.name (take l.decl-index l.decls)
