-- What the calls of this crate answer, against what the bytes represent.
use Rattle.std.specs.Prelude.{◌≡◌, Result, Ok, Err}
use Rattle.xs_build.specs.declared.document.Built.{Built}
use Rattle.xs_build.specs.declared.fault.BuildFault.{BuildFault}
use Rattle.xs_build.specs.declared.fault.BuildFault.TheVariants.{Bad, NoMemory}
use Rattle.xs_build.specs.Document.{Outcome, tree, refused}

-- The tree and the line of each node are those that the bytes represent, and Bad comes exactly where they are refused, with that
-- fault at that line. Memory may run out.
abbrev pub Builds : Result Built BuildFault → Outcome → Type 0
Builds (Ok built) outcome = outcome ≡ tree built.tree built.lines.items
Builds (Err (Bad number line)) outcome = outcome ≡ refused number line
Builds (Err NoMemory) outcome = Unit {0}
