use Rattle.std.proofs.Common.{List, subst}
use Rattle.std.specs.Prelude.{IfOk}
use Rattle.xs_compile.specs.Represents.{Represents}
use Rattle.xs_modules.specs.Numbering.{ModuleData}
use Rattle.xs_compile.proofs.compiled.sheet_of.Goals as goal

pub returns : goal.returns
returns c = subst (λ (ms : List ModuleData). IfOk c.sheet_by.result (Represents ms)) c.in_ok-compiler.ensures.modules c.sheet_by.ensures
