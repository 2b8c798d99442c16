use Rattle.std.proofs.Common.{Some, None, arith, sym}
use Rattle.std.proofs.lemmas.Grind.{common_steps}
use Rattle.xs_modules.proofs.NameLemmas.{found_directory}
use Rattle.xs_modules.proofs.names.directory.Goals as goal

pub returns-in-Some : goal.returns-in-Some
returns-in-Some c =
    let e = found_directory c.args.name.now (Some c.in-Some.slash) c.in-Some.ensures.cases in
    grind (arith, common_steps)

pub returns-in-None : goal.returns-in-None
returns-in-None c = sym (found_directory c.args.name.now None c.in-None.ensures.cases)
