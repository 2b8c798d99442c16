use Rattle.xs_compile.proofs.LocalLemmas.{locals-kept, not-local}
use Rattle.xs_compile.proofs.slots.Locals.pass_other.Goals as goal

pub returns : goal.returns
returns c =
    locals-kept c.args.tree.now c.args.n c.args.self.now (not-local c.args.tree.now c.args.n c.requires.none) c.requires.locals
