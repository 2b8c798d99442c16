use Rattle.std.proofs.Common.{ap, ◌∙◌}
use Rattle.xs_static.specs.steps.Uses.{names_in}
use Rattle.xs_static.proofs.TableLemmas.{names-taken, size-taken}
use Rattle.xs_static.proofs.uses.Uses.take.Goals as goal

-- the table at a name is that at a key made of its texts
pub returns-clause-left : goal.returns-clause-left
returns-clause-left c = λ n.
    ap names_in (c.remove.ensures.updates.0 (record { ref_ptr = (0, 0); now = n.0 }, record { ref_ptr = (0, 0); now = n.1 }))
    ∙ names-taken _ _

pub returns-clause-size : goal.returns-clause-size
returns-clause-size c = size-taken _ c.args.self.now.names c.remove.new.self c.remove.result c.remove.ensures.value c.remove.ensures.entries
