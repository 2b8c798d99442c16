use Rattle.xs_modules.proofs.OneReadingLemmas.{reports_only}
use Rattle.xs_modules.proofs.WholeLemmas.{answer_sound}
use Rattle.xs_modules.proofs.reading.read_modules.Goals as goal

pub returns-clause-sound : goal.returns-clause-sound
returns-clause-sound g c =
    answer_sound c.read_all.result (g.L.Library.files c.args.library.now) c.args.name.now _ _ _ _ c.read_all.ensures.modules c.read_all.ensures.few

pub returns-clause-only : goal.returns-clause-only
returns-clause-only g c =
    reports_only c.read_all.result (g.L.Library.files c.args.library.now) c.args.name.now _ _ _ _ c.read_all.ensures.modules
