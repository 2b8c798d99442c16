use Rattle.std.proofs.Common.{subst}
use Rattle.xs_making.specs.Laws.{AreWell}
use Rattle.xs_reply.proofs.ReadBackLemmas.{document_well}
use Rattle.xs_reply.proofs.reading.source_in.Goals as goal

pub returns-in-Ok-clause-well : goal.returns-in-Ok-clause-well
returns-in-Ok-clause-well c =
    subst AreWell (cc) (document_well c.in-Ok.field-0.tree c.documents_are_well.ensures c.in-Ok.ensures.tree c.len-count.ensures.tree)
