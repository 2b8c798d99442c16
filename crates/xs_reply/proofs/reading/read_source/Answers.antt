use Rattle.std.proofs.Common.{ap, ◌∙◌}
use Rattle.xs_reply.specs.Run.{source_of}
use Rattle.xs_reply.proofs.CutFileLemmas.{source_gives}
use Rattle.xs_reply.proofs.reading.read_source.Goals as goal

pub returns-clause-tree : goal.returns-clause-tree
returns-clause-tree g c = source_gives (g.L.Library.files c.args.library.now) c.args.name.now c.in_ok-bytes.bytes.items _ c.in_ok-bytes.ensures.bytes
    (c.in_ok-source.ensures.tree ∙ ap source_of c.deref.ensures.value)
