use Rattle.std.proofs.Common.{sym}
use Rattle.xs_profile.specs.steps.Table.{sites_among, table_ticks}
use Rattle.xs_profile.proofs.PartLemmas.{no-part}
use Rattle.xs_profile.proofs.parts.add_place.Goals as goal

pub returns-in-None : goal.returns-in-None
returns-in-None c =
    λ s. no-part (sites_among c.args.starts.now) c.args.place s (table_ticks c.args.table.now.modules.items s) (sym c.in-None.ensures)
