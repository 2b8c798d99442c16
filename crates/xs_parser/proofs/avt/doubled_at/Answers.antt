use Rattle.xs_parser.proofs.RunLemmas.{one-boundary}
use Rattle.xs_parser.proofs.avt.doubled_at.Goals as goal

pub split_at-requires : goal.split_at-requires
split_at-requires c = one-boundary c.args.text.now c.utf8.text c.requires.some c.requires.ascii
