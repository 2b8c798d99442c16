use Rattle.std.proofs.Common.{subst, sym}
use Rattle.xs_making.specs.steps.Plain.{IsPlainName}
use Rattle.xs_making.proofs.recent.RecentLabels.keep_plain.Goals as goal

pub of-name-requires : goal.of-name-requires
of-name-requires c = subst IsPlainName (sym c.in_ok-copy.ensures.label) c.requires
