use Rattle.std.proofs.Common.{refl, true}
use Rattle.xs_attribute_sets.proofs.ServedLemmas.{all-closed}
use Rattle.xs_attribute_sets.proofs.index.checked_flags.Goals as goal

pub returns : goal.returns
returns c = all-closed (record { names = c.new.result; all = true }) c.args.sets.now refl
