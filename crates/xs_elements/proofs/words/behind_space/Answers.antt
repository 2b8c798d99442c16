use Rattle.std.proofs.Common.{rules}
use Rattle.xs_elements.proofs.WordLemmas.{blank-boundary}
use Rattle.xs_elements.proofs.words.behind_space.Goals as goal

pub range_from-requires : goal.range_from-requires
range_from-requires c = λ _. blank-boundary c.args.text.now c.utf8.text (search rules)
