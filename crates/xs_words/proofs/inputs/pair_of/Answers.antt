use Rattle.std.proofs.Common.{lit<}
use Rattle.xs_words.proofs.InputLemmas.{pair_whole}
use Rattle.xs_words.proofs.inputs.pair_of.Goals as goal

pub returns-in-None : goal.returns-in-None
returns-in-None c = pair_whole c.args.word.now (c.in-None.ensures.byte (lit< tt) (λ w o h. h))
