use Rattle.xs_body_spec.proofs.LevelLemmas.{levels-suffice}
use Rattle.xs_body_spec.proofs.laws.levels_suffice.Goals as goal

pub returns : goal.returns
returns c = λ w names depth n p f sound alone enough. levels-suffice w alone sound names depth n p f enough
