use Rattle.xs_keys.specs.lemmas.TableLemmas.{key-laws}
use Rattle.xs_keys.proofs.laws.keys.Goals as goal

pub returns : goal.returns
returns c = key-laws
