use Rattle.xs_build.proofs.GrammarFaultLemmas as law
use Rattle.xs_build.proofs.laws.grammar_is_enough.Goals as goal

pub returns : goal.returns
returns c = law.grammar_is_enough
