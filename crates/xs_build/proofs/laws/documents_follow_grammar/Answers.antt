use Rattle.xs_build.proofs.GrammarLemmas as law
use Rattle.xs_build.proofs.laws.documents_follow_grammar.Goals as goal

pub returns : goal.returns
returns c = law.documents_follow_grammar
