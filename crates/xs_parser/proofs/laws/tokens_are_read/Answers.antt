use Rattle.xs_parser.specs.Grammar.{same}
use Rattle.xs_parser.proofs.CompleteLemmas.{tree_by-Spells}
use Rattle.xs_parser.proofs.ReadSoundLemmas.{SpellsExpr-tree_of}
use Rattle.xs_parser.proofs.laws.tokens_are_read.Goals as goal

pub returns : goal.returns
returns c = λ ts e. (tree_by-Spells same ts e, SpellsExpr-tree_of ts e)
