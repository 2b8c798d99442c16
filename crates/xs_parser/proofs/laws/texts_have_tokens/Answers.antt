use Rattle.xs_parser.specs.declared.signs.Before.TheVariants.{NoOperand}
use Rattle.xs_parser.proofs.LexLemmas.{lexed-Lexes, Lexes-lexed}
use Rattle.xs_parser.proofs.laws.texts_have_tokens.Goals as goal

pub returns : goal.returns
returns c = λ text ps. (lexed-Lexes 0 NoOperand text ps, Lexes-lexed 0 NoOperand text ps)
