use Rattle.std.proofs.Common.{lit<}
use Rattle.std.proofs.lemmas.Str.Pattern.{strip_prefix_char}
use Rattle.xs_words.proofs.InputLemmas.{document_cases}
use Rattle.xs_words.proofs.inputs.document_of.Goals as goal

pub returns : goal.returns
returns c =
    document_cases c.args.word.now c.strip_prefix.result
    (strip_prefix_char 64 c.args.word.now c.strip_prefix.result c.strip_prefix.ensures.cases (lit< tt))
