use Rattle.xs_elements.proofs.WordLemmas.{word-boundary, words-cut}
use Rattle.xs_elements.proofs.words.cut_word.Goals as goal

pub split_at-requires : goal.split_at-requires
split_at-requires c = word-boundary c.args.text.now c.word_length.result (rw c.as_bytes.ensures.value at c.word_length.ensures)

pub returns-clause-words : goal.returns-clause-words
returns-clause-words c =
    let at = rw c.as_bytes.ensures.value at c.word_length.ensures in
    words-cut c.args.text.now c.split_at.result.0.now c.split_at.result.1.now c.word_length.result at c.requires.some c.requires.bare c.split_at.ensures.front
    c.split_at.ensures.back
