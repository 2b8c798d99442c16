use Rattle.std.proofs.Common.{Vec, Global, ◌∙◌, ◌+◌, ap, sym, arith, drop}
use Rattle.std.proofs.lemmas.List.{drop_all}
use Rattle.xs_words.specs.Inputs.{all_pairs}
use Rattle.xs_words.specs.Results.{borrowed}
use Rattle.xs_text.specs.declared.text.TextBuf.{TextBuf}
use Rattle.xs_words.proofs.InputLemmas.{pairs_at, pairs_done, pairs_refused, prepended}
use Rattle.xs_words.proofs.inputs.all_pairs.Goals as goal

pub returns-in-Err : goal.returns-in-Err
returns-in-Err c =
    pairs_refused {X = Vec (TextBuf × TextBuf) Global} (λ pairs. pairs.items) c.loop-word.pairs.items c.args.words.now c.loop-word.word-index _
    c.in-Err.end c.loop-word-test.true c.loop-word.invariant c.in-Err.ensures

pub loop-word-preserved : goal.loop-word-preserved
loop-word-preserved c =
    ap (λ done. prepended done (all_pairs (borrowed (drop (c.loop-word.word-index + 1) c.args.words.now)))) c.in_ok-push-in-Ok.ensures.items
    ∙ sym (pairs_at c.loop-word.pairs.items c.in-Ok.pair c.args.words.now c.loop-word.word-index _ c.loop-word-test.true c.in-Ok.ensures)
    ∙ c.loop-word.invariant

pub returns : goal.returns
returns c =
    sym c.loop-word.invariant
    ∙ ap (λ xs. prepended c.loop-word.pairs.items (all_pairs (borrowed xs))) (drop_all c.loop-word.word-index c.args.words.now (omega arith))
    ∙ pairs_done c.loop-word.pairs.items
