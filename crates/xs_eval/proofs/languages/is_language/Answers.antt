use Rattle.std.proofs.Common.{sym, ◌∙◌}
use Rattle.xs_eval.proofs.LanguageLemmas.{language-else, language-then}
use Rattle.xs_eval.proofs.languages.is_language.Goals as goal

pub returns-then-is_same_word : goal.returns-then-is_same_word
returns-then-is_same_word c =
    language-then c.args.language.now c.args.wanted.now c.as_bytes.result.now c.as_bytes-in-Some.result.now c.in-Some.front.now c.in-Some.rest.now
    c.as_bytes.ensures.value c.as_bytes-in-Some.ensures.value c.in-Some.ensures.cases c.is_part.result
    (sym c.is_same_word.ensures ∙ c.if-is_same_word.true) c.is_part.ensures

pub returns-else-is_same_word : goal.returns-else-is_same_word
returns-else-is_same_word c =
    c.if-is_same_word.false
    ∙ language-else c.args.language.now c.args.wanted.now c.as_bytes.result.now c.as_bytes-in-Some.result.now c.in-Some.front.now c.in-Some.rest.now
    c.as_bytes.ensures.value c.as_bytes-in-Some.ensures.value c.in-Some.ensures.cases (sym c.is_same_word.ensures ∙ c.if-is_same_word.false)
