use Rattle.std.proofs.Common.{rules, ◌≡◌, ◌∷◌, [], ◌++◌, ap, ◌∙◌, sym, map, not, cond, List, ℕ, Bor}
use borrow.Author.Tests.{tests}
use Rattle.std.proofs.lemmas.List.{map_push}
use Rattle.std.proofs.lemmas.Iterator.Splits.{YieldsList-from_slice_split}
use Rattle.std.proofs.lemmas.Iterator.Consumers.{YieldsList-end, YieldsList-from_filter}
use Rattle.std.specs.List.{join_with_byte}
use Rattle.xs_text.specs.WhiteSpace.{is_white_space}
use Rattle.xs_strings.specs.Normalization.{is_nonempty}
use Rattle.xs_strings.proofs.WordLemmas.{is_some_piece, joined_more, is_some_piece_push, normalized-text}
use Rattle.xs_strings.proofs.normalization.append_words.Goals as goal

pub loop-word-preserved : goal.loop-word-preserved
loop-word-preserved c =
    let pieces : List (List ℕ) = map (λ (x : Bor (List ℕ)). x.now) c.loop-word.yielded in
    let more : map (λ (x : Bor (List ℕ)). x.now) (c.loop-word.yielded ++ c.in-Some.word ∷ []) ≡ pieces ++ c.in-Some.word.now ∷ [] =
    map_push (λ (x : Bor (List ℕ)). x.now) c.loop-word.yielded c.in-Some.word in (
      c.in_ok-push_word.ensures.ok
          ∙ ap (λ o. o ++ cond c.loop-word.is_first c.in-Some.word.now (32 ∷ c.in-Some.word.now)) c.loop-word.invariant.0
          ∙ joined_more c.args.out.now.items pieces c.in-Some.word.now c.loop-word.is_first c.loop-word.invariant.1
          ∙ ap (λ p. c.args.out.now.items ++ join_with_byte 32 p) (sym more),
      sym (ap (λ p. not (is_some_piece p)) more ∙ ap not (is_some_piece_push pieces c.in-Some.word.now)),
    )

pub returns-clause-ok : goal.returns-clause-ok
returns-clause-ok c =
    let chain = YieldsList-from_filter _ is_nonempty
    (YieldsList-from_slice_split _ is_white_space c.args.s.now (cc) (cc) (cc) (λ x b q k. search (rules, tests))) (cc) (λ x b q k. search (rules, tests)) in
    let ended = YieldsList-end chain c.loop-word.yielded _ c.loop-word.yielded_by _ _ c.in-None.is c.next.ensures.steps in
    c.loop-word.invariant.0 ∙ ap (λ p. c.args.out.now.items ++ join_with_byte 32 p) ended.0
    ∙ ap (λ x. c.args.out.now.items ++ x) (normalized-text c.args.s.now c.utf8.s)
