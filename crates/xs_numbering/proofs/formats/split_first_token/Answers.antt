use Rattle.std.proofs.Common.{sym, subst, ◌∙◌, ◌≡◌, true}
use Rattle.xs_numbering.specs.Formats.{is_apart, pieces}
use Rattle.xs_numbering.proofs.PieceLemmas.{apart_after, at_a_token, without_token}
use Rattle.xs_numbering.proofs.formats.split_first_token.Goals as goal

pub returns-then-is_empty-clause-token : goal.returns-then-is_empty-clause-token
returns-then-is_empty-clause-token c =
    (without_token c.args.format.now c.split_token.result.0.now c.split_token.ensures.token (sym c.is_empty.ensures ∙ c.if-is_empty.true)).0

pub returns-then-is_empty-clause-rest : goal.returns-then-is_empty-clause-rest
unfolding pieces
returns-then-is_empty-clause-rest c =
    (without_token c.args.format.now c.split_token.result.0.now c.split_token.ensures.token (sym c.is_empty.ensures ∙ c.if-is_empty.true)).1

pub returns-clause-token : goal.returns-clause-token
returns-clause-token c =
    (at_a_token c.args.format.now c.split_token.result.0.now c.split_token.result.1.now c.split_token.ensures.token c.split_token.ensures.rest
    (sym c.is_empty.ensures ∙ c.if-is_empty.false)).0

pub returns-clause-rest : goal.returns-clause-rest
returns-clause-rest c =
    (at_a_token c.args.format.now c.split_token.result.0.now c.split_token.result.1.now c.split_token.ensures.token c.split_token.ensures.rest
    (sym c.is_empty.ensures ∙ c.if-is_empty.false)).1

pub returns-clause-apart : goal.returns-clause-apart
returns-clause-apart c = subst (λ xs. is_apart xs ≡ true) (sym c.split_token.ensures.rest) (apart_after c.args.format.now)
