use Rattle.std.proofs.Common.{◌≡◌, subst, sym, rules}
use Rattle.std.specs.Str.{IsCharBoundary}
use Rattle.xs_pyx.specs.Reading.{line_of}
use Rattle.xs_pyx.proofs.ReadLemmas.{none_of_none, none_of_unended, plain_takes}
use Rattle.xs_pyx.proofs.plain.plain_text_line.Goals as goal

pub returns-clause-takes : goal.returns-clause-takes
returns-clause-takes c = λ some.
    plain_takes c.args.text.now c.split_text-row.result.text.now c.split_text-row.result.ended c.split_text-row.result.taken c.plain_row.result.size
    (line_of c.plain_row.result.kind c.plain_row.result.rest.now) c.split_text-row.ensures.first c.if-not-row.false c.split_text-row.ensures.within
    c.split_text-row.ensures.taken (c.plain_row.ensures.size some) (c.plain_row.ensures.says some) some

pub returns-clause-cut : goal.returns-clause-cut
returns-clause-cut c = λ some.
    subst (λ n. IsCharBoundary c.args.text.now n) (sym (c.plain_row.ensures.size some)) c.split_text-row.ensures.cut

pub returns-then-is_empty-clause-none : goal.returns-then-is_empty-clause-none
returns-then-is_empty-clause-none c = λ _. none_of_none c.args.text.now (search rules)

pub returns-then-not-row-clause-none : goal.returns-then-not-row-clause-none
returns-then-not-row-clause-none c =
    λ _. none_of_unended c.args.text.now c.split_text-row.result.text.now c.split_text-row.result.ended c.split_text-row.ensures.first c.if-not-row.true
