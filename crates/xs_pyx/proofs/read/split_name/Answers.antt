use Rattle.std.proofs.Common.{Some, None, subst, List, ℕ}
use Rattle.memchr.specs.Find.{IsFirstByte}
use Rattle.xs_pyx.specs.Reading.{ends_name}
use Rattle.xs_pyx.proofs.NameCutLemmas.{cut_before_space, cut_behind_space, name_found, value_found, name_whole, value_none}
use Rattle.xs_pyx.proofs.read.split_name.Goals as goal

pub range-requires-clause-end_boundary : goal.range-requires-clause-end_boundary
range-requires-clause-end_boundary c =
    cut_before_space c.args.rest.now c.in-Some.end
    (subst (λ (bs : List ℕ). IsFirstByte ends_name bs (Some c.in-Some.end)) c.as_bytes.ensures.value c.in-Some.ensures)

pub range_from-requires : goal.range_from-requires
range_from-requires c =
    λ _. cut_behind_space c.args.rest.now c.in-Some.end c.utf8.rest
    (subst (λ (bs : List ℕ). IsFirstByte ends_name bs (Some c.in-Some.end)) c.as_bytes.ensures.value c.in-Some.ensures)

pub returns-in-Some-clause-name : goal.returns-in-Some-clause-name
returns-in-Some-clause-name c =
    name_found c.range.result.now c.args.rest.now c.in-Some.end c.range.ensures.value
    (subst (λ (bs : List ℕ). IsFirstByte ends_name bs (Some c.in-Some.end)) c.as_bytes.ensures.value c.in-Some.ensures)

pub returns-in-Some-clause-value : goal.returns-in-Some-clause-value
returns-in-Some-clause-value c =
    value_found c.range_from.result.now c.args.rest.now c.in-Some.end c.range_from.ensures.value
    (subst (λ (bs : List ℕ). IsFirstByte ends_name bs (Some c.in-Some.end)) c.as_bytes.ensures.value c.in-Some.ensures)

pub returns-in-None-clause-name : goal.returns-in-None-clause-name
returns-in-None-clause-name c =
    name_whole c.args.rest.now (subst (λ (bs : List ℕ). IsFirstByte ends_name bs None) c.as_bytes.ensures.value c.in-None.ensures)

pub returns-in-None-clause-value : goal.returns-in-None-clause-value
returns-in-None-clause-value c =
    value_none c.args.rest.now (subst (λ (bs : List ℕ). IsFirstByte ends_name bs None) c.as_bytes.ensures.value c.in-None.ensures)
