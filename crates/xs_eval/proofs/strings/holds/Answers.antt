use Rattle.std.proofs.Common.{ap, is_some, subst, sym}
use Rattle.std.specs.Str.{IsUtf8}
use Rattle.xs_strings.proofs.OccurrenceLemmas.{no_occurrence, split_parts_round}
use Rattle.xs_eval.proofs.strings.holds.Goals as goal

pub returns-in-Some : goal.returns-in-Some
returns-in-Some c =
    let front : IsUtf8 c.in-Some.before.now = subst IsUtf8 c.as_bytes-bytes.ensures.value c.as_bytes-bytes.ensures.utf8 in
    sym (ap (λ o. is_some o) (split_parts_round c.args.text.now c.args.sought.now c.in-Some.before.now c.in-Some.field-0-1.now c.utf8.text c.utf8.sought
    front c.in-Some.ensures.cases))

pub returns-in-None : goal.returns-in-None
returns-in-None c =
    sym (ap (λ o. is_some o) (no_occurrence c.args.text.now c.args.sought.now c.utf8.text c.utf8.sought c.in-None.ensures.cases))
