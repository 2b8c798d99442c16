use Rattle.std.proofs.Common.{arith, ◌++◌, ap, ◌∙◌, sym, subst, append-nil}
use Rattle.std.proofs.lemmas.Grind.{common_steps}
use Rattle.std.specs.Str.{IsUtf8}
use Rattle.xs_text.proofs.Utf8Lemmas.{IsUtf8-extended}
use Rattle.xs_strings.proofs.OccurrenceLemmas.{split_parts_round, IsUtf8-front, no_occurrence, text_after-found, text_after-none}
use Rattle.xs_strings.proofs.searching.substring_after.Goals as goal

pub returns-in-Some-clause-ok : goal.returns-in-Some-clause-ok
returns-in-Some-clause-ok c =
    let cases = c.in-Some.ensures.cases in
    let back : IsUtf8 c.in-Some.after.now = subst IsUtf8 c.as_bytes.ensures.value c.as_bytes.ensures.utf8 in
    let front = IsUtf8-front c.args.s.now c.args.t.now c.in-Some.field-0-0.now c.in-Some.after.now c.utf8.s c.utf8.t back cases in
    let found = text_after-found c.args.s.now c.args.t.now c.in-Some.field-0-0.now c.in-Some.after.now back
    (split_parts_round c.args.s.now c.args.t.now c.in-Some.field-0-0.now c.in-Some.after.now c.utf8.s c.utf8.t front cases) in
    grind (arith, common_steps, found)

pub returns-in-None-clause-ok : goal.returns-in-None-clause-ok
returns-in-None-clause-ok c =
    let none = text_after-none c.args.s.now c.args.t.now (no_occurrence c.args.s.now c.args.t.now c.utf8.s c.utf8.t c.in-None.ensures.cases) in
    sym (ap (λ x. c.args.out.now.items ++ x) none ∙ append-nil c.args.out.now.items)

pub returns-in-Some-clause-utf8 : goal.returns-in-Some-clause-utf8
returns-in-Some-clause-utf8 c = IsUtf8-extended c.extend_from_slice.result _ _ _ c.extend_from_slice.ensures.items c.as_bytes.ensures.utf8
