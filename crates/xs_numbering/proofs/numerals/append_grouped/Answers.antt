use Rattle.std.proofs.Common.{suc, ◌++◌, sym, ap, subst, ◌∙◌, string_bytes}
use Rattle.std.specs.Str.{IsAscii}
use Rattle.std.proofs.lemmas.List.{append-nil}
use Rattle.xs_numbering.proofs.GroupLemmas.{grouped-none, grouped-step}
use Rattle.xs_numbering.specs.Numerals.{grouped}
use Rattle.xs_numbering.proofs.numerals.append_grouped.Goals as goal

pub append_one-requires : goal.append_one-requires
append_one-requires c = subst IsAscii c.in-Some.ensures.cases.0 c.loop-digit.invariant.ascii 0

pub loop-digit-preserved : goal.loop-digit-preserved
loop-digit-preserved c = record {
  whole =
      grouped-step c.args.separator.now c.args.size c.ends_group.result c.in-Some.digit.now c.in-Some.after.now
      (string_bytes c.loop-digit.out) (string_bytes c.append_one.new.out)
      (string_bytes c.args.out.now ++ grouped c.args.separator.now c.args.size c.args.digits.now) c.ends_group.ensures
      c.in_ok-append_one.ensures
      (ap (λ xs. string_bytes c.loop-digit.out ++ grouped c.args.separator.now c.args.size xs) (sym c.in-Some.ensures.cases.0)
      ∙ c.loop-digit.invariant.whole);
  ascii = λ i. subst IsAscii c.in-Some.ensures.cases.0 c.loop-digit.invariant.ascii (suc i);
}

pub returns : goal.returns
returns c =
    sym (append-nil (string_bytes c.loop-digit.out))
    ∙ ap (λ xs. string_bytes c.loop-digit.out ++ xs)
    (sym (grouped-none c.args.separator.now c.args.size c.loop-digit.rest.now c.in_default.ensures.cases))
    ∙ c.loop-digit.invariant.whole
