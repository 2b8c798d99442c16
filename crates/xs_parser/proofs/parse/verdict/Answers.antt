use Rattle.std.proofs.Common.{◌∙◌, ap}
use Rattle.xs_xpath.specs.Exprs.{tree_from}
use Rattle.xs_parser.specs.declared.fault.Check.TheVariants.{Unknown, Literal, Unbound}
use Rattle.xs_parser.specs.Faults.{first_deep, first_fault, first_place, first_wrong, unless_fault}
use Rattle.xs_parser.proofs.VerdictLemmas.{none-in, some-in}
use Rattle.xs_parser.proofs.parse.verdict.Goals as goal

pub returns-in-None : goal.returns-in-None
returns-in-None c = record {
  answer =
      none-in c.args.wanted c.args.scope.now.pairs.items c.args.lexemes.items c.in_ok-tokens.tokens.items c.is_some.result
      c.in_ok-read.field-0 c.in_ok-read.ensures.tree c.in_ok-tokens.ensures.tokens c.in-None.is;
}

pub returns-in-Some : goal.returns-in-Some
returns-in-Some c = record {
  answer =
      some-in c.args.wanted c.args.scope.now.pairs.items c.args.lexemes.items c.in_ok-tokens.tokens.items c.is_some.result
      c.in_ok-read.field-0 c.in-Some.e c.first_place-at.result
      c.first_fault-unknown.result c.in_ok-wrong.wrong c.first_fault-bad.result c.first_deep-deep.result c.no_pattern-other.result
      c.first_fault-unbound.result c.unless_fault.result
      c.in_ok-read.ensures.tree c.in_ok-tokens.ensures.tokens c.in-Some.is (c.first_place-at.ensures.place ∙ ap first_place c.deref-6.ensures.value)
      (c.first_fault-unknown.ensures.first ∙ ap (first_fault Unknown c.args.scope.now.pairs.items) c.deref.ensures.value)
      (c.in_ok-wrong.ensures.first ∙ ap first_wrong c.deref-2.ensures.value)
      (c.first_fault-bad.ensures.first ∙ ap (first_fault Literal c.args.scope.now.pairs.items) c.deref-3.ensures.value)
      (c.first_deep-deep.ensures.first ∙ ap (λ ps. first_deep ps 0 0) c.deref-4.ensures.value)
      c.no_pattern-other.ensures.place (c.first_fault-unbound.ensures.first
      ∙ ap (first_fault Unbound c.args.scope.now.pairs.items) c.deref-5.ensures.value) c.is_some.ensures
      (c.unless_fault.ensures.answer ∙ ap (λ f. unless_fault f (tree_from c.in-Some.e)) c.least_fault-fault.ensures.fault);
}
