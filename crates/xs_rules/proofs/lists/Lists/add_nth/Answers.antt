use Rattle.std.proofs.Common.{◌∙◌, IfSome, Option, ap, option_map, subst, sym}
use Rattle.std.specs.Borrow.{Bor}
use Rattle.std.specs.Option.{option_and_then, option_copied}
use Rattle.xs_sheet.specs.declared.scoped.ScopedPattern.{ScopedPattern}
use Rattle.xs_xpath.specs.declared.expr.Expr.{Expr}
use Rattle.xs_xpath.specs.Exprs.{tree_from}
use Rattle.xs_xpath.specs.Tree.{Tree}
use Rattle.xs_rules.specs.Rules.{candidate}
use Rattle.xs_rules.specs.steps.Index.{nth_of}
use Rattle.xs_rules.specs.steps.Lists.{IsAdded}
use Rattle.xs_rules.proofs.IndexLemmas.{more-indexed, on_all}
use Rattle.xs_rules.proofs.lists.Lists.add_nth.Goals as goal

pub returns-in-Some-nth_alternative : goal.returns-in-Some-nth_alternative
returns-in-Some-nth_alternative c = record {
  added =
      on_all c.add.result
      (λ f g h.
      subst (λ (o : Option ScopedPattern). IfSome (option_and_then (nth_of c.args.entry.template c.args.template.now c.args.entry.alternative) o)
      (IsAdded c.args.entry c.args.self.now c.add.new.self)) (sym c.in-Some.is)
      (subst (λ (o : Option Tree). IfSome (option_map (candidate c.args.entry.template c.args.template.now c.in-Some.pattern) o)
      (IsAdded c.args.entry c.args.self.now c.add.new.self))
      (ap (λ (o : Option (Bor Expr)). option_map tree_from (option_copied o)) (sym c.in-Some-nth_alternative.is) ∙ c.nth_alternative.ensures)
      (more-indexed c.args.entry c.args.self.now c.add.new.self c.args.template.now c.in-Some.pattern (tree_from c.in-Some-nth_alternative.alternative.now)
      f g h)))
      c.add.ensures.entries c.add.ensures.named c.add.ensures.unnamed;
}
