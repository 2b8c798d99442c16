use Rattle.std.proofs.Common.{◌++◌, ap, List, rules}
use Rattle.xs_compile.proofs.SpaceLemmas.{rules_more, rules_start}
use Rattle.xs_compile.specs.steps.Spaces.{rule_as}
use Rattle.xs_elements.specs.WhiteSpace.{words}
use Rattle.xs_modules.specs.Results.{modules_data}
use Rattle.xs_sheet.specs.declared.declarations.StripRule.{StripRule}
use Rattle.xs_compile.proofs.spaces.push_rules.Goals as goal

pub loop-word-init : goal.loop-word-init
loop-word-init c = record {
  same = ap (λ (xs : List StripRule). c.args.strips.now.items ++ xs)
      (rules_start c.args.strip c.in_ok-scope.scope.pairs.items c.precedence_at-precedence.result c.said_at-rest.result.now
      (modules_data c.args.modules.now) (c.args.number, c.args.n) c.in_ok-scope.ensures c.precedence_at-precedence.ensures
      c.said_at-rest.ensures);
  text = search rules;
}

pub loop-word-preserved : goal.loop-word-preserved
loop-word-preserved c = record {
  same = rules_more (rule_as c.args.strip c.in_ok-scope.scope.pairs.items c.precedence_at-precedence.result) (words c.loop-word.rest.now)
      (words c.in-Some.behind.now) c.in-Some.word.now c.in_ok-rule_of.field-0 c.loop-word.strips.items c.push.new.self.items _
      c.in-Some.ensures.words c.in_ok-rule_of.ensures c.in_ok-push.ensures.items c.loop-word.invariant.same;
  text = search rules;
}
