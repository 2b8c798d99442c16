use Rattle.std.proofs.Common.{◌++◌, [], Option, map, subst, sym}
use Rattle.std.proofs.lemmas.Result.{on_ok_weaker}
use Rattle.std.specs.Option.{option_map_or}
use Rattle.xs_sheet.specs.declared.scoped.ScopedPattern.{ScopedPattern}
use Rattle.xs_rules.specs.Rules.{candidate}
use Rattle.xs_rules.specs.steps.Index.{AreEntries}
use Rattle.xs_rules.proofs.entries.add_template.Goals as goal

pub returns-in-Some : goal.returns-in-Some
returns-in-Some c = record {
  entries =
      on_ok_weaker c.add_pattern.result
      (λ f ts cs of_number i.
      subst (λ (o : Option ScopedPattern). AreEntries ts
      (cs ++ option_map_or (λ (p : ScopedPattern). map (candidate c.args.number c.args.template.now p) p.pattern) o [])
      c.add_pattern.new.entries.items)
      (sym c.in-Some.is) (f ts cs of_number c.in-Some.is i))
      c.add_pattern.ensures.entries;
}
