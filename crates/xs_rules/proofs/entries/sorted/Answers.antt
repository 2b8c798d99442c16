use Rattle.std.proofs.Common.{rules}
use Rattle.std.proofs.lemmas.Fn.{always_returns_same}
use Rattle.xs_sort_order.proofs.InOrderLemmas.{is-in_order}
use Rattle.xs_rules.specs.steps.Index.{is_entry_below}
use Rattle.xs_rules.proofs.RankLemmas.{weak-entries}
use Rattle.xs_rules.proofs.entries.sorted.Goals as goal

pub returns : goal.returns
returns c = record {
  sorted =
      is-in_order is_entry_below weak-entries c.args.entries.items c.sort_by.new.self.items
      (c.in_ok-sort_by.ensures.sorted is_entry_below weak-entries (always_returns_same _ _ _ (λ a r g h. (search rules, search rules))))
      (c.in_ok-sort_by.ensures.stable is_entry_below weak-entries (always_returns_same _ _ _ (λ a r g h. (search rules, search rules))));
}
