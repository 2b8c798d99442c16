use Rattle.std.proofs.Common.{◌≡◌}
use Rattle.std.proofs.lemmas.Result.{IfOk-weaker}
use Rattle.xs_sort_order.specs.InOrder.{in_order}
use Rattle.xs_rules.specs.Rules.{candidates}
use Rattle.xs_rules.specs.steps.Index.{AreEntries, is_entry_below, ranked}
use Rattle.xs_rules.proofs.RankLemmas.{entries-ranked}
use Rattle.xs_rules.proofs.entries.ranked_entries.Goals as goal

pub returns : goal.returns
returns c = record {
  ranked =
      IfOk-weaker c.sorted.result (λ l. l.items ≡ in_order is_entry_below c.in_ok-entries.entries.items)
      (λ l. AreEntries c.args.templates.now (ranked (candidates c.args.templates.now)) l.items)
      (λ l e. entries-ranked c.args.templates.now (candidates c.args.templates.now) c.in_ok-entries.entries.items l.items
      c.in_ok-entries.ensures.entries e)
      c.sorted.ensures.sorted;
}
