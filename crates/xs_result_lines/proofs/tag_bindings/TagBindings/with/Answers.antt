use Rattle.std.proofs.Common.{◌≡◌, Some, false, subst, sym}
use Rattle.xs_result_lines.specs.Bindings.{binds}
use Rattle.xs_result_lines.proofs.OrderLemmas.{rebinds-updated}
use Rattle.xs_result_lines.proofs.TableLemmas.{with_kept}
use Rattle.xs_result_lines.proofs.tag_bindings.TagBindings.with.Goals as goal

pub invariant_of-result : goal.invariant_of-result
invariant_of-result c =
    with_kept c.self.inside.entries.entries c.insert.new.self.entries c.self.inside.by_uri.entries c.in_ok-by_uri.by_uri.entries c.self.inside.next
    c.in_ok-of.field-0 c.in_ok-copy.field-0 c.args.prefix.now c.args.uri.now c.in_ok-of.ensures c.in_ok-copy.ensures.text c.in_ok-insert.ensures.entries
    (rebinds-updated c.self.inside.entries.entries c.insert.new.self.entries c.in_ok-of.field-0 (Some c.in_ok-copy.field-0) c.in_ok-insert.ensures.updates.0)
    c.in_ok-insert.ensures.was_ordered (subst (λ m. binds m c.args.prefix.now ≡ false) (sym c.self.view_is) c.requires) c.in_ok-by_uri.ensures c.self.invariant
