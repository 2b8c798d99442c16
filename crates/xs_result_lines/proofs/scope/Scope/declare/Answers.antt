use Rattle.std.proofs.Common.{Some}
use Rattle.xs_result_lines.proofs.OrderLemmas.{rebinds-as, rebinds-updated}
use Rattle.xs_result_lines.proofs.ScopeLemmas.{bound_again, declared_kept, found_before}
use Rattle.xs_result_lines.proofs.scope.Scope.declare.Goals as goal

pub invariant_of-result : goal.invariant_of-result
invariant_of-result c =
    let rebinds =
    rebinds-as c.self.inside.current.entries c.insert.new.self.entries c.in_ok-of.field-0 c.in_ok-copy.field-0 c.args.declared.prefix c.args.declared.uri
    c.in_ok-of.ensures c.in_ok-copy.ensures.text
    (rebinds-updated c.self.inside.current.entries c.insert.new.self.entries c.in_ok-of.field-0 (Some c.in_ok-copy.field-0)
    c.in_ok-before.ensures.updates.0) in (
      declared_kept c.self.inside.current.entries c.insert.new.self.entries c.self.inside.log.items c.push.new.self.items
          (record { prefix = c.args.declared.prefix; uri = c.args.declared.uri; before = c.in_ok-before.before }) c.in_ok-push.ensures.items rebinds
          (found_before c.self.inside.current.entries c.in_ok-of.field-0 c.args.declared.prefix c.in_ok-before.before c.in_ok-of.ensures
          c.in_ok-before.ensures.old)
          c.self.invariant.0,
      bound_again c.self.inside.current.entries c.insert.new.self.entries c.self.inside.recent c.args.declared.prefix (Some c.args.declared.uri)
          c.self.inside.bound c.in_ok-bound.bound c.as_str.result.now c.as_str-2.result.now c.is_same-is_recent.result rebinds c.as_str.ensures
          c.as_str-2.ensures.text c.is_same-is_recent.ensures
          c.self.invariant.1 c.in_ok-bound.ensures,
    )
