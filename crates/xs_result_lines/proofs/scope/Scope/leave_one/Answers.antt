use Rattle.xs_result_lines.proofs.ScopeLemmas.{bound_again, left_kept}
use Rattle.xs_result_lines.proofs.scope.Scope.leave_one.Goals as goal

pub invariant_of-result : goal.invariant_of-result
invariant_of-result c = (
  left_kept c.self.inside.current.entries c.in_ok-current-in-Some.current.entries c.pop.new.self.items c.self.inside.log.items c.in-Some.last
      c.in-Some.ensures.items c.in_ok-current-in-Some.ensures c.self.invariant.0,
  bound_again c.self.inside.current.entries c.in_ok-current-in-Some.current.entries c.self.inside.recent c.in-Some.last.prefix c.in-Some.last.before
      c.self.inside.bound c.in_ok-bound-in-Some.bound c.as_str.result.now c.as_str-in-Some.result.now c.is_same-is_recent.result
      c.in_ok-current-in-Some.ensures c.as_str.ensures c.as_str-in-Some.ensures.text
      c.is_same-is_recent.ensures c.self.invariant.1 c.in_ok-bound-in-Some.ensures,
)
