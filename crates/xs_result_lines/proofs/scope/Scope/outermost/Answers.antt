use Rattle.xs_result_lines.proofs.ScopeLemmas.{outermost_made}
use Rattle.xs_result_lines.proofs.scope.Scope.outermost.Goals as goal

pub invariant_of-result : goal.invariant_of-result
invariant_of-result c = (
  outermost_made c.insert.new.self.entries c.new-current.result.entries c.new.result.items c.in_ok-of.field-0 c.in_ok-xml.xml c.in_ok-of-2.field-0
      c.new-current.ensures.empty c.in_ok-insert.ensures.entries c.in_ok-of.ensures c.in_ok-xml.ensures.text c.in_ok-of-2.ensures.text c.new.ensures.items,
  c.in_ok-bound.ensures,
)
