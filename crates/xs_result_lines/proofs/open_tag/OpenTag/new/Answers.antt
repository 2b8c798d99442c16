use Rattle.std.proofs.Common.{ap}
use Rattle.xs_result_lines.proofs.PendingLemmas.{alone_none, begun_none}
use Rattle.xs_result_lines.proofs.open_tag.OpenTag.new.Goals as goal

pub invariant_of-result : goal.invariant_of-result
invariant_of-result c = alone_none _ (begun_none c.new.result.items c.new.ensures.items)

pub returns : goal.returns
returns c = ap (λ s. s.tag) (begun_none c.new.result.items c.new.ensures.items)
