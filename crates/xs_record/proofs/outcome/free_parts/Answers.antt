use Rattle.std.proofs.Common.{◌≡◌, ◌+◌, length, rules}
use Rattle.xs_record.specs.Outcome.{part_blocks}
use Rattle.xs_record.proofs.BlockLemmas.{end-back, loop-back}
use Rattle.xs_record.proofs.outcome.free_parts.Goals as goal

pub loop-part-init : goal.loop-part-init
loop-part-init c = λ n le k. k

pub loop-part-preserved : goal.loop-part-preserved
loop-part-preserved c =
    loop-back (part_blocks c.args.parts.items + c.args.pool.now) c.loop-part.parts.items c.pop.new.self.items c.in-Some.part c.loop-part.pool
    c.give_back.new.self c.in-Some.ensures.items c.give_back.ensures.free c.loop-part.invariant

pub returns : goal.returns
returns c =
    let e : length c.loop-part.parts.items ≡ 0 = search rules in
    record { blocks = end-back (part_blocks c.args.parts.items + c.args.pool.now) c.loop-part.parts.items c.loop-part.pool e c.loop-part.invariant }
