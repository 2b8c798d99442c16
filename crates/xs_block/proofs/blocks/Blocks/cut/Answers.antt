use Rattle.std.proofs.Common.{◌<◌, length, rules}
use Rattle.xs_block.proofs.CutLemmas.{cuts-next}
use Rattle.xs_block.proofs.blocks.Blocks.cut.Goals as goal

pub loop-left-preserved : goal.loop-left-preserved
loop-left-preserved g c =
    let pos : 0 < c.loop-left.left = search rules in
    let some : 0 < length c.loop-left.self = search rules in
    cuts-next c.loop-left.left c.trim-left.result c.loop-left.kept c.loop-left.self c.append.new.self c.take_first-block.result c.trim-left.new.self
    c.take_first-block.new.self c.args.self.now c.args.n pos some c.take_first-block.ensures.first c.take_first-block.ensures.rest
    c.trim-left.ensures.kept c.trim-left.ensures.left c.append.ensures.joined c.loop-left.invariant
