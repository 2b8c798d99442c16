use Rattle.std.proofs.Common.{◌++◌, ◌∙◌, take}
use Rattle.xs_outside.proofs.WriteLemmas.{holds-more, left-over}
use Rattle.xs_outside.proofs.whole.write_whole.Goals as goal

pub loop-rest-preserved : goal.loop-rest-preserved
loop-rest-preserved g c = record {
  count = c.in_ok-taken.ensures.count_stays ∙ c.loop-rest.invariant.count;
  part = (
    c.loop-rest.invariant.part.0 ++ take c.in_ok-taken.taken c.loop-rest.rest.now,
    left-over c.args.bytes.now c.loop-rest.invariant.part.0 c.loop-rest.rest.now c.in_ok-taken.taken c.loop-rest.invariant.part.1,
    holds-more (g.S.Sink.held c.args.sink.now) (g.S.Sink.held c.loop-rest.sink) (g.S.Sink.held c.write.new.self)
        c.loop-rest.invariant.part.0 (take c.in_ok-taken.taken c.loop-rest.rest.now)
        c.loop-rest.invariant.part.2 c.in_ok-taken.ensures.held_ok,
  );
}
