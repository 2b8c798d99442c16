use Rattle.std.proofs.Common.{◌≡◌, ◌∙◌, All, [], ◌++◌, ap, arith, length, subst}
use Rattle.xs_block.specs.Chain as chain
use Rattle.xs_result_laws.specs.Events.{HasTexts}
use Rattle.xs_record.specs.Segment.{items_of, joined}
use Rattle.xs_result_lines.specs.Lines.{pyx}
use Rattle.xs_reply.specs.Items.{events_in}
use Rattle.xs_reply.proofs.ReadBackLemmas.{count_end, count_more, lines_read_back, texts_end, texts_more}
use Rattle.xs_reply.proofs.TakenLemmas.{taken_end, taken_first, taken_more}
use Rattle.xs_reply.proofs.items.result_lines.Goals as goal

pub loop-segment-init : goal.loop-segment-init
loop-segment-init c =
    let first : c.into_iter-segment-iterator.result ≡ chain.items_of c.args.items.now = (cc) in
    let all = ap (λ ss. events_in (joined ss)) first in
    record {
      can = tt;
      ends = tt;
      taken = (
        [],
        taken_first c.in_ok-stream.stream c.new-lines.result.items (cc) c.in_ok-stream.ensures,
        all,
      );
      texts = subst (All HasTexts) all;
      counted = omega (arith, ap length all);
      few = omega arith;
    }

pub loop-segment-preserved : goal.loop-segment-preserved
loop-segment-preserved c =
    let before = c.loop-segment.invariant in
    let all = events_in (items_of c.args.items.now) in
    record {
      can = tt;
      ends = tt;
      taken = (
        before.taken.0 ++ events_in c.in-Some.segment.now,
        c.in_ok-count.ensures.taken [] before.taken.0 before.taken.1,
        taken_more c.in-Some.segment.now c.loop-segment.segment-iterator c.next.new.self before.taken.0 all before.taken.2 c.in-Some.ensures.steps,
      );
      texts =
          texts_more c.in-Some.segment.now c.loop-segment.segment-iterator c.next.new.self all before.texts c.in-Some.ensures.steps
          c.in_ok-count.ensures.texts;
      counted =
          count_more c.in-Some.segment.now c.loop-segment.segment-iterator c.next.new.self all c.loop-segment.count c.in_ok-count.count before.counted
          c.in-Some.ensures.steps c.in_ok-count.ensures.counted;
      few = c.in_ok-count.ensures.few;
    }

pub returns-clause-lines : goal.returns-clause-lines
returns-clause-lines c =
    let before = c.loop-segment.invariant in
    c.in_ok-finish.ensures.written [] before.taken.0 before.taken.1
    ∙ ap pyx (taken_end c.loop-segment.segment-iterator before.taken.0 (events_in (items_of c.args.items.now)) before.taken.2 c.in-None.ensures.steps.0)

pub returns-clause-reads_back : goal.returns-clause-reads_back
returns-clause-reads_back c =
    let before = c.loop-segment.invariant in
    let all = events_in (items_of c.args.items.now) in
    lines_read_back all c.finish.new.out.items c.results_read_back.ensures
    (texts_end c.loop-segment.segment-iterator all before.texts c.in-None.ensures.steps.0)
    (count_end c.loop-segment.segment-iterator all c.loop-segment.count before.counted c.in-None.ensures.steps.0 before.few)
    (c.in_ok-finish.ensures.written [] before.taken.0 before.taken.1
    ∙ ap pyx (taken_end c.loop-segment.segment-iterator before.taken.0 all before.taken.2 c.in-None.ensures.steps.0))
