use Rattle.std.proofs.Common.{◌++◌, ◌∙◌, ◌+◌, ◌<◌, ap, arith, drop, length, sym}
use Rattle.xs_text.specs.Escapes.{escaped}
use Rattle.xs_result_lines.specs.steps.Pending.{joined}
use Rattle.xs_result_lines.proofs.PendingLemmas.{next, piece_written, pieces_end}
use Rattle.xs_result_lines.proofs.StreamLemmas.{kept-twice}
use Rattle.xs_result_lines.proofs.name_lines.append_pieces.Goals as goal

pub loop-text-preserved : goal.loop-text-preserved
loop-text-preserved c =
    let t = c.text-item.result in
    let i = c.loop-text.text-index in
    let texts = c.args.texts.now in
    let out = c.loop-text.out.items in
    let lt : i < length texts = omega arith in
    record {
      whole =
          piece_written out c.append_escaped.new.out.items t.now (joined (drop (i + 1) texts))
          (c.in_ok-append_escaped.ensures.written ∙ ap (λ x. out ++ escaped x) c.as_str.ensures.text)
          ∙ ap (λ ts. out ++ escaped (joined ts)) (sym (next texts i t lt c.text-item.is)) ∙ c.loop-text.invariant.whole;
      front = kept-twice c.args.out.now.items out c.append_escaped.new.out.items c.loop-text.invariant.front c.append_escaped.ensures.kept;
      utf8 = λ u. c.append_escaped.ensures.utf8 (c.loop-text.invariant.utf8 u);
    }

pub returns-clause-written : goal.returns-clause-written
returns-clause-written c =
    pieces_end c.loop-text.out.items _ c.args.texts.now c.loop-text.text-index (omega arith) c.loop-text.invariant.whole
