use Rattle.std.proofs.Common.{◌∙◌, ap}
use Rattle.xs_record.specs.Segment.{joined}
use Rattle.xs_result.specs.Built.{built}
use Rattle.xs_result.specs.Text.{text_in}
use Rattle.xs_reply.specs.Items.{events_in}
use Rattle.xs_reply.proofs.ItemLemmas.{drained}
use Rattle.xs_reply.proofs.items.result_text.Goals as goal

pub returns : goal.returns
returns c =
    let reported = c.in_ok-write_text.ensures.text in
    drained (λ es. text_in (built es)) c.items-left.result reported.0 c.write_text.new.out.items c.new-text.result.items reported.1 (cc) reported.2
    ∙ ap (λ ss. text_in (built (events_in (joined ss)))) c.items-left.ensures.items
