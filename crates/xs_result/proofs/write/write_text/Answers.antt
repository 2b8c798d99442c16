use Rattle.std.proofs.Common.{◌∙◌, ◌++◌, ap, map}
use Rattle.xs_result.proofs.TextLemmas.{text_built}
use Rattle.xs_result.proofs.write.write_text.Goals as goal

pub returns-in-Ok-clause-text : goal.returns-in-Ok-clause-text
returns-in-Ok-clause-text g c =
    let reported = c.in-Ok.ensures.text in
    (reported.0, reported.2, reported.1 ∙ ap (λ t. c.args.out.now.items ++ t) (text_built (map (λ e. e.now) reported.0)))
