use Rattle.std.proofs.Common.{◌∙◌, sym}
use Rattle.std.proofs.lemmas.Result.{on_ok_weaker}
use Rattle.xs_result.proofs.start_tag.StartTag.put.Goals as goal

pub replace-requires : goal.replace-requires
replace-requires c = record { first = (c.args.name.now, sym c.place.ensures ∙ c.in-Some.is) }

pub returns-in-Some : goal.returns-in-Some
returns-in-Some c = on_ok_weaker c.replace.result (λ f. f c.args.name.now (sym c.place.ensures ∙ c.in-Some.is)) c.replace.ensures
