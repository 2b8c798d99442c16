use Rattle.std.proofs.Common.{◌∙◌, ap}
use Rattle.std.proofs.lemmas.List.{nil_from_length}
use Rattle.xs_result.proofs.start_tag.forget.Goals as goal

pub returns-then-is_empty : goal.returns-then-is_empty
returns-then-is_empty c = nil_from_length c.args.others.now.entries (c.is_empty.ensures.0 c.if-is_empty.true)

pub returns-then-len-gt-MANY : goal.returns-then-len-gt-MANY
returns-then-len-gt-MANY c = ap (λ m. m.entries) c.replace-many.ensures.after ∙ c.new.ensures.empty
