use Rattle.std.proofs.Common.{◌∙◌, ap, sym, arith}
use Rattle.xs_modules.specs.Reading.{is_above}
use Rattle.xs_modules.specs.steps.Reader.{number_of}
use Rattle.xs_modules.specs.steps.Views.{mention_data}
use Rattle.xs_modules.proofs.CheckLemmas.{circular_refused, too_many_refused}
use Rattle.xs_modules.proofs.reading.Reader.check.Goals as goal

pub returns-then-is_above : goal.returns-then-is_above
returns-then-is_above c =
    circular_refused c.args.self.now.path.items (number_of c.args.self.now) (mention_data c.args.mention.now) c.refuse.result c.refuse.ensures
    (ap (is_above c.args.self.now.path.items) (sym c.as_str.ensures.text) ∙ sym c.is_above.ensures ∙ c.if-is_above.true)

pub returns-then-len-eq-MOST_MODULES : goal.returns-then-len-eq-MOST_MODULES
returns-then-len-eq-MOST_MODULES c =
    too_many_refused c.args.self.now.path.items (number_of c.args.self.now) (mention_data c.args.mention.now) c.refuse-then-len-eq-MOST_MODULES.result
    c.refuse-then-len-eq-MOST_MODULES.ensures
    (ap (is_above c.args.self.now.path.items) (sym c.as_str.ensures.text) ∙ sym c.is_above.ensures ∙ c.if-is_above.false) (omega arith)
