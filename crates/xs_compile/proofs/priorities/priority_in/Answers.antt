use Rattle.std.proofs.Common.{◌∙◌, ap, arith, lit<, None, w64}
use Rattle.std.proofs.lemmas.Int.{to_z_pos}
use Rattle.std.proofs.lemmas.Str.Pattern.{strip_prefix_char}
use Rattle.std.specs.Prelude.{pos}
use Rattle.xs_compile.proofs.PriorityLemmas.{plain_number, plain_priority}
use Rattle.xs_compile.proofs.priorities.priority_in.Goals as goal

pub tenthousandths-requires-in-None : goal.tenthousandths-requires-in-None
tenthousandths-requires-in-None c =
    plain_number c.args.text.now (strip_prefix_char 45 c.args.text.now None c.in-None.ensures.cases (lit< tt)) c.requires

pub returns-in-None : goal.returns-in-None
returns-in-None c =
    to_z_pos w64 c.tenthousandths-in-None.result (omega (arith, c.tenthousandths-in-None.ensures.few))
    ∙ ap pos c.tenthousandths-in-None.ensures.value
    ∙ plain_priority c.args.text.now (strip_prefix_char 45 c.args.text.now None c.in-None.ensures.cases (lit< tt))
