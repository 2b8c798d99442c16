use Rattle.std.proofs.Common.{◌≡◌, List, Some, arith, length, refl, slice_get, take}
use Rattle.std.proofs.lemmas.Option.{slice_get_read}
use Rattle.xs_sheet.specs.declared.declarations.Template.{Template}
use Rattle.xs_rules.specs.Rules.{candidates}
use Rattle.xs_rules.proofs.IndexLemmas.{template-more}
use Rattle.xs_rules.proofs.entries.entries_of.Goals as goal

pub loop-number-preserved : goal.loop-number-preserved
loop-number-preserved c =
    let ts : List Template = c.args.templates.now in
    let t : Template = c.index-templates-number.result in
    let of_number : slice_get ts c.loop-number.number ≡ Some t =
    slice_get_read ts (length ts) c.loop-number.number t refl (omega (arith, c.loop-number-test.true)) c.index-templates-number.is in
    template-more ts c.loop-number.number t c.add_template.new.entries.items of_number
    (c.in_ok-add_template.ensures.entries ts (candidates (take c.loop-number.number ts)) of_number c.loop-number.invariant)
