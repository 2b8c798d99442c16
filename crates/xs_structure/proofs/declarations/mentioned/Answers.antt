use Rattle.std.proofs.Common.{◌∙◌, ap, sym, length, map, Option, arith, false}
use Rattle.std.specs.Option.{option_map_or}
use Rattle.xs_modules.specs.Numbering.{ModuleData}
use Rattle.xs_modules.specs.Results.{module_data}
use Rattle.xs_structure.proofs.PassingLemmas.{find_more, get_map}
use Rattle.xs_structure.specs.Modules.{Place, is_mentioned_by, is_same_place}
use Rattle.xs_structure.proofs.declarations.mentioned.Goals as goal

-- a module that is not mentioned is passed
pub loop-other-preserved : goal.loop-other-preserved
loop-other-preserved c =
    let modules = c.args.modules.now in
    let place : Place = (c.args.number, c.args.n) in
    sym (find_more (is_mentioned_by (map module_data modules) place) c.loop-other.other (length modules) (omega (arith, c.loop-other-test.true))
    (ap (λ (o : Option ModuleData). option_map_or (λ d. option_map_or (is_same_place place) d.mention false) o false)
    (get_map module_data modules c.loop-other.other c.index-modules-other.result (omega (arith, c.loop-other-test.true)) c.index-modules-other.is)
    ∙ sym c.is_mentioned_by.ensures
    ∙ c.if-is_mentioned_by.false))
    ∙ c.loop-other.invariant
