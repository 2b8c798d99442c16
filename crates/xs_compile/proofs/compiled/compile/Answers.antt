use Rattle.std.proofs.Common.{◌∙◌, ◌<◌, ◌^◌, None, length, subst, List}
use Rattle.xs_compile.proofs.SoundLemmas.{sheet_sound}
use Rattle.xs_structure.specs.Order.{declarations}
use Rattle.xs_modules.specs.Results.{modules_data}
use Rattle.xs_static.specs.Faults.{IsFirstFault}
use Rattle.xs_structure.specs.Modules.{Place}
use Rattle.xs_compile.proofs.compiled.compile.Goals as goal

-- what represents modules without a fault is sound
pub returns : goal.returns
returns c =
    let ms = modules_data c.args.modules.now in
    let sheet = c.in_ok-sheet_of.field-0 in
    let accepted : IsFirstFault ms None = subst (IsFirstFault ms) c.in_default.is c.in_ok-fault.ensures.first in
    let few : length (declarations ms) < 2 ^ 32 =
    subst (λ (ps : List Place). length ps < 2 ^ 32) (c.deref.ensures.value ∙ c.in_ok-declared.ensures.places) c.in_ok-check_few.ensures in
    record {
      accepted = accepted;
      stands = c.in_ok-sheet_of.ensures;
      sound = sheet_sound ms sheet c.requires.sound c.modules_are_trees.ensures accepted c.in_ok-sheet_of.ensures few;
    }
