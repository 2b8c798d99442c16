use Rattle.std.proofs.Common.{◌∙◌, List, [], Option, ap, subst, sym, length, map}
use Rattle.std.specs.List.{All}
use Rattle.std.specs.Option.{option_to_list}
use Rattle.xs_modules.specs.declared.modules.Module.{Module}
use Rattle.xs_modules.specs.Results.{module_data, modules_data}
use Rattle.xs_static.proofs.FirstFaultLemmas.{first_in_places}
use Rattle.xs_static.specs.declared.fault.StaticFault.{StaticFault}
use Rattle.xs_static.specs.steps.Declared.{names_faults}
use Rattle.xs_static.specs.steps.Found.{modules_faults}
use Rattle.xs_static.specs.steps.Least.{least_of}
use Rattle.xs_static.specs.steps.Whole.{AreTrees}
use Rattle.xs_structure.specs.Places.{IsIn}
use Rattle.xs_static.proofs.fault.first_fault.Goals as goal

pub of-requires-clause-inside : goal.of-requires-clause-inside
of-requires-clause-inside c =
    subst (All (IsIn (modules_data c.args.modules.now))) (sym c.deref.ensures.value) c.in_ok-declared.ensures.inside

pub first_circle-requires-clause-inside : goal.first_circle-requires-clause-inside
first_circle-requires-clause-inside c =
    subst (All (IsIn (modules_data c.args.modules.now))) (sym c.deref-3.ensures.value) c.in_ok-declared.ensures.inside

-- the least of all that was met is the first
pub returns : goal.returns
returns c =
    let ms = modules_data c.args.modules.now in
    let names = c.in_ok-names.names in
    let places = c.deref.result.now in
    let circle = c.in_ok-first_circle.field-0 in
    record {
      first = first_in_places ms names places c.meet_fault.new.self.fault circle
          (subst (λ (xs : List Module). AreTrees (map module_data xs)) c.deref-2.ensures.value c.in_ok-walked.ensures.trees)
          c.requires.sound.some (c.deref.ensures.value ∙ c.in_ok-declared.ensures.places) c.in_ok-names.ensures.names c.in_ok-first_circle.ensures
          (c.meet_fault.ensures
          ∙ ap (λ (o : Option StaticFault). least_of o (option_to_list circle))
          (c.in_ok-walked.ensures.faults
          ∙ ap (λ (xs : List Module). least_of c.of.new.least.fault (modules_faults (map module_data xs) names (length (map module_data xs))))
          c.deref-2.ensures.value
          ∙ ap (λ (o : Option StaticFault). least_of o (modules_faults ms names (length ms)))
          (c.in_ok-names.ensures.faults
          ∙ ap (λ (o : Option StaticFault). least_of o (names_faults ms [] places)) c.none-least.ensures)));
    }
