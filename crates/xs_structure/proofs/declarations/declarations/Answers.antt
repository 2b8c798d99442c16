use Rattle.std.proofs.Common.{◌∙◌, ◌++◌, ap, map, List}
use Rattle.std.proofs.lemmas.List.Elements.{All-same}
use Rattle.xs_structure.proofs.DeclarationLemmas.{declared_inside}
use Rattle.xs_structure.specs.Order.{declarations_from}
use Rattle.xs_structure.specs.Places.{IsIn}
use Rattle.xs_modules.specs.declared.modules.Module.{Module}
use Rattle.xs_modules.specs.Results.{module_data, modules_data}
use Rattle.xs_structure.specs.Modules.{Place}
use Rattle.xs_structure.proofs.declarations.declarations.Goals as goal

pub returns-clause-inside : goal.returns-clause-inside
returns-clause-inside c =
    let ms = modules_data c.args.modules.now in
    let depth = c.len.result in
    All-same (IsIn ms) c.push_declarations.new.out.items (declarations_from depth ms 0)
    (c.in_ok-push_declarations.ensures
    ∙ ap (λ (ps : List Place). ps ++ declarations_from depth (map module_data c.deref.result.now) 0) c.new-out.ensures.items
    ∙ ap (λ (xs : List Module). declarations_from depth (map module_data xs) 0) c.deref.ensures.value)
    (declared_inside ms depth 0 c.requires.sound.some)
