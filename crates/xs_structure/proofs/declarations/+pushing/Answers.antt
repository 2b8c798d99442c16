use Rattle.std.proofs.Common.{◌∙◌, ◌++◌, ℕ, List, ap, sym, map, Option, arith, []}
use Rattle.std.proofs.lemmas.List.{append-nil}
use Rattle.std.specs.Option.{option_map_or}
use Rattle.xs_modules.specs.declared.modules.Module.{Module}
use Rattle.xs_modules.specs.Numbering.{ModuleData}
use Rattle.xs_modules.specs.Results.{module_data}
use Rattle.xs_structure.proofs.DeclarationLemmas.{declarations_end, declarations_none}
use Rattle.xs_structure.specs.Order.{declarations_from, own_declarations}
use Rattle.xs_structure.proofs.PassingLemmas.{get_map}
use Rattle.xs_structure.specs.Modules.{Place}
use Rattle.xs_structure.proofs.declarations.+pushing.Goals as goal

-- no mention is so deep
pub push_declarations-returns-then-depth-eq0 : goal.push_declarations-returns-then-depth-eq0
push_declarations-returns-then-depth-eq0 t c =
    let ms = map module_data c.args.modules.now in
    let old = c.args.out.now.items in
    sym (append-nil old)
    ∙ ap (λ (ps : List Place). old ++ ps) (sym (declarations_none ms c.args.number))
    ∙ ap (λ (d : ℕ). old ++ declarations_from d ms c.args.number) (sym c.if-depth-eq0.true)

pub push_declarations-returns : goal.push_declarations-returns
push_declarations-returns t c =
    let ms = map module_data c.args.modules.now in
    declarations_end c.args.depth ms c.args.number c.loop-element.element-index c.deref-element-items.result.now c.args.out.now.items
    c.loop-element.out.items (omega (arith, c.if-depth-eq0.false)) (omega (arith, c.loop-element-test.false))
    (c.deref-element-items.ensures.value ∙ c.in_ok-elements.ensures
    ∙ ap (λ (m : Module). own_declarations m.tree) (sym c.index-modules-number.is)
    ∙ ap own_declarations (sym (ap (λ (o : Option ModuleData). option_map_or (λ d. d.records) o [])
    (get_map module_data c.args.modules.now c.args.number c.index-modules-number.result (omega (arith, c.requires.inside)) c.index-modules-number.is))))
    c.loop-element.invariant
