use Rattle.std.proofs.Common.{◌∙◌, ◌<◌, ap, arith, get_or, length, ℕ}
use Rattle.std.proofs.lemmas.List.{length-map}
use Rattle.xs_structure.proofs.PassingLemmas.{get_map}
use Rattle.xs_compile.proofs.RootLemmas.{first_is, no_root_line, root_line_is}
use Rattle.xs_modules.specs.Numbering.{ModuleData}
use Rattle.xs_modules.specs.Results.{module_data, modules_data}
use Rattle.xs_modules.specs.Sound.{HasLines}
use Rattle.xs_compile.proofs.compiled.root_line.Goals as goal

pub index-requires : goal.index-requires
index-requires c =
    let first = c.index-first.result.now in
    let ms = modules_data c.args.modules.now in
    let some : 0 < length c.args.modules.now.list.items =
    omega (arith, c.requires.sound.some, length-map c.args.modules.now.list.items module_data) in
    let here = get_map module_data c.args.modules.now.list.items 0 first some c.index-first.ensures in
    let lines = first_is (λ (d : ModuleData). HasLines d.records d.lines) ms (module_data first) here c.requires.sound.documents in
    omega (arith, lines.each, c.place.ensures, c.in-Some.ensures.inside, first.lines.ok.0)

pub returns-in-Some : goal.returns-in-Some
returns-in-Some c =
    let first = c.index-first.result.now in
    let ms = modules_data c.args.modules.now in
    let some : 0 < length c.args.modules.now.list.items =
    omega (arith, c.requires.sound.some, length-map c.args.modules.now.list.items module_data) in
    let here = get_map module_data c.args.modules.now.list.items 0 first some c.index-first.ensures in
    let lines = first_is (λ (d : ModuleData). HasLines d.records d.lines) ms (module_data first) here c.requires.sound.documents in
    root_line_is ms (module_data first) c.in-Some.element c.index.result.now here c.in-Some.ensures.found
    (c.index.ensures ∙ ap (λ (n : ℕ). get_or first.lines.items n c.index.result.now) c.place.ensures)
    (omega (arith, lines.each, c.in-Some.ensures.inside))

pub returns-in-None : goal.returns-in-None
returns-in-None c =
    let first = c.index-first.result.now in
    let ms = modules_data c.args.modules.now in
    let some : 0 < length c.args.modules.now.list.items =
    omega (arith, c.requires.sound.some, length-map c.args.modules.now.list.items module_data) in
    no_root_line ms (module_data first) (get_map module_data c.args.modules.now.list.items 0 first some c.index-first.ensures) c.in-None.ensures.found
