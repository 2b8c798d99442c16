use Rattle.std.proofs.Common.{◌≡◌, ◌∙◌, ◌<◌, ◌+◌, ap, arith, length, map, subst, sym, take, List, Option, []}
use Rattle.std.proofs.lemmas.List.{length-map}
use Rattle.std.specs.List.{AllZip}
use Rattle.std.specs.Option.{option_map_or}
use Rattle.xs_structure.proofs.PassingLemmas.{get_map}
use Rattle.xs_compile.proofs.StateLemmas.{standings-in}
use Rattle.xs_compile.proofs.ZipLemmas.{item-got, zip-more}
use Rattle.xs_structure.specs.Standing.{standing_of}
use Rattle.xs_compile.specs.steps.Tables.{HasLocals}
use Rattle.xs_modules.specs.Numbering.{ModuleData}
use Rattle.xs_modules.specs.Results.{module_data, modules_data}
use Rattle.xs_structure.specs.Modules.{records_at}
use Rattle.xs_tree.specs.Record.{Record, places}
use Rattle.xs_compile.proofs.compiler.all_locals.Goals as goal

pub of-requires : goal.of-requires
of-requires c =
    let list = c.args.modules.now.list.items in
    let ms = modules_data c.args.modules.now in
    let i = c.loop-number.number in
    let lt : i < length list = omega (arith, c.loop-number-test.true, c.len-number-end.ensures) in
    let inside : i < length ms = omega (arith, lt, length-map list module_data) in
    let records : records_at ms i ≡ c.index.result.now.tree =
    ap (λ (o : Option ModuleData). option_map_or (λ d. d.records) o []) (get_map module_data list i c.index.result.now lt c.index.ensures) in
    c.deref.ensures.value
    ∙ standings-in (λ table. table.items) ms c.args.standings.now c.requires i inside c.index-standings-number.result c.index-standings-number.is
    ∙ ap (λ (rs : List Record). map (standing_of rs) (places rs)) records

pub loop-number-preserved : goal.loop-number-preserved
loop-number-preserved c =
    let list = c.args.modules.now.list.items in
    let ms = modules_data c.args.modules.now in
    let i = c.loop-number.number in
    let d = module_data c.index.result.now in
    let lt : i < length list = omega (arith, c.loop-number-test.true, c.len-number-end.ensures) in
    let inside : i < length ms = omega (arith, lt, length-map list module_data) in
    subst (λ found. AllZip HasLocals (take (i + 1) ms) found) (sym c.in_ok-push.ensures.items)
    (zip-more HasLocals ms c.loop-number.all.items i d c.in_ok-of.field-0 inside
    (item-got ms i d (get_map module_data list i c.index.result.now lt c.index.ensures)) c.loop-number.invariant
    (record { tree = c.len-count.ensures.tree; locals = c.in_ok-of.ensures }))
