use Rattle.std.proofs.Common.{◌≡◌, ◌∙◌, ◌<◌, [], ap, arith, length, map, List, Option, Vec}
use Rattle.std.proofs.lemmas.List.{length-map}
use Rattle.std.specs.declared.alloc.Global.{Global}
use Rattle.std.specs.Option.{option_map_or}
use Rattle.xs_structure.proofs.PassingLemmas.{get_map}
use Rattle.xs_structure.specs.declared.standing.Standing.{Standing}
use Rattle.xs_structure.specs.Modules.{records_at}
use Rattle.xs_structure.specs.Scopes.{scopes_in, scopes_of}
use Rattle.xs_structure.specs.Standing.{standing_of}
use Rattle.xs_compile.proofs.StateLemmas.{table-in}
use Rattle.xs_compile.proofs.ZipLemmas.{tables-more}
use Rattle.xs_modules.specs.Numbering.{ModuleData}
use Rattle.xs_modules.specs.Results.{module_data, modules_data}
use Rattle.xs_tree.specs.Record.{places}
use Rattle.xs_compile.proofs.compiler.all_standings.Goals as goal

pub standings-requires : goal.standings-requires
standings-requires c =
    let list = c.args.modules.now.list.items in
    let ms = modules_data c.args.modules.now in
    let i = c.loop-number.number in
    let lt : i < length list = omega (arith, c.loop-number-test.true, c.len-number-end.ensures) in
    let inside : i < length ms = omega (arith, lt, length-map list module_data) in
    let records : records_at ms i ≡ c.index.result.now.tree =
    ap (λ (o : Option ModuleData). option_map_or (λ d. d.records) o []) (get_map module_data list i c.index.result.now lt c.index.ensures) in
    record {
      scopes = table-in scopes_of scopes_in ms c.args.scopes.now c.requires i inside c.index-scopes-number.result c.index-scopes-number.is
          ∙ ap scopes_of records;
    }

pub loop-number-preserved : goal.loop-number-preserved
loop-number-preserved c =
    let list = c.args.modules.now.list.items in
    let ms = modules_data c.args.modules.now in
    let i = c.loop-number.number in
    let d = module_data c.index.result.now in
    let lt : i < length list = omega (arith, c.loop-number-test.true, c.len-number-end.ensures) in
    let inside : i < length ms = omega (arith, lt, length-map list module_data) in
    let items : Vec Standing Global → List Standing = λ table. table.items in
    let of : ModuleData → List Standing = λ d. map (standing_of d.records) (places d.records) in
    ap (map items) c.in_ok-push.ensures.items
    ∙ tables-more of items ms c.loop-number.all.items i d c.in_ok-standings.field-0 inside
    (get_map module_data list i c.index.result.now lt c.index.ensures) c.loop-number.invariant c.in_ok-standings.ensures
