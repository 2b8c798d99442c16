use Rattle.std.proofs.Common.{◌≡◌, ◌++◌, List, map, subst, sym, OnOk, ◌<◌, length, arith}
use Rattle.std.proofs.lemmas.List.{length-map}
use Rattle.xs_static.specs.Circles.{Declared}
use Rattle.xs_static.specs.Declarations.{declared}
use Rattle.xs_modules.specs.Results.{module_data, modules_data}
use Rattle.xs_static.proofs.SetLemmas.{walked-at, module-at, declaration-at}
use Rattle.xs_static.proofs.sets.push_declaration.Goals as goal

pub push_in-requires-clause-walked : goal.push_in-requires-clause-walked
push_in-requires-clause-walked c =
    let lt : c.args.place.0 < length c.args.modules.now.list.items =
    omega (arith, c.requires.inside.«module», length-map c.args.modules.now.list.items module_data) in
    walked-at c.args.modules.now.list.items c.args.walked.now c.args.place.0 c.index-module.result.now c.index-walked-number.result lt
    c.index-module.ensures c.index-walked-number.is c.requires.walked

pub returns : goal.returns
returns c =
    let lt : c.args.place.0 < length c.args.modules.now.list.items =
    omega (arith, c.requires.inside.«module», length-map c.args.modules.now.list.items module_data) in
    let P : List Declared → Type 0 = λ xs. OnOk c.push_in.result (map declared c.push_in.new.out.items ≡ map declared c.args.out.now.items ++ xs) in
    subst P (sym (declaration-at (modules_data c.args.modules.now) c.args.place (module_data c.index-module.result.now)
    (module-at c.args.modules.now.list.items c.args.place.0 c.index-module.result.now lt c.index-module.ensures))) c.push_in.ensures
