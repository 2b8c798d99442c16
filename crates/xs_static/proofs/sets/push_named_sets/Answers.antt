use Rattle.std.proofs.Common.{◌≡◌, ◌∙◌, ◌++◌, List, Option, [], ℕ, map, ap, subst, OnOk}
use Rattle.std.specs.Option.{option_map_or}
use Rattle.xs_elements.specs.Nodes.{Name, name_data, scope_at}
use Rattle.xs_static.specs.Sets.{names_in, named_sets}
use Rattle.xs_static.proofs.sets.push_named_sets.Goals as goal

-- the scope of the node is that of the table
pub returns-in-Some : goal.returns-in-Some
returns-in-Some c =
    let rs = c.args.tree.now in
    let value = c.in-Some.value.now in
    let same : names_in c.get.result.now.pairs.items value ≡ named_sets rs c.args.n =
    ap (λ (ps : List (List ℕ × List ℕ)). names_in ps value) c.get.ensures
    ∙ ap (λ (o : Option (List ℕ)). option_map_or (names_in (scope_at rs c.args.n)) o []) c.in-Some.ensures in
    let P : List Name → Type 0 = λ xs. OnOk c.push_names.result (map name_data c.push_names.new.out.items ≡ map name_data c.args.out.now.items ++ xs) in
    subst P same c.push_names.ensures
