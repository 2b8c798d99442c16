use Rattle.std.proofs.Common.{◌∙◌, ◌<◌, ap, arith, length}
use Rattle.std.proofs.lemmas.List.{length-map}
use Rattle.std.specs.Arc.{arc_value}
use Rattle.xs_structure.proofs.ScopeLemmas.{scope-got}
use Rattle.xs_structure.specs.Scopes.{pairs_in}
use Rattle.xs_structure.proofs.scopes.Scopes.at.Goals as goal

pub index-requires : goal.index-requires
index-requires c =
    let table = c.args.self.now.of_nodes in
    let size = length-map table.items (λ scope. pairs_in (arc_value scope)) in
    omega (arith, size, c.requires, c.place.ensures, table.ok.0)

pub returns : goal.returns
returns c =
    let items = c.args.self.now.of_nodes.items in
    let size = length-map items (λ scope. pairs_in (arc_value scope)) in
    let inside : c.place.result < length items = omega (arith, size, c.requires, c.place.ensures) in
    ap pairs_in c.in_ok-try_clone.ensures
    ∙ scope-got (λ scope. pairs_in (arc_value scope)) items c.place.result c.args.n c.index.result.now inside c.place.ensures c.index.ensures
