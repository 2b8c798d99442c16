use Rattle.std.proofs.Common.{◌∙◌, ◌<◌, [], ap, arith, length, List, ℕ}
use Rattle.std.proofs.lemmas.List.{length-map}
use Rattle.std.proofs.lemmas.List.FromFn.{get_or-map-range_with_len, length-map-range_with_len}
use Rattle.std.specs.Arc.{arc_value}
use Rattle.std.specs.Prelude.{get_or}
use Rattle.xs_elements.specs.Nodes.{scope_at}
use Rattle.xs_structure.proofs.ScopeLemmas.{scope-got}
use Rattle.xs_structure.specs.Scopes.{pairs_in}
use Rattle.xs_structure.proofs.scopes.Scopes.get.Goals as goal

pub index-requires : goal.index-requires
index-requires c =
    let table = c.args.self.now.of_nodes in
    let rs = c.args.tree.now in
    let size = length-map table.items (λ scope. pairs_in (arc_value scope)) in
    let whole = ap length c.requires.scopes ∙ length-map-range_with_len (scope_at rs) 0 (length rs) in
    omega (arith, size, whole, c.requires.inside, c.place.ensures, table.ok.0)

pub returns : goal.returns
returns c =
    let items = c.args.self.now.of_nodes.items in
    let rs = c.args.tree.now in
    let size = length-map items (λ scope. pairs_in (arc_value scope)) in
    let whole = ap length c.requires.scopes ∙ length-map-range_with_len (scope_at rs) 0 (length rs) in
    let inside : c.place.result < length items = omega (arith, size, whole, c.requires.inside, c.place.ensures) in
    ap pairs_in c.deref.ensures
    ∙ scope-got (λ scope. pairs_in (arc_value scope)) items c.place.result c.args.n c.index.result.now inside c.place.ensures c.index.ensures
    ∙ ap (λ (ps : List (List (List ℕ × List ℕ))). get_or ps c.args.n []) c.requires.scopes
    ∙ get_or-map-range_with_len (scope_at rs) 0 (length rs) c.args.n c.args.n [] c.requires.inside (omega arith)
