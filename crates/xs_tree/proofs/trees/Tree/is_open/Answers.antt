-- An entry keeps whether its node is open.
use Rattle.std.proofs.Common.{arith, refl, ◌≡◌, ◌<◌, ◌↔◌, ap, length, Some, slice_get}
use Rattle.std.proofs.lemmas.Bool.{eqb-true, eq-eqb}
use Rattle.std.proofs.lemmas.Option.{slice_get_read}
use Rattle.xs_tree.specs.Shape.{IsOpen}
use Rattle.xs_tree.specs.View.{records, IsEnd}
use Rattle.xs_tree.proofs.EntryLemmas.{length-records}
use Rattle.xs_tree.proofs.EndLemmas.{IsOpen-end}
use Rattle.xs_tree.proofs.trees.Tree.is_open.Goals as goal

pub returns : goal.returns
returns c =
    let long : length (records c.self.inside) ≡ length c.self.inside.nodes.items = length-records c.self.inside in
    let within : c.place.result < length c.self.inside.nodes.items = omega (arith, c.requires, c.place.ensures, long, ap length c.self.view_is) in
    let here : slice_get c.self.inside.nodes.items c.place.result ≡ Some c.index.result.now =
    slice_get_read c.self.inside.nodes.items _ c.place.result c.index.result.now refl within c.index.ensures in
    let end_is : IsEnd (records c.self.inside) c.place.result c.index.result.now.end = c.self.invariant.ends c.place.result c.index.result.now here in
    let reported : (c.index.result.now.end ≡ 0) ↔ IsOpen c.args.self.now c.args.n =
    rw (← c.self.view_is, ← c.place.ensures) (IsOpen-end (records c.self.inside) c.place.result c.index.result.now.end end_is) in
    (λ h. reported.0 (eqb-true c.index.result.now.end 0 h), λ o. eq-eqb c.index.result.now.end 0 (reported.1 o))
