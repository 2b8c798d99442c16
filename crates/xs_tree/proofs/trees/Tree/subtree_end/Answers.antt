-- An entry keeps where its node's subtree ends.
use Rattle.std.proofs.Common.{arith, refl, ◌≡◌, ◌<◌, ◌∙◌, ap, sym, length, Some, slice_get}
use Rattle.std.proofs.lemmas.Option.{slice_get_read}
use Rattle.xs_tree.specs.View.{records, IsEnd}
use Rattle.xs_tree.proofs.EntryLemmas.{length-records}
use Rattle.xs_tree.proofs.EndLemmas.{EndsAt-open, EndsAt-closed}
use Rattle.xs_tree.proofs.trees.Tree.subtree_end.Goals as goal

pub returns-then-end-eq0-clause-end : goal.returns-then-end-eq0-clause-end
returns-then-end-eq0-clause-end c =
    let long : length (records c.self.inside) ≡ length c.self.inside.nodes.items = length-records c.self.inside in
    let within : c.place.result < length c.self.inside.nodes.items = omega (arith, c.requires, c.place.ensures, long, ap length c.self.view_is) in
    let here : slice_get c.self.inside.nodes.items c.place.result ≡ Some c.index.result.now =
    slice_get_read c.self.inside.nodes.items _ c.place.result c.index.result.now refl within c.index.ensures in
    let end_is : IsEnd (records c.self.inside) c.place.result c.index.result.now.end = c.self.invariant.ends c.place.result c.index.result.now here in
    let count_is : c.len.result ≡ length (records c.self.inside) = c.len.ensures ∙ c.self.inside.nodes.ok.0 ∙ sym long in
    rw (← c.self.view_is, ← c.place.ensures, count_is)
    (EndsAt-open (records c.self.inside) c.place.result c.index.result.now.end (omega (arith, within, long)) end_is c.if-end-eq0.true)

pub returns-else-end-eq0-clause-end : goal.returns-else-end-eq0-clause-end
returns-else-end-eq0-clause-end c =
    let long : length (records c.self.inside) ≡ length c.self.inside.nodes.items = length-records c.self.inside in
    let within : c.place.result < length c.self.inside.nodes.items = omega (arith, c.requires, c.place.ensures, long, ap length c.self.view_is) in
    let here : slice_get c.self.inside.nodes.items c.place.result ≡ Some c.index.result.now =
    slice_get_read c.self.inside.nodes.items _ c.place.result c.index.result.now refl within c.index.ensures in
    let end_is : IsEnd (records c.self.inside) c.place.result c.index.result.now.end = c.self.invariant.ends c.place.result c.index.result.now here in
    rw (← c.self.view_is, ← c.place.ensures)
    (EndsAt-closed (records c.self.inside) c.place.result c.index.result.now.end end_is c.if-end-eq0.false)
