use Rattle.std.proofs.Common.{◌≡◌, ◌≤◌, ◌-◌, ◌++◌, map, ap, ◌∙◌, arith}
use Rattle.std.specs.List.{flat_map, range_with_len}
use Rattle.xs_elements.specs.Nodes.{name_data}
use Rattle.xs_static.specs.steps.Circles.{seen_sets}
use Rattle.xs_static.proofs.SetLemmas.{own-range, sets-more}
use Rattle.xs_static.proofs.sets.push_sets_within.Goals as goal

pub loop-place-preserved : goal.loop-place-preserved
loop-place-preserved c =
    let low : c.args.n ≤ c.loop-place.place = omega (arith, c.place-place.ensures, c.loop-place.auto.place) in
    sets-more c.args.tree.now c.args.n c.loop-place.place (map name_data c.args.out.now.items) (map name_data c.loop-place.out.items)
    (map name_data c.push_seen_sets.new.out.items) low c.loop-place.invariant
    (c.in_ok-push_seen_sets.ensures ∙ ap (λ k. map name_data c.loop-place.out.items ++ seen_sets c.args.tree.now k) c.at.ensures)

pub returns : goal.returns
returns c =
    let rs = c.args.tree.now in
    let e = c.subtree_end-end.result in
    let before = map name_data c.args.out.now.items in
    let same : c.loop-place.place ≡ e = omega (arith, c.place-place.ensures, c.subtree_end-end.ensures.end.after) in
    c.loop-place.invariant ∙ ap (λ k. before ++ flat_map (seen_sets rs) (range_with_len c.args.n (k - c.args.n))) same
    ∙ ap (λ xs. before ++ xs) (own-range rs c.args.n e c.subtree_end-end.ensures.tree c.requires.inside c.subtree_end-end.ensures.end)
