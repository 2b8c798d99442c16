use Rattle.std.proofs.Common.{◌≡◌, ◌∙◌, ◌<◌, ◌+◌, ◌++◌, ◌∷◌, [], ap, sym, subst, arith, length, length-append, get_or, set, get_or-set_other, get_or-set_same}
use Rattle.std.proofs.lemmas.List.{length-set}
use Rattle.xs_compile.proofs.LocalLemmas.{counts-binding, counts-other, counts-rootless}
use Rattle.xs_compile.proofs.ReachLemmas.{parent-before}
use Rattle.xs_compile.specs.steps.Locals.{AreCounts}
use Rattle.xs_compile.proofs.slots.count.Goals as goal

pub returns-then-not-binds : goal.returns-then-not-binds
returns-then-not-binds c =
    let rs = c.args.tree.now in
    subst (AreCounts rs (c.args.n + 1)) (sym c.in_ok-push.ensures.items)
    (counts-other rs c.len-count.ensures.tree c.args.n c.args.counts.now.items c.args.visible c.requires.inside c.requires.counts c.requires.visible
    (sym c.requires.binds ∙ c.if-not-binds.true))

pub returns-in_ok-counts-in-Some : goal.returns-in_ok-counts-in-Some
returns-in_ok-counts-in-Some c =
    let rs = c.args.tree.now in
    let old = c.args.counts.now.items in
    let pushed = old ++ c.args.visible ∷ [] in
    let items = c.push.new.self.items in
    let p = c.in-Some.parent in
    let more = c.in_ok-counts-in-Some.field-0 in
    let before = parent-before rs c.len-count.ensures.tree c.args.n p c.requires.inside (sym c.in-Some.ensures.parent) in
    let size : length items ≡ length old + 1 = ap length c.in_ok-push.ensures.items ∙ length-append old (c.args.visible ∷ []) in
    let within : p < length items = omega (arith, before, size, c.requires.counts.size) in
    subst (λ k. AreCounts rs (c.args.n + 1) (set items k more)) (sym c.place.ensures)
    (counts-binding rs c.len-count.ensures.tree c.args.n old c.args.visible more p c.requires.inside c.requires.counts c.requires.visible
    c.in_ok-counts-in-Some.ensures (sym c.requires.binds ∙ c.if-not-binds.false) (sym c.in-Some.ensures.parent) (set items p more)
    (length-set items p more ∙ size) (get_or-set_same items p more 0 within)
    (λ a other. get_or-set_other items p a more 0 other ∙ ap (λ xs. get_or xs a 0) c.in_ok-push.ensures.items))

pub returns-in-None : goal.returns-in-None
returns-in-None c =
    let rs = c.args.tree.now in
    subst (AreCounts rs (c.args.n + 1)) (sym c.in_ok-push.ensures.items)
    (counts-rootless rs c.len-count.ensures.tree c.args.n c.args.counts.now.items c.args.visible c.requires.inside c.requires.counts c.requires.visible
    (sym c.in-None.ensures.parent))
