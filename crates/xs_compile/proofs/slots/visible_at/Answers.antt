use Rattle.std.proofs.Common.{◌∙◌, ap, sym, get_or}
use Rattle.xs_compile.proofs.LocalLemmas.{visible-counted}
use Rattle.xs_compile.proofs.OpenLemmas.{none-visible}
use Rattle.xs_compile.proofs.slots.visible_at.Goals as goal

pub returns-in-Some : goal.returns-in-Some
returns-in-Some c =
    ap (λ k. get_or c.args.counts.now k 0) c.place.ensures
    ∙ visible-counted c.args.tree.now c.len-count.ensures.tree c.args.n c.in-Some.parent 0 c.args.counts.now c.requires.inside
    (sym c.in-Some.ensures.parent) c.requires.counts

pub returns-in-None : goal.returns-in-None
returns-in-None c = sym (none-visible c.args.tree.now c.args.n c.requires.inside (sym c.in-None.ensures.parent))
