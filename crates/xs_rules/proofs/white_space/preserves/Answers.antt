use Rattle.std.proofs.Common.{ℕ, ◌<◌, false, ap, get_or, length, subst, sym, ◌∙◌}
use Rattle.xs_tree.proofs.WalkLemmas.{IsPlaced-at}
use Rattle.xs_rules.specs.WhiteSpace.{preserves}
use Rattle.xs_rules.proofs.WhiteSpaceLemmas.{known-at, known-within, said-preserve, unsaid-parent, unsaid-root}
use Rattle.xs_rules.proofs.white_space.preserves.Goals as goal

pub bounds-kept-place : goal.bounds-kept-place
bounds-kept-place c =
    let rs = c.args.tree.now in
    let p = c.in-Some-parent.parent in
    let placed = IsPlaced-at rs c.args.node p c.in-Some-parent.ensures.tree c.requires.node (sym c.in-Some-parent.ensures.parent) in
    subst (λ (k : ℕ). k < length c.args.kept.now) (sym c.place.ensures)
    (known-within (preserves rs) c.args.kept.now c.args.node p c.requires.kept placed.before)

pub returns-in-Some : goal.returns-in-Some
returns-in-Some c = said-preserve c.args.tree.now c.args.node c.in-Some.is_preserved c.requires.tree c.requires.node (sym c.in-Some.ensures)

pub returns-in-Some-parent : goal.returns-in-Some-parent
returns-in-Some-parent c =
    let rs = c.args.tree.now in
    let p = c.in-Some-parent.parent in
    let placed = IsPlaced-at rs c.args.node p c.in-Some-parent.ensures.tree c.requires.node (sym c.in-Some-parent.ensures.parent) in
    ap (λ (k : ℕ). get_or c.args.kept.now k false) c.place.ensures
    ∙ known-at (preserves rs) c.args.kept.now c.args.node p c.requires.kept placed.before
    ∙ unsaid-parent rs c.args.node p c.in-Some-parent.ensures.tree c.requires.node (sym c.in-None.ensures) (sym c.in-Some-parent.ensures.parent)

pub returns-in-None-parent : goal.returns-in-None-parent
returns-in-None-parent c =
    unsaid-root c.args.tree.now c.args.node c.in-None-parent.ensures.tree c.requires.node (sym c.in-None.ensures) (sym c.in-None-parent.ensures.parent)
