-- A node that stays takes a place.
use Rattle.std.proofs.Common.{◌+◌, ◌∙◌, ap, sym}
use Rattle.xs_tree.specs.Stripping.{stays}
use Rattle.xs_tree.proofs.PlaceLemmas.{place-false, place-true}
use Rattle.xs_tree.proofs.trees.Tree.place_after.Goals as goal

pub returns-then-stays-clause-next : goal.returns-then-stays-clause-next
returns-then-stays-clause-next c =
    ap (λ x. x + 1) c.requires.place
    ∙ sym (place-true (stays c.args.flagged.now c.args.self.now) c.args.node (sym c.stays.ensures ∙ c.if-stays.true))

pub returns-else-stays-clause-next : goal.returns-else-stays-clause-next
returns-else-stays-clause-next c =
    c.requires.place ∙ sym (place-false (stays c.args.flagged.now c.args.self.now) c.args.node (sym c.stays.ensures ∙ c.if-stays.false))
