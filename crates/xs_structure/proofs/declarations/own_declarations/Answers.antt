use Rattle.std.proofs.Common.{◌∙◌, ◌++◌, ◌∷◌, [], ℕ, ap}
use Rattle.std.specs.Prelude.{if◌then◌else◌}
use Rattle.xs_structure.proofs.PassingLemmas.{passing_more}
use Rattle.xs_structure.specs.Order.{is_declaration}
use Rattle.xs_structure.proofs.declarations.own_declarations.Goals as goal

-- one place more
pub loop-place-preserved : goal.loop-place-preserved
loop-place-preserved c =
    let old = c.loop-place.found.items in
    passing_more (is_declaration c.args.tree.now) c.loop-place.place old c.push_if_declared.new.found.items c.loop-place.invariant
    (c.in_ok-push_if_declared.ensures
    ∙ ap (λ (k : ℕ). if is_declaration c.args.tree.now k then old ++ k ∷ [] else old) c.at.ensures)
