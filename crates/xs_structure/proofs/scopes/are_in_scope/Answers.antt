use Rattle.std.proofs.Common.{◌∙◌, ◌++◌, ◌∷◌, [], ap, append_assoc, map, sym, ℕ, List}
use Rattle.xs_structure.proofs.ScopeLemmas.{none-left}
use Rattle.xs_elements.specs.Nodes.{pair_at}
use Rattle.xs_tree.proofs.NamespaceLemmas.{namespace-within}
use Rattle.xs_structure.proofs.scopes.are_in_scope.Goals as goal

-- the namespace node that comes next is in the tree
pub behind-requires : goal.behind-requires
behind-requires c =
    namespace-within c.args.tree.now c.args.n c.loop-space.yielded _ c.in-Some.space
    (sym c.loop-space.invariant.2 ∙ ap (λ (xs : List ℕ). c.loop-space.yielded ++ xs) c.in-Some.ensures.steps)

pub loop-space-preserved : goal.loop-space-preserved
loop-space-preserved c =
    let rs = c.args.tree.now in (
      tt,
      tt,
      append_assoc c.loop-space.yielded (c.in-Some.space ∷ []) c.next.new.self
          ∙ ap (λ (xs : List ℕ). c.loop-space.yielded ++ xs) (sym c.in-Some.ensures.steps) ∙ c.loop-space.invariant.2,
      λ h. c.loop-space.invariant.3
          (ap (map (pair_at rs)) c.in-Some.ensures.steps ∙ ap (λ (ps : List (List ℕ × List ℕ)). pair_at rs c.in-Some.space ∷ ps) h
          ∙ sym c.in-Some-behind.ensures),
    )

pub returns : goal.returns
returns c = λ h. c.loop-space.invariant.3
    (ap (map (pair_at c.args.tree.now)) c.in-None.ensures.steps.0 ∙ sym (none-left c.loop-space.rest.now c.is_empty.result c.is_empty.ensures h))
