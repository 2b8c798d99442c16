use Rattle.std.proofs.Common.{ℕ, List, [], ◌∷◌, ap, sym, ◌∙◌, ◌++◌, append_assoc, map}
use Rattle.std.proofs.lemmas.List.{append-nil}
use Rattle.std.specs.List.{flat_map}
use Rattle.xs_elements.specs.Nodes.{name_data}
use Rattle.xs_static.specs.Sets.{attribute_sets, own_sets}
use Rattle.xs_static.proofs.SetLemmas.{child-more}
use Rattle.xs_tree.proofs.WalkLemmas.{child-within}
use Rattle.xs_static.proofs.sets.own_sets.Goals as goal

-- the child that comes next is in the tree
pub push_attribute_sets-requires-clause-inside : goal.push_attribute_sets-requires-clause-inside
push_attribute_sets-requires-clause-inside c =
    child-within c.args.tree.now c.args.n c.loop-child.yielded c.next.new.self c.in-Some.child
    (sym c.loop-child.invariant.2 ∙ ap (λ xs. c.loop-child.yielded ++ xs) c.in-Some.ensures.steps)

-- its sets are added
pub loop-child-preserved : goal.loop-child-preserved
loop-child-preserved c =
    let rs = c.args.tree.now in
    let n = c.args.n in
    let behind = c.next.new.self in (
      tt,
      tt,
      append_assoc c.loop-child.yielded (c.in-Some.child ∷ []) behind
          ∙ ap (λ (xs : List ℕ). c.loop-child.yielded ++ xs) (sym c.in-Some.ensures.steps)
          ∙ c.loop-child.invariant.2,
      child-more (attribute_sets rs) c.in-Some.child behind (map name_data c.loop-child.sets.items) (map name_data c.push_attribute_sets.new.out.items)
          (own_sets rs n) c.in_ok-push_attribute_sets.ensures
          (ap (λ (xs : List ℕ). map name_data c.loop-child.sets.items ++ flat_map (attribute_sets rs) xs) (sym c.in-Some.ensures.steps)
          ∙ c.loop-child.invariant.3),
    )

-- nothing is left
pub returns : goal.returns
returns c =
    sym (append-nil (map name_data c.loop-child.sets.items))
    ∙ ap (λ (xs : List ℕ). map name_data c.loop-child.sets.items ++ flat_map (attribute_sets c.args.tree.now) xs) (sym c.in-None.ensures.steps.0)
    ∙ c.loop-child.invariant.3
