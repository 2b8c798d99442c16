use Rattle.std.proofs.Common.{◌∙◌, ◌++◌, ◌∷◌, [], ap, append_assoc, filter, sym, map, ℕ, List}
use Rattle.xs_compile.proofs.PartLemmas.{part_more}
use Rattle.xs_structure.specs.Parts.{tag_at}
use Rattle.xs_compile.specs.steps.Tags.{part_test}
use Rattle.xs_modules.specs.Results.{modules_data}
use Rattle.xs_structure.specs.Modules.{Place, records_at}
use Rattle.xs_tree.proofs.WalkLemmas.{child-within}
use Rattle.xs_compile.proofs.parts.parts_at.Goals as goal

-- the child that comes next is in the tree
pub push_part-requires : goal.push_part-requires
push_part-requires c = record {
  at = record {
    «module» = c.requires.at.«module»;
    node = child-within (records_at (modules_data c.args.modules.now) c.args.number) c.args.n c.loop-child.yielded _ c.in-Some.child
        (sym c.loop-child.invariant.2 ∙ ap (λ (xs : List ℕ). c.loop-child.yielded ++ xs) c.in-Some.ensures.steps);
  };
}

pub loop-child-preserved : goal.loop-child-preserved
loop-child-preserved c =
    let ms = modules_data c.args.modules.now in
    let place : ℕ → Place = λ k. (c.args.number, k) in (
      tt,
      tt,
      append_assoc c.loop-child.yielded (c.in-Some.child ∷ []) c.next.new.self
          ∙ ap (λ (xs : List ℕ). c.loop-child.yielded ++ xs) (sym c.in-Some.ensures.steps) ∙ c.loop-child.invariant.2,
      part_more (λ q. part_test c.args.part (tag_at ms q)) (place c.in-Some.child) (map place c.next.new.self) c.loop-child.places.items
          c.push_part.new.out.items _
          c.in_ok-push_part.ensures
          (ap (λ (ks : List ℕ). c.loop-child.places.items ++ filter (λ q. part_test c.args.part (tag_at ms q)) (map place ks)) (sym c.in-Some.ensures.steps)
          ∙ c.loop-child.invariant.3),
    )
