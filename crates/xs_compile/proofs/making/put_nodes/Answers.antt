use Rattle.std.proofs.Common.{◌∙◌, ◌++◌, ◌∷◌, [], ap, append_assoc, filter, sym, ℕ, List}
use Rattle.std.specs.Prelude.{not}
use Rattle.xs_compile.proofs.PartLemmas.{part_more}
use Rattle.xs_elements.specs.Reading.{is_xslt}
use Rattle.xs_tree.proofs.WalkLemmas.{attribute-within}
use Rattle.xs_tree.specs.Record.{uri_at}
use Rattle.xs_compile.proofs.making.put_nodes.Goals as goal

pub push_put-requires : goal.push_put-requires
push_put-requires c =
    attribute-within c.args.tree.now c.args.n c.loop-attribute.yielded _ c.in-Some.attribute
    (sym c.loop-attribute.invariant.2 ∙ ap (λ (xs : List ℕ). c.loop-attribute.yielded ++ xs) c.in-Some.ensures.steps)

pub loop-attribute-preserved : goal.loop-attribute-preserved
loop-attribute-preserved c =
    let test = λ (a : ℕ). not (is_xslt (uri_at c.args.tree.now a)) in (
      tt,
      tt,
      append_assoc c.loop-attribute.yielded (c.in-Some.attribute ∷ []) c.next.new.self
          ∙ ap (λ (xs : List ℕ). c.loop-attribute.yielded ++ xs) (sym c.in-Some.ensures.steps) ∙ c.loop-attribute.invariant.2,
      part_more test c.in-Some.attribute c.next.new.self c.loop-attribute.nodes.items c.push_put.new.out.items _ c.in_ok-push_put.ensures
          (ap (λ (ks : List ℕ). c.loop-attribute.nodes.items ++ filter test ks) (sym c.in-Some.ensures.steps) ∙ c.loop-attribute.invariant.3),
    )
