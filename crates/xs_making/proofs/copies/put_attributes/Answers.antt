use Rattle.std.proofs.Common.{ℕ, List, [], ◌∷◌, ◌++◌, ap, append_assoc, sym, ◌∙◌}
use Rattle.std.proofs.lemmas.Result.{err_from_is_err_and}
use Rattle.std.specs.List.{flat_map}
use Rattle.xs_trace.specs.declared.event.Event.{Event}
use Rattle.xs_tree.specs.Record.{at, attributes}
use Rattle.xs_tree.proofs.WalkLemmas.{attribute-within}
use Rattle.xs_making.specs.Copies.{attribute_events}
use Rattle.xs_making.proofs.PutLemmas.{events-after, events-then-end}
use Rattle.xs_making.proofs.copies.put_attributes.Goals as goal

-- the node that comes next is in the tree
pub put_attribute-requires : goal.put_attribute-requires
put_attribute-requires g c =
    attribute-within c.args.tree.now c.args.n c.loop-attribute.yielded _ c.in-Some.attribute
    (sym c.loop-attribute.invariant.2 ∙ ap (λ (xs : List ℕ). c.loop-attribute.yielded ++ xs) c.in-Some.ensures.steps)

pub returns-in_err-put_attribute-clause-reported : goal.returns-in_err-put_attribute-clause-reported
returns-in_err-put_attribute-clause-reported g c =
    let p = err_from_is_err_and c.from_residual.result c.from_residual.ensures.1 in
    let put : ℕ → List Event = λ k. attribute_events (at c.args.tree.now k) in
    let left : List ℕ = c.loop-attribute.attribute-iterator in
    events-then-end c.args.site (flat_map put (attributes c.args.tree.now c.args.n)) (flat_map put left) (put c.in-Some.attribute)
    (flat_map put c.next.new.self) (g.R.Tally.state c.args.recorder.now) (g.R.Tally.state c.loop-attribute.recorder)
    (g.R.Tally.state c.put_attribute.new.recorder) c.from_residual.result _ _ c.loop-attribute.invariant.3 (ap (flat_map put) c.in-Some.ensures.steps) p.1 p.2
    c.in_err-put_attribute.ensures.reported

pub loop-attribute-preserved : goal.loop-attribute-preserved
loop-attribute-preserved g c =
    let put : ℕ → List Event = λ k. attribute_events (at c.args.tree.now k) in (
      tt,
      tt,
      append_assoc c.loop-attribute.yielded (c.in-Some.attribute ∷ []) c.next.new.self
          ∙ ap (λ (xs : List ℕ). c.loop-attribute.yielded ++ xs) (sym c.in-Some.ensures.steps) ∙ c.loop-attribute.invariant.2,
      c.loop-attribute.invariant.3
          ∙ events-after c.args.site (flat_map put c.loop-attribute.attribute-iterator) (put c.in-Some.attribute) (flat_map put c.next.new.self)
          (g.R.Tally.state c.loop-attribute.recorder) (g.R.Tally.state c.put_attribute.new.recorder) (ap (flat_map put) c.in-Some.ensures.steps)
          c.in_ok-put_attribute.ensures.reported,
      c.in_ok-put_attribute.ensures.kept ∙ c.loop-attribute.invariant.4,
    )
