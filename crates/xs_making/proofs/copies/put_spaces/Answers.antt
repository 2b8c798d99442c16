use Rattle.std.proofs.Common.{ℕ, List, [], ◌∷◌, ◌++◌, ap, append_assoc, sym, ◌∙◌}
use Rattle.std.proofs.lemmas.Result.{err_from_is_err_and}
use Rattle.std.specs.List.{flat_map}
use Rattle.xs_trace.specs.declared.event.Event.{Event}
use Rattle.xs_tree.specs.Record.{at, namespaces}
use Rattle.xs_tree.proofs.NamespaceLemmas.{namespace-within}
use Rattle.xs_making.specs.Copies.{space_events}
use Rattle.xs_making.proofs.PutLemmas.{events-after, events-then-end}
use Rattle.xs_making.proofs.copies.put_spaces.Goals as goal

-- the node that comes next is in the tree
pub put_space-requires : goal.put_space-requires
put_space-requires g c =
    namespace-within c.args.tree.now c.args.n c.loop-space.yielded _ c.in-Some.space
    (sym c.loop-space.invariant.2 ∙ ap (λ (xs : List ℕ). c.loop-space.yielded ++ xs) c.in-Some.ensures.steps)

pub returns-in_err-put_space-clause-reported : goal.returns-in_err-put_space-clause-reported
returns-in_err-put_space-clause-reported g c =
    let p = err_from_is_err_and c.from_residual.result c.from_residual.ensures.1 in
    let put : ℕ → List Event = λ k. space_events (at c.args.tree.now k) in
    events-then-end c.args.site (flat_map put (namespaces c.args.tree.now c.args.n)) (flat_map put c.loop-space.space-iterator) (put c.in-Some.space)
    (flat_map put c.next.new.self) (g.R.Tally.state c.args.recorder.now) (g.R.Tally.state c.loop-space.recorder)
    (g.R.Tally.state c.put_space.new.recorder) c.from_residual.result _ _ c.loop-space.invariant.3 (ap (flat_map put) c.in-Some.ensures.steps) p.1 p.2
    c.in_err-put_space.ensures.reported

pub loop-space-preserved : goal.loop-space-preserved
loop-space-preserved g c =
    let put : ℕ → List Event = λ k. space_events (at c.args.tree.now k) in (
      tt,
      tt,
      append_assoc c.loop-space.yielded (c.in-Some.space ∷ []) c.next.new.self
          ∙ ap (λ (xs : List ℕ). c.loop-space.yielded ++ xs) (sym c.in-Some.ensures.steps) ∙ c.loop-space.invariant.2,
      c.loop-space.invariant.3
          ∙ events-after c.args.site (flat_map put c.loop-space.space-iterator) (put c.in-Some.space) (flat_map put c.next.new.self)
          (g.R.Tally.state c.loop-space.recorder) (g.R.Tally.state c.put_space.new.recorder) (ap (flat_map put) c.in-Some.ensures.steps)
          c.in_ok-put_space.ensures.reported,
      c.in_ok-put_space.ensures.kept ∙ c.loop-space.invariant.4,
    )
