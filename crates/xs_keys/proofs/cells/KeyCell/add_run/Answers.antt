use Rattle.std.proofs.Common.{◌≡◌, ◌∷◌, ◌∙◌, List, ap}
use Rattle.std.specs.Vec.Iter.{into_iter_items}
use Rattle.xs_keys.specs.declared.pairs.Pair.{Pair}
use Rattle.xs_keys.specs.steps.Cells.{nodes_kept}
use Rattle.xs_keys.specs.steps.Pairs.{nodes_by, pairs_in}
use Rattle.xs_keys.proofs.RunLemmas.{all-taken, fewer-left, one-taken, pairs-more}
use Rattle.xs_keys.proofs.cells.KeyCell.add_run.Goals as goal

pub loop-pair-preserved : goal.loop-pair-preserved
loop-pair-preserved c =
    let l = c.loop-pair in
    let x = c.in-Some.pair in
    let left = into_iter_items c.next.new.self in
    let steps : into_iter_items l.pair-iterator ≡ x ∷ left = c.in-Some.ensures.steps.0 in
    record {
      whole = one-taken l.yielded x (into_iter_items l.pair-iterator) left _ steps l.invariant.whole;
      left = fewer-left x (into_iter_items l.pair-iterator) left _ _ steps l.invariant.left c.in-Some.ensures.steps.1;
      name = c.in_ok-add_pair.ensures.name ∙ l.invariant.name;
      fault = c.in_ok-add_pair.ensures.fault ∙ l.invariant.fault;
      nodes = λ text.
          pairs-more text _ (nodes_kept l.self text) (nodes_kept c.add_pair.new.self text) l.yielded x (l.invariant.nodes text)
          (c.in_ok-add_pair.ensures.nodes text);
    }

pub returns-clause-nodes : goal.returns-clause-nodes
returns-clause-nodes c =
    let l = c.loop-pair in
    let all : l.yielded ≡ c.args.run.pairs.items =
    all-taken l.yielded (into_iter_items l.pair-iterator) _ _ l.invariant.whole l.invariant.left c.in-None.ensures.steps.0
    ∙ c.into_iter-pair-iterator.ensures.into_iter_gives.0 in
    λ text. l.invariant.nodes text ∙ ap (λ (ps : List Pair). nodes_by text (nodes_kept c.args.self.now text) (pairs_in ps)) all
