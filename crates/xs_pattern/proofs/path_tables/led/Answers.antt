use Rattle.std.proofs.Common.{ℕ, ◌<◌, ◌||◌, Bool, List, false, ap, get_or, length, subst, sym, ◌∙◌}
use Rattle.xs_xpath.specs.Exprs.{tree_from}
use Rattle.xs_pattern_spec.specs.Predicates.{is_among}
use Rattle.xs_pattern.specs.steps.PathTables.{is_selected}
use Rattle.xs_pattern.proofs.PathTableLemmas.{any-more}
use Rattle.xs_pattern.proofs.path_tables.led.Goals as goal

pub loop-place-preserved : goal.loop-place-preserved
loop-place-preserved c =
    let f = is_selected c.args.tree.now c.args.scope.now.pairs.items (tree_from c.args.step.now) c.args.ends.now in
    let old : List Bool = c.loop-place.table.items in
    record {
      long = c.add_nodes.ensures.long ∙ c.loop-place.invariant.long;
      whole = λ n lt.
          any-more (f n) c.loop-place.place (get_or c.add_nodes.new.table.items n false) (get_or old n false)
          (c.add_nodes.ensures.table n (subst (λ k. n < k) (sym c.loop-place.invariant.long) lt)
          ∙ ap (λ (l : List ℕ). get_or old n false || is_among n l) c.deref.ensures.value
          ∙ ap (λ b. get_or old n false || b) (c.in_ok-nodes.ensures.nodes n ∙ ap (f n) c.at.ensures))
          (c.loop-place.invariant.whole n lt);
    }
