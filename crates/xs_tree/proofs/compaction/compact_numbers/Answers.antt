-- What is after the last that has moved goes.
use Rattle.std.proofs.Common.{◌≡◌, ◌∙◌, ap, get_or, length, subst, sym, take}
use Rattle.xs_tree.specs.steps.Compaction.{HaveMoved, same}
use Rattle.xs_tree.proofs.CompactionLemmas.{moved-end, written_back}
use Rattle.xs_tree.proofs.compaction.compact_numbers.Goals as goal

pub returns : goal.returns
returns c =
    let count_is : c.move_numbers-count.result ≡ get_or c.args.places.now (length c.args.numbers.now.items) 0 =
    c.move_numbers-count.ensures.count ∙ ap (λ xs. get_or c.args.places.now (length xs) 0) c.deref_mut.ensures.value in
    let long : length c.move_numbers-count.new.numbers ≡ length c.args.numbers.now.items = c.move_numbers-count.ensures.moved.long
    ∙ ap length c.deref_mut.ensures.value in
    let rest_is : c.truncate.new.self.items ≡ take c.move_numbers-count.result c.move_numbers-count.new.numbers =
    c.truncate.ensures.items
    ∙ ap (take c.move_numbers-count.result) (written_back c.args.numbers.now.len c.move_numbers-count.new.numbers c.args.numbers.now.items
    (c.args.numbers.now.ok.0 ∙ sym long)) in
    record {
      compacted = moved-end same c.args.places.now c.args.numbers.now.items c.move_numbers-count.new.numbers
          c.truncate.new.self.items c.move_numbers-count.result c.requires.places count_is rest_is
          (subst (λ xs. HaveMoved (same) c.args.places.now xs c.move_numbers-count.new.numbers (length xs))
          c.deref_mut.ensures.value c.move_numbers-count.ensures.moved);
    }
