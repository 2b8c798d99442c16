-- What is after the last that has moved goes.
use Rattle.std.proofs.Common.{◌≡◌, ◌∙◌, ap, get_or, length, subst, sym, take}
use Rattle.xs_tree.specs.steps.Compaction.{HaveMoved, entry_after}
use Rattle.xs_tree.proofs.CompactionLemmas.{moved-end, written_back}
use Rattle.xs_tree.proofs.compaction.compact_entries.Goals as goal

pub returns : goal.returns
returns c =
    let count_is : c.move_entries-count.result ≡ get_or c.args.places.now (length c.args.entries.now.items) 0 =
    c.move_entries-count.ensures.count ∙ ap (λ xs. get_or c.args.places.now (length xs) 0) c.deref_mut.ensures.value in
    let long : length c.move_entries-count.new.entries ≡ length c.args.entries.now.items = c.move_entries-count.ensures.moved.long
    ∙ ap length c.deref_mut.ensures.value in
    let rest_is : c.truncate.new.self.items ≡ take c.move_entries-count.result c.move_entries-count.new.entries =
    c.truncate.ensures.items
    ∙ ap (take c.move_entries-count.result) (written_back c.args.entries.now.len c.move_entries-count.new.entries c.args.entries.now.items
    (c.args.entries.now.ok.0 ∙ sym long)) in
    record {
      compacted = moved-end (entry_after c.args.places.now (get_or c.args.places.now (length c.args.entries.now.items) 0))
          c.args.places.now c.args.entries.now.items c.move_entries-count.new.entries c.truncate.new.self.items
          c.move_entries-count.result c.requires.places count_is rest_is
          (subst (λ xs. HaveMoved (entry_after c.args.places.now (get_or c.args.places.now (length xs) 0)) c.args.places.now xs
          c.move_entries-count.new.entries (length xs)) c.deref_mut.ensures.value c.move_entries-count.ensures.moved);
    }
