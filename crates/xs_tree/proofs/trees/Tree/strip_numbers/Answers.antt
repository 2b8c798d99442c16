-- The numbers move with their nodes.
use Rattle.std.proofs.Common.{◌≡◌, ◌∙◌, length, subst, sym}
use Rattle.xs_tree.specs.steps.Compaction.{AreNewPlaces, IsCompacted, same}
use Rattle.xs_tree.proofs.StrippedEntryLemmas.{are_new_places, kept_places, numbers-compacted}
use Rattle.xs_tree.proofs.trees.Tree.strip_numbers.Goals as goal

pub compact_numbers-requires : goal.compact_numbers-requires
compact_numbers-requires c =
    let places_are : c.deref.result.now ≡ kept_places c.args.flagged.now c.args.self.now = c.deref.ensures.value ∙ c.in_ok-places.ensures.places in
    record {
      places = subst (λ places. AreNewPlaces places (length c.args.numbers.now.items)) (sym places_are)
          (are_new_places c.args.flagged.now c.args.self.now (length c.args.numbers.now.items) c.requires.each);
    }

pub returns-clause-stripped : goal.returns-clause-stripped
returns-clause-stripped c =
    let places_are : c.deref.result.now ≡ kept_places c.args.flagged.now c.args.self.now = c.deref.ensures.value ∙ c.in_ok-places.ensures.places in
    numbers-compacted c.args.flagged.now c.args.self.now c.args.numbers.now.items c.compact_numbers.new.numbers.items c.requires.each
    (subst (λ places. IsCompacted same places c.args.numbers.now.items c.compact_numbers.new.numbers.items) places_are c.compact_numbers.ensures.compacted)
