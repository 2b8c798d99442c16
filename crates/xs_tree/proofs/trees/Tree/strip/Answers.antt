-- The entries of the nodes that stay are well kept at their new places.
use Rattle.std.proofs.Common.{◌≡◌, ◌∙◌, Bool, List, ℕ, ap, get_or, length, refl, subst, sym}
use Rattle.xs_tree.specs.declared.entries.Entry.{Entry}
use Rattle.xs_tree.specs.declared.trees.Tree.TheInside.{Inside}
use Rattle.xs_tree.specs.steps.Compaction.{AreNewPlaces, IsCompacted, entry_after}
use Rattle.xs_tree.specs.Record.{Record}
use Rattle.xs_tree.specs.Stripping.{without}
use Rattle.xs_tree.specs.View.{records}
use Rattle.xs_tree.proofs.EntryLemmas.{length-records}
use Rattle.xs_tree.proofs.StrippedEntryLemmas.{after_strip, are_new_places, kept_places, records-stripped, IsWell-stripped}
use Rattle.xs_tree.proofs.trees.Tree.strip.Goals as goal

-- the places that the code has are those of the tree's nodes
places-kept : (flags : List Bool) (t : Inside) (rs : List Record) (read made : List ℕ) → records t ≡ rs → read ≡ made → made ≡ kept_places flags rs
    → read ≡ kept_places flags (records t)
places-kept flags t rs read made view_is read_is made_is = read_is ∙ made_is ∙ ap (kept_places flags) (sym view_is)

-- what was made of the entries by these places
compacted-kept : (flags : List Bool) (t : Inside) (places : List ℕ) (es : List Entry) → places ≡ kept_places flags (records t)
    → IsCompacted (entry_after places (get_or places (length t.nodes.items) 0)) places t.nodes.items es
    → IsCompacted (after_strip flags t) (kept_places flags (records t)) t.nodes.items es
compacted-kept flags t places es is h =
    subst (λ places. IsCompacted (entry_after places (get_or places (length t.nodes.items) 0)) places t.nodes.items es) is h

pub compact_entries-requires : goal.compact_entries-requires
compact_entries-requires c =
    let places_are : c.deref.result.now ≡ kept_places c.args.flagged.now (records c.self.inside) =
    places-kept c.args.flagged.now c.self.inside c.args.self.now _ _ c.self.view_is c.deref.ensures.value c.in_ok-places.ensures.places in
    record {
      places = subst (λ places. AreNewPlaces places (length c.self.inside.nodes.items)) (sym places_are)
          (are_new_places c.args.flagged.now (records c.self.inside) (length c.self.inside.nodes.items) (sym (length-records c.self.inside)));
    }

pub returns-clause-stripped : goal.returns-clause-stripped
returns-clause-stripped c =
    let places_are : c.deref.result.now ≡ kept_places c.args.flagged.now (records c.self.inside) =
    places-kept c.args.flagged.now c.self.inside c.args.self.now _ _ c.self.view_is c.deref.ensures.value c.in_ok-places.ensures.places in
    let after : Inside = record { nodes = c.compact_entries.new.entries; store = c.self.inside.store } in
    records-stripped c.args.flagged.now c.self.inside c.self.invariant c.compact_entries.new.entries.items
    (compacted-kept c.args.flagged.now c.self.inside c.deref.result.now c.compact_entries.new.entries.items places_are c.compact_entries.ensures.compacted)
    after refl refl
    ∙ ap (without c.args.flagged.now) c.self.view_is

pub invariant_of-self : goal.invariant_of-self
invariant_of-self c =
    let places_are : c.deref.result.now ≡ kept_places c.args.flagged.now (records c.self.inside) =
    places-kept c.args.flagged.now c.self.inside c.args.self.now _ _ c.self.view_is c.deref.ensures.value c.in_ok-places.ensures.places in
    let after : Inside = record { nodes = c.compact_entries.new.entries; store = c.self.inside.store } in
    IsWell-stripped c.args.flagged.now c.self.inside c.self.invariant c.compact_entries.new.entries.items
    (compacted-kept c.args.flagged.now c.self.inside c.deref.result.now c.compact_entries.new.entries.items places_are c.compact_entries.ensures.compacted)
    after refl refl
