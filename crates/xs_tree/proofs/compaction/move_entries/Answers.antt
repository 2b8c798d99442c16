-- What moves is written where nothing stands that has moved or has still to move.
use Rattle.std.proofs.Common.{ℕ, List, arith, get_or, length}
use Rattle.std.proofs.lemmas.Option.{slice_get-get_or}
use Rattle.xs_tree.specs.declared.entries.Entry.{Entry}
use Rattle.xs_tree.specs.steps.Compaction.{entry_after}
use Rattle.xs_tree.proofs.CompactionLemmas.{moved-start, moved-step, new-le}
use Rattle.xs_tree.proofs.compaction.move_entries.Goals as goal

-- how an entry changes
abbrev change : List ℕ → List Entry → Entry → Entry
change places old = entry_after places (get_or places (length old) 0)

pub loop-place-init : goal.loop-place-init
loop-place-init c = moved-start (change c.args.places.now c.args.entries.now) c.args.places.now c.args.entries.now

pub bounds-entries-places : goal.bounds-entries-places
bounds-entries-places c =
    omega (
      arith,
      c.loop-place-test.true,
      c.loop-place.invariant.long,
      new-le c.args.places.now (length c.args.entries.now) c.requires.places c.loop-place.place
          (omega (arith, c.loop-place-test.true, c.loop-place.invariant.long)),
    )

pub loop-place-preserved : goal.loop-place-preserved
loop-place-preserved c =
    rw c.renumbered.ensures
    (moved-step (change c.args.places.now c.args.entries.now) c.args.places.now c.args.entries.now c.loop-place.entries c.loop-place.place _ c.requires.places
    (omega (arith, c.loop-place-test.true, c.loop-place.invariant.long))
    (slice_get-get_or c.loop-place.entries c.loop-place.place _ (omega (arith, c.loop-place-test.true, c.loop-place.invariant.long)))
    c.loop-place.invariant)
