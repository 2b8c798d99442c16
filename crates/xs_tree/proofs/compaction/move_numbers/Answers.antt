-- What moves is written where nothing stands that has moved or has still to move.
use Rattle.std.proofs.Common.{arith, get_or, length}
use Rattle.std.proofs.lemmas.Option.{slice_get-get_or}
use Rattle.xs_tree.specs.steps.Compaction.{same}
use Rattle.xs_tree.proofs.CompactionLemmas.{moved-start, moved-step, new-le}
use Rattle.xs_tree.proofs.compaction.move_numbers.Goals as goal

pub loop-place-init : goal.loop-place-init
loop-place-init c = moved-start same c.args.places.now c.args.numbers.now

pub bounds-numbers-places : goal.bounds-numbers-places
bounds-numbers-places c =
    omega (
      arith,
      c.loop-place-test.true,
      c.loop-place.invariant.long,
      new-le c.args.places.now (length c.args.numbers.now) c.requires.places c.loop-place.place
          (omega (arith, c.loop-place-test.true, c.loop-place.invariant.long)),
    )

pub loop-place-preserved : goal.loop-place-preserved
loop-place-preserved c =
    moved-step same c.args.places.now c.args.numbers.now c.loop-place.numbers c.loop-place.place
    (get_or c.loop-place.numbers c.loop-place.place 0) c.requires.places
    (omega (arith, c.loop-place-test.true, c.loop-place.invariant.long))
    (slice_get-get_or c.loop-place.numbers c.loop-place.place 0 (omega (arith, c.loop-place-test.true, c.loop-place.invariant.long)))
    c.loop-place.invariant
