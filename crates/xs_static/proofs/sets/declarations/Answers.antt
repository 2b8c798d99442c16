use Rattle.std.proofs.Common.{◌<◌, length, map, arith}
use Rattle.xs_static.specs.Declarations.{declared}
use Rattle.xs_modules.specs.Results.{modules_data}
use Rattle.xs_static.proofs.SetLemmas.{declarations-more}
use Rattle.xs_static.proofs.sets.declarations.Goals as goal

pub loop-place-preserved : goal.loop-place-preserved
loop-place-preserved c =
    let lt : c.loop-place.place-index < length c.args.places.now = omega arith in
    declarations-more (modules_data c.args.modules.now) c.args.places.now c.loop-place.place-index c.place-item.result
    (map declared c.loop-place.found.items) (map declared c.push_declaration.new.out.items) lt c.place-item.is c.loop-place.invariant
    c.in_ok-push_declaration.ensures
