use Rattle.std.proofs.Common.{◌<◌, ◌≤◌, length, arith}
use Rattle.xs_static.proofs.FirstLemmas.{first-on, first-whole}
use Rattle.xs_static.proofs.circles.first_circle.Goals as goal

pub loop-declaration-preserved : goal.loop-declaration-preserved
loop-declaration-preserved c =
    let lt : c.loop-declaration.declaration-index < length c.args.declarations.now = omega arith in
    first-on c.args.declarations.now c.loop-declaration.declaration-index c.declaration-item.result c.loop-declaration.first c.in_ok-first.first lt
    c.declaration-item.is c.loop-declaration.invariant c.in_ok-first.ensures

pub returns : goal.returns
returns c =
    let le : length c.args.declarations.now ≤ c.loop-declaration.declaration-index = omega arith in
    record { first = first-whole c.args.declarations.now c.loop-declaration.declaration-index c.loop-declaration.first le c.loop-declaration.invariant }
