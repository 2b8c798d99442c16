use Rattle.std.proofs.Common.{◌∙◌, ◌<◌, ap, arith, length}
use Rattle.xs_structure.proofs.StandingLemmas.{standings-all, standings-at}
use Rattle.xs_structure.specs.Standing.{standing_of}
use Rattle.xs_structure.proofs.standing.standing_in.Goals as goal

pub bounds-standings-place : goal.bounds-standings-place
bounds-standings-place c =
    omega (arith, standings-all c.args.tree.now c.args.standings.now c.requires.table, c.requires.inside, c.place.ensures)

pub returns : goal.returns
returns c =
    let rs = c.args.tree.now in
    let lt : c.place.result < length rs = omega (arith, c.requires.inside, c.place.ensures) in
    standings-at rs c.args.standings.now (length rs) c.place.result _ c.requires.table lt ∙ ap (standing_of rs) c.place.ensures
