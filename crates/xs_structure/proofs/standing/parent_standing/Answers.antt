use Rattle.std.proofs.Common.{ap, sym, arith, Some}
use Rattle.xs_structure.proofs.AroundLemmas.{parent-before}
use Rattle.xs_structure.proofs.StandingLemmas.{standings-at, standings-length}
use Rattle.xs_structure.proofs.standing.parent_standing.Goals as goal

pub bounds-standings-place : goal.bounds-standings-place
bounds-standings-place c =
    let before = parent-before c.args.tree.now c.in_ok-parent.ensures.tree c.args.n c.in_ok-parent.parent c.requires.inside
    (sym c.in_ok-parent.ensures.parent) in
    omega (arith, before, standings-length c.args.tree.now c.args.standings.now c.args.n c.requires.table, c.place.ensures)

pub returns : goal.returns
returns c =
    let before = parent-before c.args.tree.now c.in_ok-parent.ensures.tree c.args.n c.in_ok-parent.parent c.requires.inside
    (sym c.in_ok-parent.ensures.parent) in
    let found = standings-at c.args.tree.now c.args.standings.now c.args.n c.in_ok-parent.parent _ c.requires.table before in
    rw (c.place.ensures, sym c.in_ok-parent.ensures.parent) (ap Some found)
