use Rattle.std.proofs.Common.{◌∙◌, ◌==◌, ◌+◌, ap}
use Rattle.std.specs.Prelude.{◌&&◌, if◌then◌else◌}
use Rattle.xs_tree.specs.Record.{at}
use Rattle.xs_number_tables.specs.steps.Alike.{is_likeness, likeness, seen_by}
use Rattle.xs_number_tables.proofs.AlikeLemmas.{counted-same}
use Rattle.xs_number_tables.proofs.alike.count_next.Goals as goal

pub returns-clause-seen : goal.returns-clause-seen
returns-clause-seen c = λ other r.
    let seen = c.args.seen.now in
    let own = likeness (at c.args.tree.now c.args.node) in
    let number = c.count_of-number.result + 1 in
    c.in_ok-set.ensures other (likeness r)
    ∙ ap (λ a. if (c.args.group == other) && is_likeness a (likeness r) then number else seen_by seen other (likeness r)) c.likeness-likeness.ensures
    ∙ counted-same seen c.args.group other own (likeness r) number
    (ap (λ k. k + 1) (c.count_of-number.ensures ∙ ap (seen_by seen c.args.group) c.likeness-likeness.ensures))
