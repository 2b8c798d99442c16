use Rattle.std.proofs.Common.{sym, ◌∙◌}
use Rattle.xs_structure.proofs.ScopeLemmas.{pair-first}
use Rattle.xs_tree.specs.Record.{at, local_at}
use Rattle.xs_structure.proofs.scopes.behind.Goals as goal

pub returns-then-is_pair : goal.returns-then-is_pair
returns-then-is_pair c =
    let rs = c.args.tree.now in
    pair-first c.args.pairs.now c.in-Some.rest.now c.in-Some.pair.now (local_at rs c.args.space) (at rs c.args.space).text c.in-Some.ensures.cases.0
    (sym c.is_pair.ensures ∙ c.if-is_pair.true)
