use Rattle.xs_rules.proofs.tables.table_in.Goals as goal

pub returns-then-worth-2 : goal.returns-then-worth-2
returns-then-worth-2 c = record { table = c.nodes_below.ensures.table c.args.scope.now.pairs.items }
