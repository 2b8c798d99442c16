use Rattle.xs_number_tables.proofs.counters.Counters.list.Goals as goal

pub list-requires-clause-counter : goal.list-requires-clause-counter
list-requires-clause-counter g c = λ κs inside. c.in-Some.ensures (g.K.KeyFinder.tables c.args.keys.now) c.args.tree.now c.requires.counters
