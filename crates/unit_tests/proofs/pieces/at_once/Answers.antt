use Rattle.unit_tests.proofs.pieces.at_once.Goals as goal

pub run_whole-requires-clause-ready : goal.run_whole-requires-clause-ready
run_whole-requires-clause-ready c = (c.table_is_ready.ensures c.args.runner.now.rows.items).0
