use Rattle.unit_tests.proofs.pieces.run_heard.Goals as goal

pub execute-requires-clause-ready : goal.execute-requires-clause-ready
execute-requires-clause-ready g c = λ κs o. (c.table_is_ready.ensures c.args.crew.now.runner.now.rows.items).0
