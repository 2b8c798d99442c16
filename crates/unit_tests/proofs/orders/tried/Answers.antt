use Rattle.unit_tests.proofs.orders.tried.Goals as goal

pub run_in_order-requires-clause-ready : goal.run_in_order-requires-clause-ready
run_in_order-requires-clause-ready c = (c.table_is_ready.ensures c.args.runner.now.rows.items).0

pub assemble-requires-clause-ready : goal.assemble-requires-clause-ready
assemble-requires-clause-ready c = (c.table_is_ready.ensures c.args.runner.now.rows.items).0

pub assemble-requires-clause-collection : goal.assemble-requires-clause-collection
assemble-requires-clause-collection c = (c.root_task-root.result, c.in_ok-collected.ensures.collection)
