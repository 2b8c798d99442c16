use Rattle.xs_number_tables.specs.steps.Counters.{IsCounter}
use Rattle.xs_number_tables.specs.Tables.{counted_at}
use Rattle.xs_number_tables.proofs.TableLemmas.{entered}
use Rattle.xs_number_tables.proofs.counters.Counters.add.Goals as goal

pub returns : goal.returns
returns g c = λ m line.
    entered (λ k. IsCounter (g.K.KeyFinder.tables c.args.keys.now) c.args.tree.now k.decl.now k.counter) _ _ (counted_at c.args.self.now m line) _
    (c.in_ok-insert.ensures.updates.0 (m, line)) c.in_ok-counter.ensures (c.requires.counters m line)
