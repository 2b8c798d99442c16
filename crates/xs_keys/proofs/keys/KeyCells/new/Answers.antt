use Rattle.std.proofs.Common.{List, subst, sym}
use Rattle.xs_tree.specs.Record.{Record}
use Rattle.xs_value.specs.Tables.{TablesIn}
use Rattle.xs_keys.specs.KeyTables.{tables_of}
use Rattle.xs_keys.specs.lemmas.TableLemmas.{tables-inside}
use Rattle.xs_keys.proofs.keys.KeyCells.new.Goals as goal

pub returns-clause-inside : goal.returns-clause-inside
returns-clause-inside g c =
    let rs = c.args.tree.now in
    let ds = c.of.result.value.keys in
    subst (λ (records : List Record). TablesIn rs (tables_of records ds)) (sym c.of-2.ensures) (tables-inside rs ds)
