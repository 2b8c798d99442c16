use Rattle.xs_pyx.proofs.RowLemmas.{row-found, behind-found, taken-found, row-nowhere, behind-nowhere, taken-nowhere}
use Rattle.xs_pyx.proofs.read.split_row.Goals as goal

pub returns-in-Some-clause-first : goal.returns-in-Some-clause-first
returns-in-Some-clause-first c = row-found c.args.bytes.now c.in-Some.end c.in-Some.ensures

pub returns-in-Some-clause-behind : goal.returns-in-Some-clause-behind
returns-in-Some-clause-behind c = behind-found c.args.bytes.now c.in-Some.end c.in-Some.ensures

pub returns-in-Some-clause-taken : goal.returns-in-Some-clause-taken
returns-in-Some-clause-taken c = taken-found c.args.bytes.now c.in-Some.end c.in-Some.ensures

pub returns-in-None-clause-first : goal.returns-in-None-clause-first
returns-in-None-clause-first c = row-nowhere c.args.bytes.now c.in-None.ensures

pub returns-in-None-clause-behind : goal.returns-in-None-clause-behind
returns-in-None-clause-behind c = behind-nowhere c.args.bytes.now c.in-None.ensures

pub returns-in-None-clause-taken : goal.returns-in-None-clause-taken
returns-in-None-clause-taken c = taken-nowhere c.args.bytes.now c.in-None.ensures
