use Rattle.std.proofs.Common.{◌<◌, ◌≤◌, ◌∙◌, List, ap, get_or, length, subst, sym}
use Rattle.xs_value.specs.Tables.{Table, nodes_of}
use Rattle.xs_keys.specs.declared.cells.KeyCell.{KeyCell}
use Rattle.xs_keys.proofs.FindLemmas.{found-at, no-table}
use Rattle.xs_keys.proofs.keys.KeyCellsKeyFinder.find.Goals as goal

pub returns-in-Some-clause-found : goal.returns-in-Some-clause-found
returns-in-Some-clause-found c =
    let keys = c.args.self.now in
    let k = c.args.key in
    let cell = c.in-Some.cell.now in
    let at = c.in-Some.ensures.lookup in
    found-at keys.tree.value keys.sheet.value.keys keys.cells.items k cell c.args.text.now c.find.result keys.cells_are
    (subst (λ (cells : List KeyCell). k < length cells) c.deref.ensures.value at.3.0)
    (ap (λ (cells : List KeyCell). get_or cells k cell) (sym c.deref.ensures.value) ∙ sym at.1) c.find.ensures.found

pub returns-in-None-clause-found : goal.returns-in-None-clause-found
returns-in-None-clause-found c =
    let keys = c.args.self.now in
    let k = c.args.key in
    let none = no-table keys.tree.value keys.sheet.value.keys keys.cells.items k keys.cells_are
    (subst (λ (cells : List KeyCell). length cells ≤ k) c.deref.ensures.value c.in-None.ensures.lookup.3) in
    (ap (λ (t : Table). t.fault) none, sym (ap (λ (t : Table). nodes_of c.args.text.now t.entries) none))
