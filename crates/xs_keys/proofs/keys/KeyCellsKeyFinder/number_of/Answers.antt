use Rattle.std.proofs.Common.{◌<◌, ◌∙◌, List, ap, arith, length, position, subst}
use Rattle.xs_keys.specs.declared.cells.KeyCell.{KeyCell}
use Rattle.xs_keys.specs.steps.Cells.{is_name}
use Rattle.xs_keys.proofs.FindLemmas.{few-cells, number-is}
use Rattle.xs_keys.proofs.keys.KeyCellsKeyFinder.number_of.Goals as goal

pub overflow_cast-result : goal.overflow_cast-result
overflow_cast-result c =
    let keys = c.args.self.now in
    let place = c.in-Some.place in
    let within : place < length keys.cells.items =
    subst (λ (cells : List KeyCell). place < length cells) c.deref.ensures.value c.in-Some.ensures.within in
    omega (arith, within, few-cells keys.tree.value keys.sheet.value.keys keys.cells.items _ keys.cells_are keys.few)

pub returns-in-Some : goal.returns-in-Some
returns-in-Some c =
    let keys = c.args.self.now in
    let uri = c.args.uri.now in
    let local = c.args.local.now in
    record {
      number =
          c.in-Some.ensures.place
          ∙ ap (λ (cells : List KeyCell). position (λ (x : KeyCell). is_name uri local x.name) cells) c.deref.ensures.value
          ∙ number-is keys.tree.value keys.sheet.value.keys keys.cells.items uri local keys.cells_are;
    }

pub returns-in-None : goal.returns-in-None
returns-in-None c =
    let keys = c.args.self.now in
    let uri = c.args.uri.now in
    let local = c.args.local.now in
    record {
      number =
          c.in-None.ensures.place
          ∙ ap (λ (cells : List KeyCell). position (λ (x : KeyCell). is_name uri local x.name) cells) c.deref.ensures.value
          ∙ number-is keys.tree.value keys.sheet.value.keys keys.cells.items uri local keys.cells_are;
    }
