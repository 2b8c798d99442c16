use Rattle.std.proofs.Common.{◌∙◌, ap, [], ◌∷◌, Bool, Ok}
use Rattle.std.proofs.lemmas.Result.{err_from_is_err_and}
use Rattle.xs_value.specs.steps.Operands.{CanStand, kept_numbers, some_numbers}
use Rattle.xs_value.proofs.KeptNumberLemmas.{none-is, number-fault, one-fault, one-is, row-answer, row-fault-answer}
use Rattle.xs_value.proofs.comparison.numbers.compare_one.Goals as goal

pub returns-in_err-x : goal.returns-in_err-x
returns-in_err-x c =
    let p = err_from_is_err_and c.from_residual.result c.from_residual.ensures.1 in
    let ys = kept_numbers c.args.tree.now c.args.right.now in
    rw (p.1, p.2) (number-fault (some_numbers c.args.op (c.args.x ∷ []) ys) c.in_err-x.field-0.0
    (one-fault c.args.op c.args.x ys c.in_err-x.field-0.0 c.in_err-x.was c.requires.some))

pub returns-in_err-row : goal.returns-in_err-row
returns-in_err-row c =
    let p = err_from_is_err_and c.from_residual-in_err-row.result c.from_residual-in_err-row.ensures.1 in
    let ys = kept_numbers c.args.tree.now c.args.right.now in
    rw (p.1, p.2) (row-fault-answer c.args.op c.in_ok-x.x ys (CanStand c.args.op c.args.right.now)
    (some_numbers c.args.op (c.args.x ∷ []) ys) c.in_err-row.field-0.0
    c.in_err-row.ensures (one-is c.args.op c.args.x c.in_ok-x.x ys c.in_ok-x.was))

pub returns : goal.returns
returns c =
    let ys = kept_numbers c.args.tree.now c.args.right.now in
    one-is c.args.op c.args.x c.in_ok-x.x ys c.in_ok-x.was
    ∙ row-answer c.args.op c.in_ok-x.x ys (CanStand c.args.op c.args.right.now) c.in_ok-row.row c.in_ok-row.ensures
    ∙ ap (λ (b : Bool). Ok b) (none-is c.in_ok-row.row c.is_none.result c.is_none.ensures)
