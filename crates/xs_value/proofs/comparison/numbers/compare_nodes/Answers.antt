use Rattle.std.proofs.Common.{◌<◌, sym, arith, subst, length, drop, ◌-◌}
use Rattle.std.proofs.lemmas.List.Elements.{All-drop, All-take}
use Rattle.std.proofs.lemmas.Result.{err_from_is_err_and}
use Rattle.xs_num.specs.Text.{number_in}
use Rattle.xs_tree.specs.Record.{string_value}
use Rattle.xs_value.specs.Results.{Answers}
use Rattle.xs_value.specs.steps.Operands.{CanStand, kept_numbers, node_numbers, some_numbers}
use Rattle.xs_value.proofs.KeptNumberLemmas.{fault-answer, first-fault, first-row-fault, rest-is}
use Rattle.xs_value.proofs.MergeLemmas.{cons-from, tail}
use Rattle.xs_value.proofs.comparison.numbers.compare_nodes.Goals as goal

pub returns-in_err-x : goal.returns-in_err-x
returns-in_err-x c =
    let p = err_from_is_err_and c.from_residual.result c.from_residual.ensures.1 in
    let ys = kept_numbers c.args.tree.now c.args.right.now in
    rw (p.1, p.2) (fault-answer (number_in (string_value c.args.tree.now c.first-item.result))
    (some_numbers c.args.op (node_numbers c.args.tree.now c.args.nodes.now) ys) c.in_err-x.field-0.0 c.in_err-x.ensures
    (first-fault c.args.tree.now c.args.op c.args.nodes.now (tail c.args.nodes.now) c.first-item.result ys
    (cons-from c.args.nodes.now c.first-item.result (omega arith) c.first-item.is) c.requires.some))

pub returns-in_err-compare_row : goal.returns-in_err-compare_row
returns-in_err-compare_row c =
    let p = err_from_is_err_and c.from_residual-in_err-compare_row.result c.from_residual-in_err-compare_row.ensures.1 in
    rw (p.1, p.2) (first-row-fault c.args.tree.now c.args.op c.args.nodes.now (tail c.args.nodes.now) c.first-item.result c.in_ok-x.x
    (kept_numbers c.args.tree.now c.args.right.now) (CanStand c.args.op c.args.right.now) c.in_err-compare_row.field-0.0
    (cons-from c.args.nodes.now c.first-item.result (omega arith) c.first-item.is) c.in_ok-x.ensures c.in_err-compare_row.ensures)

pub compare_rest-requires : goal.compare_rest-requires
compare_rest-requires c = All-take (λ n. n < length c.args.tree.now) (length c.args.nodes.now - 1) (drop 1 c.args.nodes.now)
    (All-drop (λ n. n < length c.args.tree.now) 1 c.args.nodes.now c.requires.left)

pub returns-in-Some : goal.returns-in-Some
returns-in-Some c =
    subst (λ d. Answers d c.compare_rest.result)
    (sym (rest-is c.args.tree.now c.args.op c.args.nodes.now (tail c.args.nodes.now) c.first-item.result c.in_ok-x.x c.in-Some.y
    (kept_numbers c.args.tree.now c.args.right.now) (CanStand c.args.op c.args.right.now) c.in_ok-compare_row.field-0
    (cons-from c.args.nodes.now c.first-item.result (omega arith) c.first-item.is) c.in_ok-x.ensures c.in_ok-compare_row.ensures c.in-Some.is c.requires.can))
    c.compare_rest.ensures
