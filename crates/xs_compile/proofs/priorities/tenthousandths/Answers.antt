use Rattle.std.proofs.Common.{◌∙◌, ◌≤◌, ap, sym, arith, drop, length, List, ℕ}
use Rattle.std.specs.List.{list_all}
use Rattle.std.specs.Prelude.{codes}
use Rattle.std.specs.Str.Parse.{digits_value_after}
use Rattle.xs_compile.proofs.PriorityLemmas.{number_fits, number_is, part_fits, parted, zeros_digits, zeros_few, zeros_fit}
use Rattle.xs_xpath.specs.Digits.{is_digit}
use Rattle.xs_compile.proofs.priorities.tenthousandths.Goals as goal

pub digits_after-all-requires-clause-few : goal.digits_after-all-requires-clause-few
digits_after-all-requires-clause-few c =
    let whole = c.as_bytes.result.now in
    let part = c.as_bytes-2.result.now in
    let p = parted c.args.text.now whole part c.requires (c.as_bytes.ensures.value ∙ c.split_point.ensures.whole) (c.as_bytes-2.ensures.value
    ∙ c.split_point.ensures.part) in
    part_fits whole part p.whole_few p.part_few c.digits_after-before.result c.digits_after-before.ensures.few

pub digits_after-requires-clause-digits : goal.digits_after-requires-clause-digits
digits_after-requires-clause-digits c =
    ap (list_all is_digit) c.zeros_behind.ensures ∙ zeros_digits (length c.split_point.result.1.now)

pub digits_after-requires-clause-few : goal.digits_after-requires-clause-few
digits_after-requires-clause-few c =
    let whole = c.as_bytes.result.now in
    let part = c.as_bytes-2.result.now in
    let zeros = c.zeros_behind.result.now in
    let p = parted c.args.text.now whole part c.requires (c.as_bytes.ensures.value ∙ c.split_point.ensures.whole) (c.as_bytes-2.ensures.value
    ∙ c.split_point.ensures.part) in
    let few : length zeros ≤ 4 = omega (arith, zeros_few (length c.split_point.result.1.now), ap length c.zeros_behind.ensures) in
    zeros_fit whole part p.whole_few p.part_few zeros few c.digits_after-before.result c.digits_after-all.result
    c.digits_after-before.ensures.few c.digits_after-all.ensures.few

pub returns-clause-value : goal.returns-clause-value
returns-clause-value c =
    let whole = c.as_bytes.result.now in
    let part = c.as_bytes-2.result.now in
    let p = parted c.args.text.now whole part c.requires (c.as_bytes.ensures.value ∙ c.split_point.ensures.whole) (c.as_bytes-2.ensures.value
    ∙ c.split_point.ensures.part) in
    number_is c.args.text.now whole part c.digits_after-before.result c.digits_after-all.result c.digits_after.result
    (c.as_bytes.ensures.value ∙ c.split_point.ensures.whole) (c.as_bytes-2.ensures.value ∙ c.split_point.ensures.part) p.part_few
    c.digits_after-before.ensures.value c.digits_after-all.ensures.value
    (c.digits_after.ensures.value
    ∙ ap (digits_value_after 10 c.digits_after-all.result)
    (c.zeros_behind.ensures ∙ ap (λ (t : List ℕ). drop (length t) (codes "0000")) (sym c.as_bytes-2.ensures.value)))

pub returns-clause-few : goal.returns-clause-few
returns-clause-few c =
    let whole = c.as_bytes.result.now in
    let part = c.as_bytes-2.result.now in
    let zeros = c.zeros_behind.result.now in
    let p = parted c.args.text.now whole part c.requires (c.as_bytes.ensures.value ∙ c.split_point.ensures.whole) (c.as_bytes-2.ensures.value
    ∙ c.split_point.ensures.part) in
    let few : length zeros ≤ 4 = omega (arith, zeros_few (length c.split_point.result.1.now), ap length c.zeros_behind.ensures) in
    number_fits whole part p.whole_few p.part_few zeros few c.digits_after-before.result c.digits_after-all.result c.digits_after.result
    c.digits_after-before.ensures.few c.digits_after-all.ensures.few c.digits_after.ensures.few
