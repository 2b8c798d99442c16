use Rattle.std.proofs.Common.{◌≡◌, ◌-◌, suc, length, get_or, slice_set, ap, ◌∙◌, arith, rules}
use Rattle.std.proofs.lemmas.Grind.{common_steps}
use Rattle.xs_xpath.proofs.QuotientLemmas.{last_set}
use Rattle.xs_xpath.proofs.calls.divide_last.Goals as goal

pub returns-then-count-gt0 : goal.returns-then-count-gt0
returns-then-count-gt0 c =
    let ops = c.args.operators.now.items in
    let i = c.len-count.result - 1 in
    let last = c.index-last.result.now in
    let n : length ops ≡ suc i = omega (arith, c.len-count.ensures, c.if-count-gt0.true) in
    let is : last ≡ get_or ops i last = first_of (cc, search rules, grind (arith, common_steps)) in
    record {
      operators = ap (λ op. slice_set ops i op) c.instead_of_div.ensures ∙ last_set c.args.division ops i last n is;
    }
