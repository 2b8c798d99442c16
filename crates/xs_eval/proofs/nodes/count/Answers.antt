use Rattle.std.proofs.Common.{◌∙◌, ℕ, List, Ok, ap, length}
use Rattle.std.proofs.lemmas.Result.{err_from_is_err_and}
use Rattle.std.specs.Borrow.{Bor}
use Rattle.xs_num.specs.declared.number.Number.{Number}
use Rattle.xs_value.specs.declared.value.Value.{Value}
use Rattle.xs_value.specs.declared.value.Value.TheVariants.{Number as Numeral}
use Rattle.xs_eval_spec.specs.Functions.{first}
use Rattle.xs_eval_spec.specs.Results.{Outcome, ◌>>=◌, natural, nodes_in}
use Rattle.xs_eval.proofs.OutcomeLemmas.{fails, follows}
use Rattle.xs_eval.proofs.nodes.count.Goals as goal

-- the number of some nodes
abbrev sized : List ℕ → Outcome Value
sized ns = natural (length ns) >>= (λ (n : Number). Ok (Numeral n))

pub returns-in_err-nodes : goal.returns-in_err-nodes
returns-in_err-nodes c =
    let p = err_from_is_err_and c.from_residual.result c.from_residual.ensures.1 in
    record {
      value =
          fails (λ (ns : Bor (List ℕ)). ns.now) (λ (v : Value). v) (nodes_in (first c.args.values.now)) sized c.from_residual.result _ _ p.1 p.2
          c.in_err-nodes.ensures.nodes;
    }

pub returns-in_err-number : goal.returns-in_err-number
returns-in_err-number c =
    let r = c.from_residual-in_err-number in
    let p = err_from_is_err_and r.result r.ensures.1 in
    let ns = c.in_ok-nodes.nodes.now in
    record {
      value =
          follows (λ (v : Value). v) (nodes_in (first c.args.values.now)) sized ns r.result c.in_ok-nodes.ensures.nodes
          (fails (λ (n : Number). n) (λ (v : Value). v) (natural (length ns)) (λ (n : Number). Ok (Numeral n)) r.result _ _ p.1 p.2
          c.in_err-number.ensures.number);
    }

pub returns : goal.returns
returns c = record {
  value =
      ap (λ (o : Outcome (List ℕ)). o >>= sized) c.in_ok-nodes.ensures.nodes
      ∙ ap (λ (o : Outcome Number). o >>= (λ (n : Number). Ok (Numeral n))) c.in_ok-number.ensures.number;
}
