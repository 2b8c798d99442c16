use Rattle.std.proofs.Common.{arith, ap, ◌+◌, ◌∙◌, ℕ, subst, sym, length}
use Rattle.std.specs.List.{All}
use Rattle.std.proofs.lemmas.List.Elements.{All-push}
use Rattle.xs_pool.specs.declared.rule.Moves.{Moves}
use Rattle.xs_pool.specs.Owners.{IsOpen}
use Rattle.xs_pool.proofs.ListLemmas.{length-more}
use Rattle.xs_pool.proofs.RuleLemmas.{balanced-first}
use Rattle.xs_pool.proofs.deques.open_deques.Goals as goal

pub lifo_as-requires : goal.lifo_as-requires
lifo_as-requires g c = balanced-first g.K.Known.waits

pub loop-deque-preserved : goal.loop-deque-preserved
loop-deque-preserved g c =
    let e = c.in_ok-push.ensures.items in
    let o = c.in_ok-lifo_as.field-0 in
    let d = c.in_ok-lifo_as.ensures in
    let v = d.4 in
    record {
      count = ap length e ∙ length-more c.loop-deque.owners.items o ∙ ap (λ (n : ℕ). n + 1) c.loop-deque.invariant.count;
      «open» = subst (All (IsOpen 0)) (sym e) (All-push (IsOpen 0) c.loop-deque.owners.items o c.loop-deque.invariant.«open» (record {
        last_in = d.1;
        parts = let a = ap (λ (u : Moves g.row.T.Denot). u.parts) v in omega arith;
        given = ap (λ (u : Moves g.row.T.Denot). u.given) v;
        taken = ap (λ (u : Moves g.row.T.Denot). u.taken) v;
      }));
    }
