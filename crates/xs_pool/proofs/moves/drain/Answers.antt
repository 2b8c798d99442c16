use Rattle.std.proofs.Common.{arith, ap, ◌∷◌, ◌∙◌, [], List, subst, sym}
use Rattle.std.specs.List.{All}
use Rattle.std.proofs.lemmas.List.Elements.{All-append}
use Rattle.xs_core.specs.Good.{total}
use Rattle.xs_pool.specs.declared.rule.Moves.{Moves}
use Rattle.xs_pool.specs.Owners.{taken_of}
use Rattle.xs_pool.proofs.RuleLemmas.{finds-none, may-steal, may-take}
use Rattle.xs_pool.proofs.RunLemmas.{total-join}
use Rattle.xs_pool.proofs.moves.drain.Goals as goal

pub pop_as-requires-clause-fifo : goal.pop_as-requires-clause-fifo
pop_as-requires-clause-fifo g c = λ _. may-steal g.K.Known.waits _ _ (let p = c.loop-task.invariant.parts in omega arith)

pub pop_as-requires-clause-lifo : goal.pop_as-requires-clause-lifo
pop_as-requires-clause-lifo g c = λ _. may-take g.K.Known.waits _ _ (let p = c.loop-task.invariant.parts in omega arith)

pub pop_as-requires-clause-empty : goal.pop_as-requires-clause-empty
pop_as-requires-clause-empty g c = finds-none g.K.Known.waits _ _ c.loop-task.invariant.parts

pub loop-task-preserved : goal.loop-task-preserved
loop-task-preserved g c =
    let i = c.loop-task.invariant in
    let e = c.in-Some.ensures.rule.0 in
    let p = c.in_ok-push.ensures.items in
    let t = c.in-Some.task in
    record {
      parts = ap (λ (v : Moves g.row.T.Denot). v.parts) e ∙ i.parts;
      given = ap (λ (v : Moves g.row.T.Denot). v.given) e ∙ i.given;
      left = subst (λ (l : List g.row.T.Denot). All g.K.Known.waits l) (sym p)
          (All-append g.K.Known.waits c.loop-task.left.items (t ∷ []) i.left c.in-Some.ensures.rule.1);
      all = λ h.
          let a = i.all h in
          let b = ap (λ (v : Moves g.row.T.Denot). total h v.taken) e in
          let d = total-join h (taken_of c.loop-task.deque) (t ∷ []) in
          let f = ap (λ (l : List g.row.T.Denot). total h l) p in
          let k = total-join h c.loop-task.left.items (t ∷ []) in
          omega arith;
    }
