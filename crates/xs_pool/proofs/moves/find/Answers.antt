use Rattle.std.proofs.Common.{arith, ap, ◌∷◌, [], List}
use Rattle.xs_core.specs.Good.{total}
use Rattle.xs_pool.specs.declared.rule.Moves.{Moves}
use Rattle.xs_pool.specs.Owners.{taken_of}
use Rattle.xs_pool.proofs.RuleLemmas.{may-steal, may-take}
use Rattle.xs_pool.proofs.RunLemmas.{total-join}
use Rattle.xs_pool.proofs.moves.find.Goals as goal

pub pop_as-requires-clause-fifo : goal.pop_as-requires-clause-fifo
pop_as-requires-clause-fifo g c = λ _. may-steal g.K.Known.waits _ _ c.requires.parts

pub pop_as-requires-clause-lifo : goal.pop_as-requires-clause-lifo
pop_as-requires-clause-lifo g c = λ _. may-take g.K.Known.waits _ _ c.requires.parts

pub returns-in-Some-clause-taken : goal.returns-in-Some-clause-taken
returns-in-Some-clause-taken g c = λ h.
    let a = total-join h c.pop.new.self.items (c.in-Some.task ∷ []) in
    let b = ap (λ (l : List g.row.T.Denot). total h l) c.in-Some.ensures.items in
    omega arith

pub returns-in-Some-pop_as-clause-taken : goal.returns-in-Some-pop_as-clause-taken
returns-in-Some-pop_as-clause-taken g c = λ h.
    let a = total-join h (taken_of c.args.deque.now) (c.in-Some-pop_as.task ∷ []) in
    let b = ap (λ (l : List g.row.T.Denot). total h l) c.in_default.ensures.items in
    let d = total-join h c.pop.new.self.items [] in
    let e = ap (λ (v : Moves g.row.T.Denot). total h v.taken) c.in-Some-pop_as.ensures.rule.0 in
    omega arith
