use Rattle.std.proofs.Common.{arith, rules, ap, ◌≡◌, ◌++◌, ◌∷◌, ◌∙◌, [], List, refl, reverse, subst, sym}
use Rattle.std.specs.List.{All}
use Rattle.xs_core.specs.Good.{total}
use Rattle.xs_core.proofs.SumLemmas.{total-push}
use Rattle.xs_pool.specs.Owners.{given_of, HasGiven}
use Rattle.xs_pool.proofs.ListLemmas.{each-before, item-moved}
use Rattle.xs_pool.proofs.OrderLemmas.{append-none, gave-more, gave-none}
use Rattle.xs_pool.proofs.moves.give.Goals as goal

pub loop-task-preserved : goal.loop-task-preserved
loop-task-preserved g c =
    let i = c.loop-task.invariant in
    let s = c.give_one.ensures.same in
    let e = c.in-Some.ensures.items in
    record {
      same = (s.0 ∙ i.same.0, s.1 ∙ i.same.1, s.2 ∙ i.same.2, omega (arith, i.same.3, s.3));
      parts = c.give_one.ensures.parts ∙ i.parts;
      taken = c.give_one.ensures.taken ∙ i.taken;
      kept = c.give_one.ensures.kept;
      tasks = each-before (λ j x. g.K.Known.waits x) c.pop.new.self.items c.in-Some.task
          (subst (λ (l : List g.row.T.Denot). All g.K.Known.waits l) e i.tasks);
      given = λ h.
          let a = ap (λ (l : List g.row.T.Denot). total h l) e in
          let b = total-push h c.pop.new.self.items c.in-Some.task in
          let d = i.given h in
          let f = c.in_ok-give_one.ensures.given h in
          omega arith;
      ordered =
          let d = i.ordered.0 in
          let t = c.in-Some.task in (
            d ++ t ∷ [],
            (
              item-moved d (d ++ t ∷ []) c.pop.new.self.items c.loop-task.tasks.items t _ i.ordered.1.0 e refl,
              gave-more d (t ∷ []) (given_of c.args.deque.now) (given_of c.loop-task.deque) (given_of c.give_one.new.deque) c.args.kept.now.items
                  c.loop-task.kept.items c.give_one.new.kept.items i.ordered.1.1 c.in_ok-give_one.ensures.ordered,
            ),
          );
    }

pub loop-task-init : goal.loop-task-init
loop-task-init g c = record {
  same = (refl, refl, refl, omega arith);
  parts = refl;
  taken = refl;
  kept = c.requires.kept;
  tasks = c.requires.tasks;
  given = λ h. omega arith;
  ordered = ([], (refl, gave-none (given_of c.args.deque.now) c.args.kept.now.items));
}

pub returns-clause-ordered : goal.returns-clause-ordered
returns-clause-ordered g c =
    let i = c.loop-task.invariant.ordered in
    let z : c.loop-task.tasks.items ≡ [] = search rules in
    let d = i.0 in
    let n : d ≡ reverse c.args.tasks.items = sym (append-none d) ∙ ap (λ (l : List g.row.T.Denot). d ++ reverse l) (sym z) ∙ i.1.0 in
    subst (λ (l : List g.row.T.Denot). HasGiven l (given_of c.args.deque.now) (given_of c.loop-task.deque) c.args.kept.now.items
    c.loop-task.kept.items) n i.1.1
