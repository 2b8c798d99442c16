use Rattle.std.proofs.Common.{arith, ap, ◌∷◌, ◌∙◌, [], List, refl, sym, vec_len}
use Rattle.std.proofs.lemmas.List.Elements.{All-nil, All-cons}
use Rattle.xs_core.specs.Good.{total}
use Rattle.xs_pool.specs.declared.rule.Moves.{Moves}
use Rattle.xs_pool.specs.Owners.{given_of}
use Rattle.xs_pool.proofs.OrderLemmas.{gave-one, kept-one, none-in}
use Rattle.xs_pool.proofs.RuleLemmas.{may-give}
use Rattle.xs_pool.proofs.RunLemmas.{total-join}
use Rattle.xs_pool.proofs.moves.give_one.Goals as goal

pub push_as-requires-clause-pushes : goal.push_as-requires-clause-pushes
push_as-requires-clause-pushes g c =
    may-give g.K.Known.waits _ _ _ c.requires.parts (All-cons g.K.Known.waits _ [] c.requires.task (All-nil g.K.Known.waits))

pub returns-then-not-is_empty-clause-given : goal.returns-then-not-is_empty-clause-given
returns-then-not-is_empty-clause-given g c = λ h.
    let a = total-join h c.args.kept.now.items (c.args.task ∷ []) in
    let b = ap (λ (l : List g.row.T.Denot). total h l) c.in_ok-push.ensures.items in
    omega arith

pub returns-in-Ok-clause-given : goal.returns-in-Ok-clause-given
returns-in-Ok-clause-given g c = λ h.
    let a = total-join h (given_of c.args.deque.now) (c.args.task ∷ []) in
    let e = ap (λ (v : Moves g.row.T.Denot). total h v.given) c.in-Ok.ensures.rule.0 in
    omega arith

pub returns-then-not-is_empty-clause-ordered : goal.returns-then-not-is_empty-clause-ordered
returns-then-not-is_empty-clause-ordered g c =
    let same = given_of c.args.deque.now in
    kept-one c.args.task same same c.args.kept.now.items c.push.new.self.items refl c.in_ok-push.ensures.items

pub returns-in-Ok-clause-ordered : goal.returns-in-Ok-clause-ordered
returns-in-Ok-clause-ordered g c =
    let kept = c.args.kept.now.items in
    let n = none-in kept (vec_len c.args.kept.now) c.args.kept.now.ok.0 (sym c.is_empty.ensures ∙ c.if-not-is_empty.false) in
    gave-one c.args.task (given_of c.args.deque.now) (given_of c.push_as.new.self) kept kept
    (ap (λ (v : Moves g.row.T.Denot). v.given) c.in-Ok.ensures.rule.0) n refl
