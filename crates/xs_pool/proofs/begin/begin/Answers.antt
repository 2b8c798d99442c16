use Rattle.std.proofs.Common.{arith, ap, ◌≡◌, ◌+◌, ◌∷◌, [], ◌∙◌, ℕ, sym, subst, length, map, reverse}
use Rattle.std.specs.List.{All}
use Rattle.std.proofs.lemmas.List.{reverse-append}
use Rattle.std.proofs.lemmas.List.Elements.{All-push}
use Rattle.crossbeam_deque.specs.Handles.{stealer_deque}
use Rattle.xs_core.specs.Good.{total}
use Rattle.xs_core.proofs.SumLemmas.{total-push}
use Rattle.xs_ledger.specs.Shares.{ledger_id}
use Rattle.xs_pool.specs.declared.member.Member.{Member}
use Rattle.xs_pool.specs.Starts.{IsNew}
use Rattle.xs_pool.specs.Workers.{came_to, deque_of, held_by, ledger_of, IsWorking}
use Rattle.xs_pool.proofs.ListLemmas.{each-before, each-last, each-push, Each, length-image, length-more, length-reversed}
use Rattle.xs_pool.proofs.StartLemmas.{new-works, nothing-held}
use Rattle.xs_pool.proofs.begin.begin.Goals as goal

pub start-requires-clause-first : goal.start-requires-clause-first
start-requires-clause-first g c =
    let s = c.in_ok-ledger.ensures in
    let e = c.in-Some.ensures.items in
    let IsNumbered : ℕ → Member g.row.R-Task.Denot g.row.K.Denot → Type 0 = λ j x. x.number + (j + 1) ≡ c.args.crew.now.count in
    let n = each-last IsNumbered c.pop.new.self.items c.in-Some.first (subst (Each IsNumbered) e s.numbers) in
    let a = ap length e in
    let b = length-more c.pop.new.self.items c.in-Some.first in
    let d = s.count in
    omega (arith, n, a, b, d)

pub start-requires-clause-parts : goal.start-requires-clause-parts
start-requires-clause-parts g c =
    let s = c.in_ok-ledger.ensures in
    let ids = map stealer_deque c.in_ok-ledger.field-0.thieves.items in
    let IsFirst : Member g.row.R-Task.Denot g.row.K.Denot → Type 0 =
    IsNew (ledger_id c.in_ok-ledger.field-0.ledger.value) c.args.crew.now.limits.ticks c.args.crew.now.count ids in
    let n = each-last (λ j x. IsFirst x) c.pop.new.self.items c.in-Some.first (subst (All IsFirst) c.in-Some.ensures.items s.new) in
    let a = n.parts in
    let b = ap length s.deques in
    let d = length-image deque_of (reverse c.in_ok-ledger.field-0.members.items) in
    let k = length-reversed c.in_ok-ledger.field-0.members.items in
    let m = s.count in
    let q = c.requires.count.1 in
    omega (arith, a, b, d, k, m, q)

pub start-requires-clause-new : goal.start-requires-clause-new
start-requires-clause-new g c =
    let s = c.in_ok-ledger.ensures in
    let id = ledger_id c.in_ok-ledger.field-0.ledger.value in
    let ids = map stealer_deque c.in_ok-ledger.field-0.thieves.items in
    let IsFirst : Member g.row.R-Task.Denot g.row.K.Denot → Type 0 = IsNew id c.args.crew.now.limits.ticks c.args.crew.now.count ids in
    let n = each-last (λ j x. IsFirst x) c.pop.new.self.items c.in-Some.first (subst (All IsFirst) c.in-Some.ensures.items s.new) in
    λ κs o. (id, ids, n)

pub returns : goal.returns
returns g c =
    let s = c.in_ok-ledger.ensures in
    let place = g.R.Runner.place_of c.args.crew.now.runner.now in
    let own = g.R.Runner.own c.args.crew.now.runner.now in
    let l = c.args.crew.now.limits in
    let count = c.args.crew.now.count in
    let id = ledger_id c.in_ok-ledger.field-0.ledger.value in
    let ids = map stealer_deque c.in_ok-ledger.field-0.thieves.items in
    let ms = c.pop.new.self.items in
    let f = c.in-Some.first in
    let e = c.in-Some.ensures.items in
    let m = c.in_ok-first.first in
    let r = c.in_ok-first.ensures in
    let p = c.in_ok-push.ensures.items in
    let all = subst (All (IsNew id l.ticks count ids)) e s.new in
    let rest = each-before (λ j x. IsNew id l.ticks count ids x) ms f all in
    let n = r.new id ids (each-last (λ j x. IsNew id l.ticks count ids x) ms f all) in
    record {
      seats = s.seats;
      ends = s.ends;
      numbers =
          let IsNumbered : ℕ → Member g.row.R-Task.Denot g.row.K.Denot → Type 0 = λ j x. x.number + (j + 1) ≡ count in
          let old = subst (Each IsNumbered) e s.numbers in
          subst (Each IsNumbered) (sym p) (each-push IsNumbered ms m (each-before IsNumbered ms f old)
          (ap (λ (x : ℕ). x + (length ms + 1)) r.number ∙ each-last IsNumbered ms f old));
      count =
          let a = ap length p in
          let d = length-more ms m in
          let k = length-more ms f in
          let q = ap length e in
          let t = s.count in
          omega (arith, a, d, k, q, t);
      deques = ap (λ z. map deque_of (reverse z)) p ∙ ap (map deque_of) (reverse-append ms (m ∷ [])) ∙ ap (λ z. z ∷ map deque_of (reverse ms)) r.deque
          ∙ sym (ap (map deque_of) (ap reverse e ∙ reverse-append ms (f ∷ []))) ∙ s.deques;
      works = subst (All (IsWorking place own g.K.Known.fits g.K.Known.waits l count ids)) (sym p)
          (All-push (IsWorking place own g.K.Known.fits g.K.Known.waits l count ids) ms m
          (λ k d lt. new-works place own g.K.Known.fits g.K.Known.waits l count id ids _ (rest k d lt)) n.0);
      shares = subst (All (λ x. ledger_of x.desk.share ≡ id)) (sym p)
          (All-push (λ x. ledger_of x.desk.share ≡ id) ms m (λ k d lt. (rest k d lt).desk.ledger) n.1);
      tally = λ h.
          let a = ap (total (held_by h)) p in
          let d = total-push (held_by h) ms m in
          let a2 = ap (total (came_to h own l)) p in
          let d2 = total-push (came_to h own l) ms m in
          let z = nothing-held place own g.K.Known.fits g.K.Known.waits l count id ids h ms rest in
          let z0 = z.0 in
          let z1 = z.1 in
          let t = r.tally h in
          omega (arith, a, d, a2, d2, z0, z1, t);
    }
