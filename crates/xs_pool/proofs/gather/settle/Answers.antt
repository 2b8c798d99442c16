use Rattle.std.proofs.Common.{arith, rules, ap, ◌≡◌, ◌+◌, ◌-◌, ◌∙◌, [], sym, subst, length, map}
use Rattle.std.proofs.Common.{Vec, Global}
use Rattle.std.specs.List.{All}
use Rattle.crossbeam_deque.specs.Handles.{worker_deque}
use Rattle.xs_core.specs.Good.{total}
use Rattle.xs_core.proofs.SumLemmas.{total-push}
use Rattle.xs_pool.specs.Rights.{stolen_by, AreRights, RightOf}
use Rattle.xs_pool.specs.Rule.{all_parts}
use Rattle.xs_pool.proofs.ListLemmas.{as-long, each-before, each-last, length-more}
use Rattle.xs_pool.proofs.gather.settle.Goals as goal

pub take_back-requires : goal.take_back-requires
take_back-requires g c =
    let i = c.loop-row.invariant in
    let r = c.in-Some.row in
    let ids = map worker_deque c.args.owners.items in
    let last = each-last (λ j x. AreRights ids x.items × (length x.items ≡ length c.args.owners.items)) c.pop.new.self.items r
    (subst (All (λ x. AreRights ids x.items × (length x.items ≡ length c.args.owners.items))) c.in-Some.ensures.items i.rights) in
    record {
      rights = subst (λ x. AreRights x r.items) (sym i.deques) last.0;
      count = last.1 ∙ sym (as-long worker_deque worker_deque c.loop-row.owners.items c.args.owners.items i.deques);
      parts = λ k d l. let p = i.parts k d l in let q = i.few in omega (arith, p, q);
    }

pub drain_all-requires : goal.drain_all-requires
drain_all-requires g c =
    let i = c.loop-row.invariant in
    let z : c.loop-row.rows.items ≡ [] = search rules in
    let n = ap length z in
    record {
      parts = λ k d l. let p = i.parts k d l in omega (arith, p, n);
      left = c.requires.left;
    }

pub loop-row-preserved : goal.loop-row-preserved
loop-row-preserved g c =
    let i = c.loop-row.invariant in
    let a = c.take_back.ensures in
    let e = c.in-Some.ensures.items in
    let rs = c.pop.new.self.items in
    let r = c.in-Some.row in
    let ids = map worker_deque c.args.owners.items in
    let n = ap length e in
    let m = length-more rs r in
    let few = i.few in
    record {
      few = omega (arith, n, m, few);
      deques = a.deques ∙ i.deques;
      parts = λ k d l.
          let p = a.parts (all_parts - (length rs + 1)) (λ j x lt. let q = i.parts j x lt in omega (arith, q, n, m, few)) k d l in
          omega (arith, p, n, m, few);
      rights = each-before (λ j x. AreRights ids x.items × (length x.items ≡ length c.args.owners.items)) rs r
          (subst (All (λ x. AreRights ids x.items × (length x.items ≡ length c.args.owners.items))) e i.rights);
      given = λ h. a.given h ∙ i.given h;
      taken = λ h.
          let b = a.taken h in
          let d = i.taken h in
          let f = ap (total (λ (x : Vec (RightOf g.row.T.Denot) Global). stolen_by h x.items)) e in
          let k = total-push (λ (x : Vec (RightOf g.row.T.Denot) Global). stolen_by h x.items) rs r in
          omega (arith, b, d, f, k);
    }

pub returns : goal.returns
returns g c =
    let i = c.loop-row.invariant in
    let z : c.loop-row.rows.items ≡ [] = search rules in
    record {
      left = c.in_ok-drain_all.ensures.left;
      all = λ h.
          let a = c.in_ok-drain_all.ensures.all h in
          let b = i.given h in
          let d = i.taken h in
          let f = ap (total (λ (x : Vec (RightOf g.row.T.Denot) Global). stolen_by h x.items)) z in
          omega (arith, a, b, d, f);
    }
