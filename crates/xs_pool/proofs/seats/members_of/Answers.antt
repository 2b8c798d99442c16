use Rattle.std.proofs.Common.{arith, rules, ap, ◌≡◌, ◌+◌, ◌++◌, [], ◌∙◌, ℕ, sym, refl, subst, length, map, reverse}
use Rattle.std.specs.List.{All}
use Rattle.std.proofs.lemmas.List.Elements.{All-push}
use Rattle.crossbeam_deque.specs.Handles.{worker_deque}
use Rattle.xs_pool.specs.Owners.{IsOpen}
use Rattle.xs_pool.specs.Starts.{IsFresh, IsNew, IsRow}
use Rattle.xs_pool.specs.Workers.{deque_of}
use Rattle.xs_pool.specs.declared.member.Member.{Member}
use Rattle.xs_pool.proofs.ListLemmas.{each-before, each-last, each-push, Each, length-image, length-more}
use Rattle.xs_pool.proofs.StartLemmas.{last-moved}
use Rattle.xs_pool.proofs.seats.members_of.Goals as goal

pub loop-deque-preserved : goal.loop-deque-preserved
loop-deque-preserved g c =
    let i = c.loop-deque.invariant in
    let ids = map worker_deque c.args.owners.items in
    let os = c.pop.new.self.items in
    let o = c.in-Some.deque in
    let eo = c.in-Some.ensures.items in
    let rs = c.pop-in-Some.new.self.items in
    let r = c.in-Some-pop.rights in
    let er = c.in-Some-pop.ensures.items in
    let ds = c.pop-in-Some-2.new.self.items in
    let d = c.in-Some-pop-2.desk in
    let ed = c.in-Some-pop-2.ensures.items in
    let ms = c.loop-deque.members.items in
    let e = c.in_ok-push.ensures.items in
    let opened = subst (All (IsOpen c.args.count)) eo i.«open» in
    let rows = subst (All (λ x. IsRow ids x.items)) er i.rights in
    let is_open = each-last (λ j x. IsOpen c.args.count x) os o opened in
    let w : Member g.row.T.Denot g.row.K.Denot = record {
      number = c.len.result;
      deque = o;
      rights = r;
      desk = d;
      log = c.new.result;
      kept = c.new-in-Some.result;
    } in
    let n = ap length eo in
    let m = length-more os o in
    let k = i.count in
    record {
      count = let a = ap length e in let b = length-more ms w in omega (arith, a, b, n, m, k);
      numbers =
          let IsNumbered : ℕ → Member g.row.T.Denot g.row.K.Denot → Type 0 = λ j x. x.number + (j + 1) ≡ c.args.count in
          subst (Each IsNumbered) (sym e) (each-push IsNumbered ms w i.numbers (let q = c.len.ensures in omega (arith, q, n, m, k)));
      rows = let a = i.rows in let b = ap length er in let q = length-more rs r in omega (arith, a, b, q, n, m);
      desks = let a = i.desks in let b = ap length ed in let q = length-more ds d in omega (arith, a, b, q, n, m);
      «open» = each-before (λ j x. IsOpen c.args.count x) os o opened;
      rights = each-before (λ j x. IsRow ids x.items) rs r rows;
      deques = last-moved worker_deque deque_of c.loop-deque.owners.items os o ms c.push.new.self.items w ids i.deques eo e refl;
      new = λ id limit a.
          let h = i.new id limit a in
          let fresh = subst (All (IsFresh id limit)) ed h.0 in (
            each-before (λ j x. IsFresh id limit x) ds d fresh,
            subst (All (IsNew id limit c.args.count ids)) (sym e) (All-push (IsNew id limit c.args.count ids) ms w h.1 (record {
              number = let q = c.len.ensures in omega (arith, q, n, m, k);
              last_in = is_open.last_in;
              parts = let p = is_open.parts in let b = length-image worker_deque c.args.owners.items in let q = c.requires.owners in omega (arith, p, b, q);
              given = is_open.given;
              taken = is_open.taken;
              row = each-last (λ j x. IsRow ids x.items) rs r rows;
              kept = c.new-in-Some.ensures.items;
              pieces = c.new.ensures.pieces;
              claims = c.new.ensures.claims;
              desk = each-last (λ j x. IsFresh id limit x) ds d fresh;
            })),
          );
    }

pub returns : goal.returns
returns g c =
    let i = c.loop-deque.invariant in
    let z : c.loop-deque.owners.items ≡ [] = search rules in
    record {
      count = let a = ap length z in let b = i.count in omega (arith, a, b);
      numbers = i.numbers;
      deques = ap (λ l. map worker_deque l ++ map deque_of (reverse c.loop-deque.members.items)) (sym z) ∙ i.deques;
      new = λ id limit a. (i.new id limit a).1;
    }
