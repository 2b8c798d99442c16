use Rattle.std.proofs.Common.{arith, ap, ◌≡◌, ◌<◌, ◌+◌, ◌∙◌, ℕ, subst, sym, length, map, get_or, refl}
use Rattle.crossbeam_deque.specs.Handles.{worker_deque}
use Rattle.xs_core.specs.Good.{total}
use Rattle.xs_core.proofs.SumLemmas.{total-push}
use Rattle.xs_pool.specs.declared.rule.Moves.{Moves}
use Rattle.xs_pool.specs.Rights.{deque_of_right, moves_by, stolen_by, AreRights, RightOf}
use Rattle.xs_pool.specs.Owners.{IsOpen}
use Rattle.xs_pool.proofs.ListLemmas.{half-next, half-none, length-more, as-long}
use Rattle.xs_pool.proofs.OwnerLemmas.{deques-stay, new-right, of-owner, open-after}
use Rattle.xs_pool.proofs.RightLemmas.{rights-more}
use Rattle.xs_pool.proofs.RuleLemmas.{may-split}
use Rattle.xs_pool.proofs.deques.rights_to.Goals as goal

pub another-right-requires : goal.another-right-requires
another-right-requires g c =
    let i = c.loop-k.invariant in
    let n = as-long worker_deque worker_deque c.loop-k.owners.items c.args.owners.now.items i.deques in
    let lt : c.loop-k.k < length c.loop-k.owners.items = omega (arith, n, c.loop-k-test.true, c.len-k-end.ensures, c.args.owners.now.ok.0) in
    let o = subst (IsOpen c.args.before) (sym c.index_mut.ensures.value) ((i.owners c.loop-k.k c.index_mut.result.now lt).1 (omega arith)) in
    let p = o.parts in
    let q = c.requires.few in
    may-split g.K.Known.waits _ _ (omega arith)

pub loop-k-init : goal.loop-k-init
loop-k-init g c =
    let e = c.new-rights.ensures.items in
    record {
      deques = refl;
      count = ap length e;
      rights = subst (AreRights (map worker_deque c.args.owners.now.items)) (sym e)
          (record { each = λ k d l. absurd (omega (arith, l)); deque = λ k d l. absurd (omega (arith, l)) });
      unused = λ h. ap (stolen_by h) e;
      owners = half-none (IsOpen (c.args.before + 1)) (IsOpen c.args.before) c.args.owners.now.items c.requires.«open»;
    }

pub loop-k-preserved : goal.loop-k-preserved
loop-k-preserved g c =
    let i = c.loop-k.invariant in
    let k = c.loop-k.k in
    let os = c.loop-k.owners.items in
    let ids = map worker_deque c.args.owners.now.items in
    let o = c.index_mut.result.now in
    let at = c.index_mut.ensures.value in
    let e = c.in_ok-push.ensures.items in
    let r = c.another-right.result in
    let s = c.another-right.ensures.same in
    let u = c.another-right.ensures.rule in
    let n = as-long worker_deque worker_deque os c.args.owners.now.items i.deques in
    let lt : k < length os = omega (arith, n, c.loop-k-test.true, c.len-k-end.ensures, c.args.owners.now.ok.0) in
    let is_open = subst (IsOpen c.args.before) (sym at) ((i.owners k o lt).1 (omega arith)) in
    record {
      deques = deques-stay os k o c.another-right.new.self lt at s.0 ∙ i.deques;
      count = ap length e ∙ length-more c.loop-k.rights.items r ∙ ap (λ (m : ℕ). m + 1) i.count;
      rights = subst (AreRights ids) (sym e) (rights-more ids c.loop-k.rights.items r i.rights (new-right r u.1 (worker_deque o) s.2)
          (λ d. subst (λ (m : ℕ). deque_of_right r ≡ get_or ids m d) (sym i.count) (of-owner os ids k o r i.deques lt at s.2 d)));
      unused = λ h.
          let a = ap (stolen_by h) e in
          let b = total-push (λ (x : RightOf g.row.T.Denot). total h (moves_by x).taken) c.loop-k.rights.items r in
          let d = ap (λ (v : Moves g.row.T.Denot). total h v.taken) u.1 in
          let f = i.unused h in
          omega arith;
      owners = half-next (IsOpen (c.args.before + 1)) (IsOpen c.args.before) k os c.another-right.new.self i.owners
          (open-after c.args.before o c.another-right.new.self c.requires.few is_open s.0 u.0);
    }
