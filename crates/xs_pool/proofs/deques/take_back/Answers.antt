use Rattle.std.proofs.Common.{arith, ap, ◌≡◌, ◌<◌, ◌+◌, ◌∷◌, ◌++◌, ◌∙◌, [], ℕ, subst, sym, length, map, get_or, set, rules}
use Rattle.std.proofs.lemmas.List.{length-set}
use Rattle.crossbeam_deque.specs.Handles.{worker_deque}
use Rattle.xs_pool.specs.Rights.{stolen_by, AreRights}
use Rattle.xs_pool.specs.Owners.{parts_of}
use Rattle.xs_pool.proofs.ListLemmas.{each-set, half-back, length-more, Halfway}
use Rattle.xs_pool.proofs.OwnerLemmas.{deques-stay, given-back, may-absorb, parts-back, taken-back}
use Rattle.xs_pool.proofs.RightLemmas.{rights-before}
use Rattle.xs_pool.proofs.RuleLemmas.{may-join}
use Rattle.xs_pool.proofs.deques.take_back.Goals as goal

pub absorb-requires-clause-table : goal.absorb-requires-clause-table
absorb-requires-clause-table g c =
    let i = c.loop-right.invariant in
    let ids = map worker_deque c.args.owners.now.items in
    let rs = c.pop.new.self.items in
    let r = c.in-Some.right in
    let o = c.index_mut.result.now in
    let rights = subst (AreRights ids) c.in-Some.ensures.items i.rights in
    let n = ap length c.in-Some.ensures.items in
    let m = length-more rs r in
    let k : c.len-k.result ≡ length rs = omega (arith, c.len-k.ensures, c.pop.new.self.ok.0) in
    let lt : length rs < length c.loop-right.owners.items = omega (arith, n, m, i.count) in
    may-absorb ids rs r rights c.loop-right.owners.items o i.deques lt (c.index_mut.ensures.value ∙ ap (λ (j : ℕ). get_or c.loop-right.owners.items j o) k)

pub absorb-requires-clause-rule : goal.absorb-requires-clause-rule
absorb-requires-clause-rule g c =
    let i = c.loop-right.invariant in
    let n = ap length c.in-Some.ensures.items in
    let m = length-more c.pop.new.self.items c.in-Some.right in
    let lt : c.len-k.result < length c.loop-right.owners.items = omega (arith, n, m, i.count, c.len-k.ensures, c.pop.new.self.ok.0) in
    may-join g.K.Known.waits _ _ _ _
    (subst (λ o. 0 < parts_of o) (sym c.index_mut.ensures.value) (i.some c.len-k.result c.index_mut.result.now lt))

pub loop-right-preserved : goal.loop-right-preserved
loop-right-preserved g c =
    let i = c.loop-right.invariant in
    let ids = map worker_deque c.args.owners.now.items in
    let os = c.loop-right.owners.items in
    let rs = c.pop.new.self.items in
    let r = c.in-Some.right in
    let w = c.index_mut.result.now in
    let o = c.absorb.new.self in
    let e = c.in-Some.ensures.items in
    let rights : AreRights ids (rs ++ r ∷ []) = subst (AreRights ids) e i.rights in
    let k = c.len-k.result in
    let n : length c.loop-right.rights.items ≡ length (rs ++ r ∷ []) = ap length e in
    let m = length-more rs r in
    let at : k ≡ length rs = omega (arith, c.len-k.ensures, c.pop.new.self.ok.0) in
    let lt : k < length os = omega (arith, n, m, i.count, at) in
    let v = c.index_mut.ensures.value in
    let u = c.absorb.ensures.rule in
    record {
      count = let z = length-set os k o in omega (arith, n, m, i.count, z);
      deques = deques-stay os k w o lt v c.absorb.ensures.same.0 ∙ i.deques;
      rights = rights-before ids rs r rights;
      some = each-set (λ j x. 0 < parts_of x) os k o (λ j d l q. i.some j d l) (let a = parts-back ids rs r rights w o u in omega arith);
      parts = λ p a.
          let before = subst (λ (y : ℕ). Halfway (λ x. parts_of x ≡ p) (λ x. parts_of x ≡ p + 1) y os)
          (let z : length c.loop-right.rights.items ≡ k + 1 = omega (arith, n, m, at) in z) (i.parts p a) in
          subst (λ (y : ℕ). Halfway (λ x. parts_of x ≡ p) (λ x. parts_of x ≡ p + 1) y (set os k o)) at
          (half-back (λ x. parts_of x ≡ p) (λ x. parts_of x ≡ p + 1) k os o before
          (parts-back ids rs r rights w o u ∙ ap (λ (y : ℕ). y + 1) (ap parts_of v ∙ (before k w lt).0 (omega arith))));
      given = λ h. given-back ids rs r rights h os k w o lt v u ∙ i.given h;
      taken = λ h.
          let a = taken-back ids rs r rights h os k w o lt v u in
          let b = i.taken h in
          let d = ap (stolen_by h) e in
          omega arith;
    }

pub returns-clause-parts : goal.returns-clause-parts
returns-clause-parts g c =
    λ p a k d l. ((c.loop-right.invariant.parts p a) k d l).1 (let e : length c.loop-right.rights.items ≡ 0 = search rules in omega (arith, e))
