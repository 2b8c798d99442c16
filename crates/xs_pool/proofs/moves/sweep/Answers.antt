use Rattle.std.proofs.Common.{arith, ap, ◌≡◌, ◌<◌, ◌∷◌, ◌∙◌, [], length}
use Rattle.std.proofs.lemmas.List.{length-set}
use Rattle.xs_core.specs.Good.{total}
use Rattle.xs_pool.specs.declared.rule.Moves.{Moves}
use Rattle.xs_pool.specs.Rights.{moves_by}
use Rattle.xs_pool.proofs.RightLemmas.{has-part, none-stolen, of-thief, rights-after, stolen-set}
use Rattle.xs_pool.proofs.RuleLemmas.{may-steal}
use Rattle.xs_pool.proofs.RunLemmas.{total-join}
use Rattle.xs_pool.proofs.moves.sweep.Goals as goal

pub steal_as-requires-clause-table : goal.steal_as-requires-clause-table
steal_as-requires-clause-table g c =
    let i = c.loop-k.invariant in
    let rs = c.loop-k.rights.items in
    let lt : c.loop-k.k < length rs = omega (arith, c.loop-k-test.true, c.len-k-end.ensures, i.count, c.args.rights.now.ok.0, c.loop-k.rights.ok.0) in
    of-thief c.args.thieves.now rs c.loop-k.k c.index_mut.result.now i.rights lt c.index_mut.ensures.value
    c.index-thieves-k.result (omega (arith, i.count, c.requires.count)) c.index-thieves-k.is

pub steal_as-requires-clause-takes : goal.steal_as-requires-clause-takes
steal_as-requires-clause-takes g c =
    let i = c.loop-k.invariant in
    let rs = c.loop-k.rights.items in
    let lt : c.loop-k.k < length rs = omega (arith, c.loop-k-test.true, c.len-k-end.ensures, i.count, c.args.rights.now.ok.0, c.loop-k.rights.ok.0) in
    may-steal g.K.Known.waits _ _ (has-part c.args.thieves.now rs c.loop-k.k c.index_mut.result.now i.rights lt c.index_mut.ensures.value)

pub returns-in-Success-clause-rights : goal.returns-in-Success-clause-rights
returns-in-Success-clause-rights g c =
    let i = c.loop-k.invariant in
    let rs = c.loop-k.rights.items in
    let lt : c.loop-k.k < length rs = omega (arith, c.loop-k-test.true, c.len-k-end.ensures, i.count, c.args.rights.now.ok.0, c.loop-k.rights.ok.0) in
    let e = c.in-Success.ensures.rule.0 in
    rights-after c.args.thieves.now rs c.loop-k.k c.index_mut.result.now i.rights lt c.index_mut.ensures.value
    c.steal_as.new.pass c.in-Success.ensures.same (ap (λ (v : Moves g.row.T.Denot). v.parts) e) (ap (λ (v : Moves g.row.T.Denot). v.given) e)

pub returns-in-Success-clause-taken : goal.returns-in-Success-clause-taken
returns-in-Success-clause-taken g c = λ h.
    let rs = c.loop-k.rights.items in
    let r = c.index_mut.result.now in
    let i = c.loop-k.invariant in
    let lt : c.loop-k.k < length rs = omega (arith, c.loop-k-test.true, c.len-k-end.ensures, i.count, c.args.rights.now.ok.0, c.loop-k.rights.ok.0) in
    let a = stolen-set h rs c.loop-k.k r c.steal_as.new.pass lt c.index_mut.ensures.value in
    let b = ap (λ (w : Moves g.row.T.Denot). total h w.taken) c.in-Success.ensures.rule.0 in
    let d = total-join h (moves_by r).taken (c.in-Success.task ∷ []) in
    let f = i.taken h in
    omega arith

pub loop-k-preserved : goal.loop-k-preserved
loop-k-preserved g c =
    let rs = c.loop-k.rights.items in
    let k = c.loop-k.k in
    let r = c.index_mut.result.now in
    let s = c.steal_as.new.pass in
    let at = c.index_mut.ensures.value in
    let i = c.loop-k.invariant in
    let lt : k < length rs = omega (arith, c.loop-k-test.true, c.len-k-end.ensures, i.count, c.args.rights.now.ok.0, c.loop-k.rights.ok.0) in
    let e : moves_by s ≡ moves_by r = none-stolen c.steal_as.result (moves_by r) (moves_by s) _ _ _ c.steal_as.ensures.rule c.in-Empty.is in
    record {
      rights = rights-after c.args.thieves.now rs k r i.rights lt at s c.steal_as.ensures.same
          (ap (λ (u : Moves g.row.T.Denot). u.parts) e) (ap (λ (u : Moves g.row.T.Denot). u.given) e);
      count = length-set rs k s ∙ i.count;
      taken = λ h.
          let a = stolen-set h rs k r s lt at in
          let b = ap (λ (u : Moves g.row.T.Denot). total h u.taken) e in
          let f = i.taken h in
          omega arith;
    }
