use Rattle.std.proofs.Common.{◌≡◌, All, map, true, false, refl, ap, subst, ◌∙◌, sym, arith}
use Rattle.std.proofs.lemmas.List.Elements.{All-nil}
use Rattle.xs_core.specs.declared.place.Claim.{Claim}
use Rattle.xs_pieces.specs.Collection.{claimed_in}
use Rattle.xs_pool.proofs.RunLemmas.{starts, none-claims, runs-out, as-ran, claims-run, claims-next, workers-more, smaller, are-claims}
use Rattle.xs_pool.proofs.SwapLemmas.{claimed-swapped, length-swapped, run-swapped}
use Rattle.xs_pool.proofs.sequential.run_pieces.Goals as goal

pub run_next-requires : goal.run_next-requires
run_next-requires g c =
    let r = run-swapped (g.R.Runner.is_own c.args.runner.now) (g.R.Runner.place_of c.args.runner.now) (g.R.Runner.own c.args.runner.now) c.args.root
    c.args.limits c.loop-next.next (g.T.Total.added c.loop-next.desk.share) c.choose-chosen.result c.loop-next.pieces.items c.swap.new.self.items
    c.loop-next.invariant.run c.choose-chosen.ensures.waits (omega (arith, c.loop-next.pieces.ok.0, c.len-in-loop-next.ensures, c.choose-chosen.ensures.within))
    c.swap.ensures.items in
    let n = length-swapped c.loop-next.pieces.items c.swap.new.self.items c.loop-next.next c.choose-chosen.result c.swap.ensures.items in
    record {
      ready = c.requires.ready;
      within = omega (arith, n, c.loop-next.pieces.ok.0, c.len.ensures, c.loop-next-test.true);
      run = (c.args.root, r);
      most = c.loop-next.invariant.most;
      «open» = c.loop-next.invariant.last;
    }

pub returns-clause-run : goal.returns-clause-run
returns-clause-run g c = runs-out _ _ _ _ _ _ _ _ _ c.loop-next.invariant.run
    (omega (arith, c.loop-next.pieces.ok.0, c.len.ensures, c.loop-next-test.false))

pub returns-clause-claims : goal.returns-clause-claims
returns-clause-claims g c = are-claims _ _ _ c.loop-next.invariant.claims c.loop-next.invariant.workers

pub returns-then-is_over-clause-run : goal.returns-then-is_over-clause-run
returns-then-is_over-clause-run g c =
    let i = c.loop-next.invariant in
    let r = run-swapped (g.R.Runner.is_own c.args.runner.now) (g.R.Runner.place_of c.args.runner.now) (g.R.Runner.own c.args.runner.now) c.args.root
    c.args.limits c.loop-next.next (g.T.Total.added c.loop-next.desk.share) c.choose-chosen.result c.loop-next.pieces.items c.swap.new.self.items
    c.loop-next.invariant.run c.choose-chosen.ensures.waits (omega (arith, c.loop-next.pieces.ok.0, c.len-in-loop-next.ensures, c.choose-chosen.ensures.within))
    c.swap.ensures.items in
    let n = as-ran (g.R.Runner.is_own c.args.runner.now) (g.R.Runner.place_of c.args.runner.now) (g.R.Runner.own c.args.runner.now) c.args.root c.args.limits
    c.loop-next.next (g.T.Total.added c.loop-next.desk.share) (g.T.Total.added c.in_ok-ran.ran.desk.share) (g.T.Total.last c.in_ok-ran.ran.desk.share)
    c.in_ok-ran.ran.is_over true c.swap.new.self.items c.run_next.new.pieces.items c.if-is_over.true (c.in_ok-ran.ensures.next c.args.root r) in
    n.2

pub returns-then-is_over-clause-claims : goal.returns-then-is_over-clause-claims
returns-then-is_over-clause-claims g c =
    let i = c.loop-next.invariant in
    let r = run-swapped (g.R.Runner.is_own c.args.runner.now) (g.R.Runner.place_of c.args.runner.now) (g.R.Runner.own c.args.runner.now) c.args.root
    c.args.limits c.loop-next.next (g.T.Total.added c.loop-next.desk.share) c.choose-chosen.result c.loop-next.pieces.items c.swap.new.self.items
    c.loop-next.invariant.run c.choose-chosen.ensures.waits (omega (arith, c.loop-next.pieces.ok.0, c.len-in-loop-next.ensures, c.choose-chosen.ensures.within))
    c.swap.ensures.items in
    let p = c.index.result.now in
    let place = g.R.Runner.place_of c.args.runner.now in
    let old = c.swap.new.self.items in
    let j : map (λ (x : Claim). x.place) c.loop-next.claims.items ≡ claimed_in place old = i.claims
    ∙ sym (claimed-swapped place c.loop-next.pieces.items old c.loop-next.next c.choose-chosen.result c.choose-chosen.ensures.waits
    (omega (arith, c.loop-next.pieces.ok.0, c.len-in-loop-next.ensures, c.choose-chosen.ensures.within)) i.run.rest c.swap.ensures.items) in
    let m = length-swapped c.loop-next.pieces.items old c.loop-next.next c.choose-chosen.result c.swap.ensures.items in
    let n = as-ran (g.R.Runner.is_own c.args.runner.now) place (g.R.Runner.own c.args.runner.now) c.args.root c.args.limits c.loop-next.next
    (g.T.Total.added c.loop-next.desk.share) (g.T.Total.added c.in_ok-ran.ran.desk.share) (g.T.Total.last c.in_ok-ran.ran.desk.share)
    c.in_ok-ran.ran.is_over true old c.run_next.new.pieces.items c.if-is_over.true (c.in_ok-ran.ensures.next c.args.root r) in
    are-claims place c.run_next.new.pieces.items c.claim.new.claims.items
    (claims-run place old c.loop-next.next n.0 p c.loop-next.claims.items c.claim.new.claims.items
    (record { worker = 0; place = place p.task }) (omega
    (arith, m, c.loop-next.pieces.ok.0, c.len.ensures, c.loop-next-test.true)) r.rest c.index.ensures j c.in_ok-claim.ensures.claimed
    refl ∙ sym (ap (claimed_in place) n.1))
    (workers-more c.loop-next.claims.items c.claim.new.claims.items (record { worker = 0; place = place p.task }) i.workers
    c.in_ok-claim.ensures.claimed refl)

pub loop-next-init : goal.loop-next-init
loop-next-init g c = record {
  run = starts (g.R.Runner.is_own c.args.runner.now) (g.R.Runner.place_of c.args.runner.now) (g.R.Runner.own c.args.runner.now)
      (g.R.Runner.whole c.args.runner.now) c.requires.ready c.args.root c.args.limits (g.T.Total.added c.args.desk.share) c.in_ok-pieces.pieces.items
      c.requires.root c.requires.place c.requires.new.0
      c.in_ok-pieces.ensures.only;
  most = c.requires.most;
  last = let z = c.requires.new.1 in omega (arith, z);
  kept = refl;
  claims = none-claims (g.R.Runner.place_of c.args.runner.now) c.args.root c.in_ok-pieces.pieces.items c.new-claims.result.items
      c.in_ok-pieces.ensures.only
      c.new-claims.ensures.items;
  workers = subst (All (λ (x : Claim). x.worker ≡ 0)) (sym c.new-claims.ensures.items) (All-nil (λ (x : Claim). x.worker ≡ 0));
}

pub loop-next-preserved : goal.loop-next-preserved
loop-next-preserved g c =
    let i = c.loop-next.invariant in
    let r = run-swapped (g.R.Runner.is_own c.args.runner.now) (g.R.Runner.place_of c.args.runner.now) (g.R.Runner.own c.args.runner.now) c.args.root
    c.args.limits c.loop-next.next (g.T.Total.added c.loop-next.desk.share) c.choose-chosen.result c.loop-next.pieces.items c.swap.new.self.items
    c.loop-next.invariant.run c.choose-chosen.ensures.waits (omega (arith, c.loop-next.pieces.ok.0, c.len-in-loop-next.ensures, c.choose-chosen.ensures.within))
    c.swap.ensures.items in
    let p = c.index.result.now in
    let place = g.R.Runner.place_of c.args.runner.now in
    let old = c.swap.new.self.items in
    let j : map (λ (x : Claim). x.place) c.loop-next.claims.items ≡ claimed_in place old = i.claims
    ∙ sym (claimed-swapped place c.loop-next.pieces.items old c.loop-next.next c.choose-chosen.result c.choose-chosen.ensures.waits
    (omega (arith, c.loop-next.pieces.ok.0, c.len-in-loop-next.ensures, c.choose-chosen.ensures.within)) i.run.rest c.swap.ensures.items) in
    let m = length-swapped c.loop-next.pieces.items old c.loop-next.next c.choose-chosen.result c.swap.ensures.items in
    let n = as-ran (g.R.Runner.is_own c.args.runner.now) place (g.R.Runner.own c.args.runner.now) c.args.root c.args.limits c.loop-next.next
    (g.T.Total.added c.loop-next.desk.share) (g.T.Total.added c.in_ok-ran.ran.desk.share) (g.T.Total.last c.in_ok-ran.ran.desk.share)
    c.in_ok-ran.ran.is_over false old c.run_next.new.pieces.items c.if-is_over.false (c.in_ok-ran.ensures.next c.args.root r) in
    record {
      run = n.3;
      most = c.in_ok-ran.ensures.most;
      last = n.4;
      kept = c.in_ok-ran.ensures.kept ∙ i.kept;
      claims = claims-next place old c.run_next.new.pieces.items n.1 n.0 c.loop-next.next _
          (claims-run place old c.loop-next.next n.0 p c.loop-next.claims.items c.claim.new.claims.items
          (record { worker = 0; place = place p.task }) (omega
          (arith, m, c.loop-next.pieces.ok.0, c.len.ensures, c.loop-next-test.true)) r.rest c.index.ensures j c.in_ok-claim.ensures.claimed
          refl) n.2;
      workers = workers-more c.loop-next.claims.items c.claim.new.claims.items (record { worker = 0; place = place p.task }) i.workers
          c.in_ok-claim.ensures.claimed refl;
    }

pub loop-next-smaller : goal.loop-next-smaller
loop-next-smaller g c =
    let i = c.loop-next.invariant in
    let r = run-swapped (g.R.Runner.is_own c.args.runner.now) (g.R.Runner.place_of c.args.runner.now) (g.R.Runner.own c.args.runner.now) c.args.root
    c.args.limits c.loop-next.next (g.T.Total.added c.loop-next.desk.share) c.choose-chosen.result c.loop-next.pieces.items c.swap.new.self.items
    c.loop-next.invariant.run c.choose-chosen.ensures.waits (omega (arith, c.loop-next.pieces.ok.0, c.len-in-loop-next.ensures, c.choose-chosen.ensures.within))
    c.swap.ensures.items in
    let n = as-ran (g.R.Runner.is_own c.args.runner.now) (g.R.Runner.place_of c.args.runner.now) (g.R.Runner.own c.args.runner.now) c.args.root c.args.limits
    c.loop-next.next (g.T.Total.added c.loop-next.desk.share) (g.T.Total.added c.in_ok-ran.ran.desk.share) (g.T.Total.last c.in_ok-ran.ran.desk.share)
    c.in_ok-ran.ran.is_over false c.swap.new.self.items c.run_next.new.pieces.items c.if-is_over.false (c.in_ok-ran.ensures.next c.args.root r) in
    smaller c.args.limits.ticks (g.T.Total.added c.loop-next.desk.share) (g.T.Total.added c.in_ok-ran.ran.desk.share) (g.T.Total.last c.loop-next.desk.share)
    c.loop-next.next _ (g.met.T.Total.seen c.loop-next.desk.share) i.last n.5 n.6 i.run.alone
    (omega (arith, c.loop-next.pieces.ok.0, c.len.ensures, c.loop-next-test.true))
