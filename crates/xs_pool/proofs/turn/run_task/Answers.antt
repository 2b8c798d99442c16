use Rattle.std.proofs.Common.{arith, ap, ◌∙◌, [], sym, length}
use Rattle.xs_record.specs.Piece.{IsPiece}
use Rattle.xs_core.specs.Good.{total}
use Rattle.xs_pool.proofs.RunLemmas.{piece-of}
use Rattle.xs_pool.proofs.LogLemmas.{is-ran, left-done, left-over, children-wait, stopped-more, stopped-once, spent-more, run-more, log-more}
use Rattle.xs_pool.proofs.turn.run_task.Goals as goal

pub run-outcome-requires : goal.run-outcome-requires
run-outcome-requires g c = record {
  ready = c.requires.ready;
  task = c.requires.known.is_own c.args.task c.requires.task;
  «open» = let a = c.requires.most in let b = c.requires.«open» in omega (arith, a, b);
}

pub returns-then-is_done : goal.returns-then-is_done
returns-then-is_done g c =
    let own = g.R.Runner.own c.args.crew.now.runner.now in
    let place = g.R.Runner.place_of c.args.crew.now.runner.now in
    let l = c.args.crew.now.limits in
    let t = c.args.task in
    let o = c.in_ok-outcome.outcome in
    let r = c.run-outcome.result in
    let before = g.S.Total.added c.args.desk.share in
    let after = g.S.Total.added r.desk.share in
    let last = g.S.Total.last r.desk.share in
    let new = c.run-outcome.new.children.items in
    let ps = c.args.log.now.pieces.items in
    let qs = c.push.new.self.items in
    let e = c.in_ok-push.ensures.items in
    let i : IsPiece (own t) l l.ticks before after last [] new o =
    piece-of (own t) l (g.S.Total.most c.args.desk.share) l.ticks before after last c.new-children.result.items new r.outcome o c.in_ok-outcome.was
    c.requires.most c.new-children.ensures.items c.run-outcome.ensures.piece in
    let d = sym c.is_done.ensures.done ∙ c.if-is_done.true in
    record {
      kept = c.run-outcome.ensures.kept;
      most = c.run-outcome.ensures.most ∙ c.requires.most;
      log = log-more place own g.K.Known.fits l c.args.crew.now.count ps qs c.args.log.now.claims.items c.claim.new.claims.items t o c.args.worker
          c.requires.log (is-ran own g.K.Known.fits l before after last t new o i c.requires.task) c.requires.worker c.requires.root e
          c.in_ok-claim.ensures.claimed;
      claimed = c.in_ok-claim.ensures.claimed;
      children = children-wait own g.K.Known.fits l before after last t new o i g.K.Known.waits (c.requires.known.children t c.requires.task) d;
      run = λ h. run-more h ps qs t o e;
      left = λ h. left-done own g.K.Known.fits l before after last t new o i h ps qs d e;
      spent = spent-more own g.K.Known.fits l before after last t new o i ps qs e;
      once = stopped-once own g.K.Known.fits l before after last t new o i ps qs e;
      stopped = stopped-more own g.K.Known.fits l before after last t new o i ps qs e;
    }

pub returns : goal.returns
returns g c =
    let own = g.R.Runner.own c.args.crew.now.runner.now in
    let place = g.R.Runner.place_of c.args.crew.now.runner.now in
    let l = c.args.crew.now.limits in
    let t = c.args.task in
    let o = c.in_ok-outcome.outcome in
    let r = c.run-outcome.result in
    let before = g.S.Total.added c.args.desk.share in
    let after = g.S.Total.added r.desk.share in
    let last = g.S.Total.last r.desk.share in
    let new = c.run-outcome.new.children.items in
    let ps = c.args.log.now.pieces.items in
    let qs = c.push-2.new.self.items in
    let e = c.in_ok-push-2.ensures.items in
    let i : IsPiece (own t) l l.ticks before after last [] new o =
    piece-of (own t) l (g.S.Total.most c.args.desk.share) l.ticks before after last c.new-children.result.items new r.outcome o c.in_ok-outcome.was
    c.requires.most c.new-children.ensures.items c.run-outcome.ensures.piece in
    let d = sym c.is_done.ensures.done ∙ c.if-is_done.false in
    record {
      kept = c.run-outcome.ensures.kept;
      most = c.run-outcome.ensures.most ∙ c.requires.most;
      log = log-more place own g.K.Known.fits l c.args.crew.now.count ps qs c.args.log.now.claims.items c.claim.new.claims.items t o c.args.worker
          c.requires.log (is-ran own g.K.Known.fits l before after last t new o i c.requires.task) c.requires.worker c.requires.root e
          c.in_ok-claim.ensures.claimed;
      claimed = c.in_ok-claim.ensures.claimed;
      children = λ k x m. absurd (let z = ap length c.new.ensures.items in omega (arith, m, z));
      run = λ h. run-more h ps qs t o e;
      left = λ h.
          let a = left-over h own l ps qs t o d e in
          let b = ap (total h) c.new.ensures.items in
          omega (arith, a, b);
      spent = spent-more own g.K.Known.fits l before after last t new o i ps qs e;
      once = stopped-once own g.K.Known.fits l before after last t new o i ps qs e;
      stopped = stopped-more own g.K.Known.fits l before after last t new o i ps qs e;
    }
