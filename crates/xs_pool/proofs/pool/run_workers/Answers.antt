use Rattle.std.proofs.Common.{arith, ap, ◌≡◌, ◌≤◌, ◌∙◌, List, sym, subst, length, get_or, map, reverse}
use Rattle.std.specs.List.{All}
use Rattle.crossbeam_deque.specs.Handles.{stealer_deque}
use Rattle.xs_core.specs.Good.{total}
use Rattle.xs_ledger.specs.Shares.{ledger_id}
use Rattle.xs_ledger.specs.declared.total.LedgerTotal.{LedgerTotal}
use Rattle.xs_pieces.specs.declared.piece.Desk.{Desk}
use Rattle.xs_pool.specs.Logs.{spent_in, stopped_in, IsLog}
use Rattle.xs_pool.specs.Rights.{AreRights}
use Rattle.xs_pool.specs.Workers.{added_of, deque_of, last_of, ledger_of, most_of, HaveStopped, IsWorking}
use Rattle.xs_pool.specs.declared.log.Log.{Log}
use Rattle.xs_pool.specs.declared.member.Member.{Member}
use Rattle.xs_pool.proofs.CrewLemmas.{all-recorded}
use Rattle.xs_pool.proofs.ListLemmas.{all-image, all-images, all-reverse, image-reversed, length-image, length-reversed, pair-images, total-image}
use Rattle.xs_pool.proofs.ListLemmas.{total-same}
use Rattle.xs_pool.proofs.pool.run_workers.Goals as goal

pub gather-requires : goal.gather-requires
gather-requires g c =
    let place = g.R.Runner.place_of c.args.crew.now.runner.now in
    let own = g.R.Runner.own c.args.crew.now.runner.now in
    let l = c.args.crew.now.limits in
    let count = c.args.crew.now.count in
    let b = c.in_ok-ledger.ensures in
    let w = c.in_ok-members.ensures.worked in
    let ms = c.in_ok-ledger.field-0.members.items in
    let ns = c.in_ok-members.members.items in
    let ids = map stealer_deque c.deref.result.now in
    let works = all-reverse (IsWorking place own g.K.Known.fits g.K.Known.waits l count ids) ns w.works in
    let idn : map deque_of (reverse ns) ≡ ids =
    image-reversed deque_of ns ∙ ap reverse (pair-images deque_of deque_of ms ns w.many (λ k m n lt. (w.same k m n lt).deque))
    ∙ sym (image-reversed deque_of ms) ∙ b.deques ∙ sym (ap (map stealer_deque) c.deref.ensures.value) in
    let ln : length ids ≡ length ns = sym (ap length idn) ∙ length-image deque_of (reverse ns) ∙ length-reversed ns in
    record {
      few = let a = b.count in let d = c.requires.count.1 in let e = w.many in omega (arith, e, a, d);
      parts = λ k d lt. let p = (works k d lt).parts in omega (arith, p, ln);
      rights = λ k d lt. (
        subst (λ x. AreRights {T = g.row.R-Task.Denot} x (get_or (reverse ns) k d).rights.items) (sym idn) (works k d lt).rights,
        (works k d lt).full ∙ ln,
      );
      kept = λ k d lt. (works k d lt).kept;
    }

pub returns : goal.returns
returns g c =
    let place = g.R.Runner.place_of c.args.crew.now.runner.now in
    let own = g.R.Runner.own c.args.crew.now.runner.now in
    let l = c.args.crew.now.limits in
    let count = c.args.crew.now.count in
    let b = c.in_ok-ledger.ensures in
    let id = ledger_id c.in_ok-ledger.field-0.ledger.value in
    let w = c.in_ok-members.ensures.worked in
    let ms = c.in_ok-ledger.field-0.members.items in
    let ns = c.in_ok-members.members.items in
    let rs = reverse ns in
    let ids = map stealer_deque c.deref.result.now in
    let works = all-reverse (IsWorking place own g.K.Known.fits g.K.Known.waits l count ids) ns w.works in
    let shares = all-reverse (λ (m : Member g.row.R-Task.Denot g.row.K.Denot). ledger_of m.desk.share ≡ id) ns
    (λ k d lt. (w.same k d d lt).share ∙ b.shares k d (let e = w.many in omega (arith, lt, e))) in
    let ga = c.in_ok-desks.ensures in
    let desk : Member g.row.R-Task.Denot g.row.K.Denot → Desk LedgerTotal = λ (m : Member g.row.R-Task.Denot g.row.K.Denot). m.desk in
    let log : Member g.row.R-Task.Denot g.row.K.Denot → Log g.row.R-Task.Denot = λ (m : Member g.row.R-Task.Denot g.row.K.Denot). m.log in
    record {
      seats = b.seats;
      count = ap length ga.desks ∙ length-image desk rs ∙ length-reversed ns ∙ w.many ∙ b.count;
      shares = subst (All (λ (d : Desk LedgerTotal). ledger_of d.share ≡ id)) (sym ga.desks)
          (all-image (λ (d : Desk LedgerTotal). ledger_of d.share ≡ id) desk rs shares);
      most = subst (All (λ (d : Desk LedgerTotal). most_of d.share ≡ l.ticks)) (sym ga.desks)
          (all-image (λ (d : Desk LedgerTotal). most_of d.share ≡ l.ticks) desk rs (λ k d lt. (works k d lt).bound));
      each = ap length ga.logs ∙ length-image log rs ∙ length-reversed ns ∙ w.many ∙ b.count;
      logs = subst (All (λ (x : Log g.row.R-Task.Denot). IsLog place own g.K.Known.fits l count x.pieces.items x.claims.items)) (sym ga.logs)
          (all-image (λ (x : Log g.row.R-Task.Denot). IsLog place own g.K.Known.fits l count x.pieces.items x.claims.items) log rs
          (λ k d lt. (works k d lt).log));
      waits = ga.waits;
      tally = λ h. all-recorded own l ms ns w.many w.same h (h c.args.root) c.in_ok-desks.field-0.logs.items c.in_ok-desks.field-0.left.items
          ga.logs (ga.left h) (b.tally h);
      spent = ap (total (λ (x : Log g.row.R-Task.Denot). spent_in x.pieces.items)) ga.logs
          ∙ total-image (λ (x : Log g.row.R-Task.Denot). spent_in x.pieces.items) log rs
          ∙ total-same (λ (m : Member g.row.R-Task.Denot g.row.K.Denot). spent_in m.log.pieces.items)
          (λ (m : Member g.row.R-Task.Denot g.row.K.Denot). added_of m.desk.share) rs (λ k d lt. (works k d lt).spent)
          ∙ sym (total-image (λ (d : Desk LedgerTotal). added_of d.share) desk rs) ∙ sym (ap (total (λ (d : Desk LedgerTotal). added_of d.share)) ga.desks);
      stopped = subst (λ (x : List (Desk LedgerTotal)). HaveStopped l.ticks x c.in_ok-desks.field-0.logs.items) (sym ga.desks)
          (subst (λ (y : List (Log g.row.R-Task.Denot)). HaveStopped l.ticks (map desk rs) y) (sym ga.logs)
          (all-images (λ (d : Desk LedgerTotal) (x : Log g.row.R-Task.Denot). last_of d.share ≤ l.ticks → stopped_in x.pieces.items ≡ 0) desk log rs
          (λ k d lt. (works k d lt).stopped)));
      once = subst (All (λ (x : Log g.row.R-Task.Denot). stopped_in x.pieces.items ≤ 1)) (sym ga.logs)
          (all-image (λ (x : Log g.row.R-Task.Denot). stopped_in x.pieces.items ≤ 1) log rs (λ k d lt. (works k d lt).once));
    }
