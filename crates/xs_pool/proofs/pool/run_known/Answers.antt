use Rattle.std.proofs.Common.{arith, ap, ◌≡◌, ◌<◌, ◌≤◌, ◌+◌, ◌++◌, ◌∷◌, [], ◌∙◌, List, ℕ, sym, subst, length, cond, Some}
use Rattle.std.specs.List.{All}
use Rattle.std.proofs.lemmas.List.Elements.{All-cons, All-head, All-push, All-tail}
use Rattle.xs_core.specs.Good.{total}
use Rattle.xs_core.proofs.SumLemmas.{total-push}
use Rattle.xs_ledger.specs.Shares.{ledger_id}
use Rattle.xs_ledger.specs.declared.total.LedgerTotal.{LedgerTotal}
use Rattle.xs_core.specs.declared.place.Claim.{Claim}
use Rattle.xs_pieces.specs.Collection.{is_finished, ticks_spent, AreClaims, IsCollection}
use Rattle.xs_pieces.specs.Tree.{task_at}
use Rattle.xs_pieces.specs.declared.piece.Desk.{Desk}
use Rattle.xs_pieces.specs.declared.piece.Piece.{Piece}
use Rattle.xs_pool.specs.declared.log.Log.{Log}
use Rattle.xs_pool.specs.Logs.{all_left, left_in, run_in, spent_in, stopped_in, IsLog}
use Rattle.xs_pool.specs.Together.{all_of}
use Rattle.xs_pool.specs.Workers.{added_of, last_of, ledger_of, most_of}
use Rattle.xs_pool.proofs.CrewLemmas.{total-behind}
use Rattle.xs_pool.proofs.ListLemmas.{each-before, each-last, first-out, length-more, total-few, total-zero}
use Rattle.xs_pool.proofs.LogLemmas.{logs-join}
use Rattle.xs_pool.proofs.TurnLemmas.{claims-few}
use Rattle.xs_pool.proofs.WholeLemmas.{whole-claims, whole-collection}
use Rattle.xs_pool.proofs.pool.run_known.Goals as goal

pub finish-requires-clause-others : goal.finish-requires-clause-others
finish-requires-clause-others g c =
    let r = c.in_ok-ledger.ensures in
    let most = c.args.crew.now.limits.ticks in
    let ds = c.remove-desk.new.self.items in
    let d = c.remove-desk.result in
    let e : c.in_ok-ledger.field-0.desks.items ≡ d ∷ ds =
    first-out c.in_ok-ledger.field-0.desks.items d ds (let a = r.count in let b = c.requires.count.0 in omega (arith, a, b)) c.remove-desk.ensures.value
    c.remove-desk.ensures.items in
    λ κs o. subst (λ (x : List (Desk LedgerTotal)). All (λ (y : Desk LedgerTotal). most_of y.share ≡ most) x) (sym c.deref.ensures.value)
    (All-tail (λ (x : Desk LedgerTotal). most_of x.share ≡ most) d ds (subst (All (λ (x : Desk LedgerTotal). most_of x.share ≡ most)) e r.most))

pub finish-requires-clause-log : goal.finish-requires-clause-log
finish-requires-clause-log g c =
    let place = g.R.Runner.place_of c.args.crew.now.runner.now in
    let own = g.R.Runner.own c.args.crew.now.runner.now in
    let l = c.args.crew.now.limits in
    let count = c.args.crew.now.count in
    let r = c.in_ok-ledger.ensures in
    let gs = c.remove-log.new.self.items in
    let p = c.remove-log.result in
    let e : c.in_ok-ledger.field-0.logs.items ≡ p ∷ gs =
    first-out c.in_ok-ledger.field-0.logs.items p gs (let a = r.each in let b = c.requires.count.0 in omega (arith, a, b)) c.remove-log.ensures.value
    c.remove-log.ensures.items in
    let P : Log g.row.R-Task.Denot → Type 0 = λ x. IsLog place own g.K.Known.fits l count x.pieces.items x.claims.items in
    λ κs o. All-head P p gs (subst (All P) e r.logs)

pub finish-requires-clause-stopped : goal.finish-requires-clause-stopped
finish-requires-clause-stopped g c =
    let r = c.in_ok-ledger.ensures in
    let ds = c.in_ok-ledger.field-0.desks.items in
    let d = c.remove-desk.result in
    let p = c.remove-log.result in
    let some : 0 < length c.in_ok-ledger.field-0.logs.items = let a = r.each in let b = c.requires.count.0 in omega (arith, a, b) in
    λ κs o m. ap (λ (x : Log g.row.R-Task.Denot). stopped_in x.pieces.items) c.remove-log.ensures.value
    ∙ r.stopped 0 d p some (subst (λ (x : Desk LedgerTotal). last_of x.share ≤ c.args.crew.now.limits.ticks) c.remove-desk.ensures.value m)

pub finish-requires-clause-once : goal.finish-requires-clause-once
finish-requires-clause-once g c =
    let r = c.in_ok-ledger.ensures in
    let gs = c.remove-log.new.self.items in
    let p = c.remove-log.result in
    let e : c.in_ok-ledger.field-0.logs.items ≡ p ∷ gs =
    first-out c.in_ok-ledger.field-0.logs.items p gs (let a = r.each in let b = c.requires.count.0 in omega (arith, a, b)) c.remove-log.ensures.value
    c.remove-log.ensures.items in
    let P : Log g.row.R-Task.Denot → Type 0 = λ x. stopped_in x.pieces.items ≤ 1 in
    λ κs o. All-head P p gs (subst (All P) e r.once)

pub close_desks-requires : goal.close_desks-requires
close_desks-requires g c =
    let r = c.in_ok-ledger.ensures in
    let id = ledger_id c.in_ok-ledger.field-0.ledger.value in
    let most = c.args.crew.now.limits.ticks in
    let ds = c.remove-desk.new.self.items in
    let d = c.remove-desk.result in
    let e : c.in_ok-ledger.field-0.desks.items ≡ d ∷ ds =
    first-out c.in_ok-ledger.field-0.desks.items d ds (let a = r.count in let b = c.requires.count.0 in omega (arith, a, b)) c.remove-desk.ensures.value
    c.remove-desk.ensures.items in
    let f = c.in_ok-desk.ensures in
    let n = c.in_ok-desk.desk in
    let p = c.in_ok-push.ensures.items in
    let shares = subst (All (λ (x : Desk LedgerTotal). ledger_of x.share ≡ id)) e r.shares in
    let limits = subst (All (λ (x : Desk LedgerTotal). most_of x.share ≡ most)) e r.most in
    record {
      count =
          let a = ap length e in
          let b = ap length p in
          let m = length-more ds n in
          let o = r.count in
          let q = r.seats in
          omega (arith, a, b, m, o, q);
      shares = subst (All (λ (x : Desk LedgerTotal). ledger_of x.share ≡ id)) (sym p) (All-push (λ (x : Desk LedgerTotal). ledger_of x.share ≡ id) ds n
          (All-tail (λ (x : Desk LedgerTotal). ledger_of x.share ≡ id) d ds shares)
          (f.share ∙ All-head (λ (x : Desk LedgerTotal). ledger_of x.share ≡ id) d ds shares));
      most = subst (All (λ (x : Desk LedgerTotal). most_of x.share ≡ most)) (sym p) (All-push (λ (x : Desk LedgerTotal). most_of x.share ≡ most) ds n
          (All-tail (λ (x : Desk LedgerTotal). most_of x.share ≡ most) d ds limits) f.most);
    }

pub returns : goal.returns
returns g c =
    let is_own = g.R.Runner.is_own c.args.crew.now.runner.now in
    let place = g.R.Runner.place_of c.args.crew.now.runner.now in
    let own = g.R.Runner.own c.args.crew.now.runner.now in
    let whole = g.R.Runner.whole c.args.crew.now.runner.now in
    let l = c.args.crew.now.limits in
    let count = c.args.crew.now.count in
    let root = c.args.root in
    let known = c.requires.known in
    let r = c.in_ok-ledger.ensures in
    let ds = c.remove-desk.new.self.items in
    let d = c.remove-desk.result in
    let e : c.in_ok-ledger.field-0.desks.items ≡ d ∷ ds =
    first-out c.in_ok-ledger.field-0.desks.items d ds (let a = r.count in let b = c.requires.count.0 in omega (arith, a, b)) c.remove-desk.ensures.value
    c.remove-desk.ensures.items in
    let f = c.in_ok-desk.ensures in
    let n = c.in_ok-desk.desk in
    let p = c.in_ok-push.ensures.items in
    let t = c.in_ok-total.total in
    let z = c.in_ok-total.ensures in
    let gs = c.remove-log.new.self.items in
    let p0 = c.remove-log.result in
    let eg : c.in_ok-ledger.field-0.logs.items ≡ p0 ∷ gs =
    first-out c.in_ok-ledger.field-0.logs.items p0 gs (let a = r.each in let b = c.requires.count.0 in omega (arith, a, b)) c.remove-log.ensures.value
    c.remove-log.ensures.items in
    let P : Log g.row.R-Task.Denot → Type 0 = λ x. IsLog place own g.K.Known.fits l count x.pieces.items x.claims.items in
    let behind = c.in_ok-append_all.ensures in
    let first = c.finish.new.log in
    let ps = c.append_all.new.self.pieces.items in
    let cs = c.append_all.new.self.claims.items in
    let log : IsLog place own g.K.Known.fits l count ps cs =
    subst (λ (x : List (Piece g.row.R-Task.Denot)). IsLog place own g.K.Known.fits l count x cs) (sym behind.pieces)
    (subst (λ (y : List Claim). IsLog place own g.K.Known.fits l count (first.pieces.items ++ all_of (λ (x : Log g.row.R-Task.Denot). x.pieces.items) gs) y)
    (sym behind.claims)
    (logs-join place own g.K.Known.fits l count (λ (x : Log g.row.R-Task.Denot). x.pieces.items) (λ (x : Log g.row.R-Task.Denot). x.claims.items)
    (first ∷ gs) (All-cons P first gs f.log (All-tail P p0 gs (subst (All P) eg r.logs))))) in
    let ts = c.finish.new.left.items in
    let behind-by : (w : Piece g.row.R-Task.Denot → ℕ) →
    total w ps ≡ total w first.pieces.items + total (λ (x : Log g.row.R-Task.Denot). total w x.pieces.items) gs =
    λ w. total-behind w first.pieces.items ps gs behind.pieces in
    let pushed = c.in_ok-push_waiting.ensures.pushed in
    let a1 = ap (total (λ (x : Desk LedgerTotal). added_of x.share)) e in
    let a2 = ap (total (λ (x : Desk LedgerTotal). added_of x.share)) p in
    let a3 = total-push (λ (x : Desk LedgerTotal). added_of x.share) ds n in
    let s1 = z.sum in
    let s2 = r.spent in
    let s3 = f.spent in
    let s4 = behind-by (λ (x : Piece g.row.R-Task.Denot). ticks_spent x.outcome) in
    let s5 = ap (total (λ (x : Log g.row.R-Task.Denot). spent_in x.pieces.items)) eg in
    let at : (x : g.row.R-Task.Denot) → g.K.Known.fits x → task_at own (Some root) (place x) ≡ Some x = λ x f. (c.requires.at x f).1.0 in
    let counted : (h : g.row.R-Task.Denot → ℕ) → run_in h ps + total h ts ≡ h root + all_left h own l ps =
    λ h.
    let i = f.tally h in
    let j = r.tally h in
    let m = behind-by (λ (x : Piece g.row.R-Task.Denot). h x.task) in
    let q = behind-by (left_in h own l) in
    let o = ap (total (λ (x : Log g.row.R-Task.Denot). run_in h x.pieces.items)) eg in
    let u = ap (total (λ (x : Log g.row.R-Task.Denot). all_left h own l x.pieces.items)) eg in
    omega (arith, i, j, m, q, o, u) in
    let summed : t ≡ spent_in ps = omega (arith, a1, a2, a3, s1, s2, s3, s4, s5) in
    let done : t ≤ l.ticks → (stopped_in ps ≡ 0) × (ts ≡ []) =
    λ le.
    let after = subst (All (λ (x : Desk LedgerTotal). last_of x.share ≤ l.ticks)) p (z.answers le) in
    let mine = each-last (λ j (x : Desk LedgerTotal). last_of x.share ≤ l.ticks) ds n after in
    let others = each-before (λ j (x : Desk LedgerTotal). last_of x.share ≤ l.ticks) ds n after in
    let before = subst (All (λ (x : Desk LedgerTotal). last_of x.share ≤ l.ticks)) (sym e) (All-cons (λ (x : Desk LedgerTotal). last_of x.share ≤ l.ticks) d ds
    (f.before mine) others) in
    let q = f.done mine (subst (λ (x : List (Desk LedgerTotal)). All (λ (y : Desk LedgerTotal). last_of y.share ≤ l.ticks) x)
    (sym c.deref.ensures.value) others) in
    let q1 = q.1 in
    let none = total-zero (λ (x : Log g.row.R-Task.Denot). stopped_in x.pieces.items) c.in_ok-ledger.field-0.logs.items
    (λ k x lt. r.stopped k d x lt (before k d (let a = r.each in let b = r.count in omega (arith, lt, a, b)))) in
    let j = ap (total (λ (x : Log g.row.R-Task.Denot). stopped_in x.pieces.items)) eg in
    let m = behind-by (λ (x : Piece g.row.R-Task.Denot). cond (is_finished x.outcome) 0 1) in
    (omega (arith, q1, none, j, m), q.0) in
    record {
      collection = subst (λ (x : List (Piece g.row.R-Task.Denot)). IsCollection is_own place own root l x t) (sym pushed)
          (whole-collection is_own place own whole c.requires.ready g.K.Known.fits g.K.Known.waits root l known.is_own at known.fits
          (known.is_own root c.requires.root) c.requires.place t count ps cs ts log f.left counted summed done);
      claims = subst (λ (x : List (Piece g.row.R-Task.Denot)). AreClaims place count x cs) (sym pushed)
          (whole-claims is_own place own whole c.requires.ready g.K.Known.fits g.K.Known.waits root l known.is_own at known.fits
          (known.is_own root c.requires.root) c.requires.place t count ps cs ts log f.left counted summed done);
      bounded =
          let b = z.bounded in
          let i = ap length e in
          let j = ap length p in
          let m = length-more ds n in
          let o = r.count in
          omega (arith, b, i, j, m, o);
      turns = λ some.
          let a = claims-few own g.K.Known.fits l known.begins some place count ps cs log in
          let b = behind-by (λ (x : Piece g.row.R-Task.Denot). cond (is_finished x.outcome) 0 1) in
          let i = f.once in
          let j = total-few (λ (x : Log g.row.R-Task.Denot). stopped_in x.pieces.items) gs
          (All-tail (λ (x : Log g.row.R-Task.Denot). stopped_in x.pieces.items ≤ 1) p0 gs
          (subst (All (λ (x : Log g.row.R-Task.Denot). stopped_in x.pieces.items ≤ 1)) eg r.once)) in
          let m = ap length eg in
          let o = r.each in
          omega (arith, a, b, i, j, m, o, summed);
    }
