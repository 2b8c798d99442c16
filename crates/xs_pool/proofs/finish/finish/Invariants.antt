use Rattle.std.proofs.Common.{◌≡◌, ◌≤◌, ◌+◌, ℕ}
use Rattle.std.specs.List.{All}
use Rattle.xs_core.specs.Good.{total}
use Rattle.xs_pool.specs.Logs.{all_left, run_in, spent_in, stopped_in, IsLog}
use Rattle.xs_pool.specs.Workers.{added_of, last_of, ledger_of, most_of}
use Rattle.xs_pool.proofs.finish.finish.Given as goal

abbrev pub invariant-loop-turn : goal.invariant-loop-turn
invariant-loop-turn g l =
    let own = g.R.Runner.own l.crew.runner.now in
    let limits = l.crew.limits in
    record {
      share : ledger_of l.desk.share ≡ ledger_of l.fn.desk.share;
      most : most_of l.desk.share ≡ limits.ticks;
      left : All g.K.Known.waits l.left.items;
      log : IsLog (g.R.Runner.place_of l.crew.runner.now) own g.K.Known.fits limits l.crew.count l.log.pieces.items l.log.claims.items;
      tally : (h : g.row.R-Task.Denot → ℕ) →
          (run_in h l.log.pieces.items + total h l.left.items) + all_left h own limits l.fn.log.pieces.items
          ≡ (run_in h l.fn.log.pieces.items + total h l.fn.left.items) + all_left h own limits l.log.pieces.items;
      spent : spent_in l.log.pieces.items + added_of l.fn.desk.share ≡ spent_in l.fn.log.pieces.items + added_of l.desk.share;
      once : stopped_in l.log.pieces.items ≤ 1;
      before : last_of l.desk.share ≤ limits.ticks → last_of l.fn.desk.share ≤ limits.ticks;
      stopped : last_of l.desk.share ≤ limits.ticks → stopped_in l.log.pieces.items ≡ stopped_in l.fn.log.pieces.items;
    }
