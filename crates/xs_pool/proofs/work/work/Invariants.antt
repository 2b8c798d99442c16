use Rattle.std.proofs.Common.{◌≡◌, ◌≤◌, ◌+◌, ℕ, length, map}
use Rattle.std.specs.List.{All}
use Rattle.crossbeam_deque.specs.Handles.{stealer_deque, worker_deque, worker_flavor}
use Rattle.xs_core.specs.Good.{total}
use Rattle.xs_pool.specs.Logs.{all_left, run_in, spent_in, stopped_in, IsLog}
use Rattle.xs_pool.specs.Owners.{given_of, parts_of, taken_of}
use Rattle.xs_pool.specs.Rights.{stolen_by, AreRights}
use Rattle.xs_pool.specs.Rule.{all_parts}
use Rattle.xs_pool.specs.Workers.{added_of, came_to, held_by, last_of, ledger_of, most_of}
use Rattle.xs_pool.proofs.work.work.Given as goal

abbrev pub invariant-loop-turn : goal.invariant-loop-turn
invariant-loop-turn g l =
    let own = g.R.Runner.own l.crew.runner.now in
    let limits = l.crew.limits in
    record {
      deque : worker_deque l.deque ≡ worker_deque l.fn.member.deque;
      last_in : worker_flavor l.deque ≡ 1;
      parts : parts_of l.deque + length l.thieves ≡ all_parts;
      rights : AreRights (map stealer_deque l.thieves) l.rights.items;
      full : length l.rights.items ≡ length l.thieves;
      kept : All g.K.Known.waits l.kept.items;
      bound : most_of l.desk.share ≡ limits.ticks;
      share : ledger_of l.desk.share ≡ ledger_of l.fn.member.desk.share;
      log : IsLog (g.R.Runner.place_of l.crew.runner.now) own g.K.Known.fits limits l.crew.count l.log.pieces.items l.log.claims.items;
      mine : All (λ c. c.worker ≡ l.number) l.log.claims.items;
      tally : (h : g.row.R-Task.Denot → ℕ) →
          (run_in h l.log.pieces.items + (total h (given_of l.deque) + total h l.kept.items)) + came_to h own limits l.fn.member
          ≡ ((total h (taken_of l.deque) + stolen_by h l.rights.items) + all_left h own limits l.log.pieces.items) + held_by h l.fn.member;
      spent : spent_in l.log.pieces.items ≡ added_of l.desk.share;
      stopped : last_of l.desk.share ≤ limits.ticks → stopped_in l.log.pieces.items ≡ 0;
      once : stopped_in l.log.pieces.items ≤ 1;
    }
