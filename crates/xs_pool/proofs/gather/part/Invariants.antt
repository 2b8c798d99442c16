use Rattle.std.proofs.Common.{◌≡◌, ◌++◌, map, reverse, length}
use Rattle.xs_pool.specs.Together.{all_of}
use Rattle.xs_pool.proofs.gather.part.Given as goal

abbrev pub invariant-loop-member : goal.invariant-loop-member
invariant-loop-member g l = record {
  owners : l.owners.items ++ map (λ m. m.deque) (reverse l.members.items) ≡ map (λ m. m.deque) (reverse l.fn.members.items);
  rows : l.rows.items ++ map (λ m. m.rights) (reverse l.members.items) ≡ map (λ m. m.rights) (reverse l.fn.members.items);
  desks : l.desks.items ++ map (λ m. m.desk) (reverse l.members.items) ≡ map (λ m. m.desk) (reverse l.fn.members.items);
  logs : l.logs.items ++ map (λ m. m.log) (reverse l.members.items) ≡ map (λ m. m.log) (reverse l.fn.members.items);
  kept : l.all_kept.items ++ all_of (λ m. m.kept.items) (reverse l.members.items) ≡ all_of (λ m. m.kept.items) (reverse l.fn.members.items);
}

abbrev pub decreases-loop-member : goal.decreases-loop-member
decreases-loop-member g l = length l.members.items
