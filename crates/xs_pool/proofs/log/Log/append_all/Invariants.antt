use Rattle.std.proofs.Common.{◌≡◌, ◌++◌, reverse, length}
use Rattle.xs_pool.specs.Together.{all_of}
use Rattle.xs_pool.proofs.log.Log.append_all.Given as goal

abbrev pub invariant-loop-other : goal.invariant-loop-other
invariant-loop-other g l = record {
  pieces : l.self.pieces.items ++ all_of (λ x. x.pieces.items) (reverse l.others.items)
      ≡ l.fn.self.pieces.items ++ all_of (λ x. x.pieces.items) l.fn.others.items;
  claims : l.self.claims.items ++ all_of (λ x. x.claims.items) (reverse l.others.items)
      ≡ l.fn.self.claims.items ++ all_of (λ x. x.claims.items) l.fn.others.items;
}

abbrev pub decreases-loop-other : goal.decreases-loop-other
decreases-loop-other g l = length l.others.items
