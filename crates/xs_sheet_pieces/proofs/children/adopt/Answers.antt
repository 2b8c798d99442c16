use Rattle.xs_sheet_pieces.proofs.PieceLemmas.{ok-blocks}
use Rattle.xs_sheet_pieces.proofs.children.adopt.Goals as goal

pub returns-in-Err-clause-free : goal.returns-in-Err-clause-free
returns-in-Err-clause-free c =
    λ n m b f. c.free_parts.ensures.blocks n m (ok-blocks c.args.outcome c.in_ok-outcome.outcome n c.args.pool.now c.in_ok-outcome.was b)
