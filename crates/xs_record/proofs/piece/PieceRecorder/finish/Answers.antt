use Rattle.xs_record.proofs.PieceLemmas.{if-map}
use Rattle.xs_record.proofs.piece.PieceRecorder.finish.Goals as goal

pub returns-in-Ok-clause-piece : goal.returns-in-Ok-clause-piece
returns-in-Ok-clause-piece g c = if-map c.close.result.outcome _ _ (λ o h. h c.args.reported c.in-Ok.ensures.ended) c.close.ensures.piece

pub returns-in-Err-clause-free : goal.returns-in-Err-clause-free
returns-in-Err-clause-free g c = c.into_pool.ensures.blocks c.args.self.free c.args.self.counted c.args.self.enough
