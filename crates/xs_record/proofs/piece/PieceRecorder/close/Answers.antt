use Rattle.std.proofs.Common.{refl}
use Rattle.xs_record.proofs.PieceLemmas.{of-err, of-ok, piece-is}
use Rattle.xs_record.proofs.piece.PieceRecorder.close.Goals as goal

pub returns-in-Ok-clause-piece : goal.returns-in-Ok-clause-piece
returns-in-Ok-clause-piece g c = λ reported en.
    piece-is c.args.self.limits (g.T.Total.kept c.args.self.total) (g.T.Total.most c.args.self.total) (g.T.Total.added c.args.self.total)
    (g.T.Total.added c.settle-ended.new.total) c.args.self.unpaid c.args.self.left (g.T.Total.last c.args.self.total)
    (g.T.Total.last c.settle-ended.new.total) c.args.self.free c.args.children.now.items c.finish-parts.new.children.items c.args.self.parts.store
    c.args.self.room reported c.args.ended _ en (of-ok _ _ _ c.in-Ok.is c.finish-parts.ensures.marks) (of-ok _ _ _ c.in-Ok.is c.finish-parts.ensures.tasks)
    (of-ok _ _ _ c.in-Ok.is c.finish-parts.ensures.parts) refl c.settle-ended.ensures.added c.settle-ended.ensures.stays c.settle-ended.ensures.ended

pub returns-in-Ok-clause-blocks : goal.returns-in-Ok-clause-blocks
returns-in-Ok-clause-blocks g c =
    of-ok _ _ _ c.in-Ok.is c.finish-parts.ensures.blocks c.args.self.free c.args.self.counted c.args.self.enough

pub returns-in-Err-clause-free : goal.returns-in-Err-clause-free
returns-in-Err-clause-free g c =
    of-err _ _ _ c.in-Err.is c.finish-parts.ensures.free c.args.self.free c.args.self.counted c.args.self.enough
