-- What a run in pieces gives of the root of a source.
use Rattle.std.specs.Prelude.{◌≡◌, ℕ, None}
use Rattle.xs_assemble.specs.Assembled.{EndsIn}
use Rattle.xs_assemble.specs.declared.assembled.Executed.{Executed}
use Rattle.xs_record.specs.Segment.{items_of}
use Rattle.xs_body_spec.specs.Globals.{Table}
use Rattle.xs_body_spec.specs.World.{World}
use Rattle.xs_trace.specs.Mark.{events_of, messages_of, tick_count}
use Rattle.xs_reply.specs.Evaluation.{root_cut, root_pieces}
use Rattle.xs_reply.specs.Headline.{AreRun}
use Rattle.xs_reply.specs.Items.{events_in}
use Rattle.xs_reply.specs.Job.{Job}
use Rattle.xs_reply.specs.declared.reply.Pieces.{Pieces}

-- It is the cut of the root's trace over the values of the globals: its events, its messages, its end and its ticks. Its pieces were
-- run by so many workers; all of them, where it has no fault.
pub record IsRan (job : Job) (count : ℕ) (w : World) (t : Table) (e : Executed) : Type 0 where
  pub events : events_in (items_of e.assembled.items) ≡ events_of (root_cut job w t).passed
  pub messages : e.assembled.says.items ≡ messages_of (root_cut job w t).passed
  pub end : EndsIn (root_cut job w t).end e.assembled.end
  pub ticks : e.assembled.ticks ≡ tick_count (root_cut job w t).passed
  pub run : AreRun (root_pieces job w t) (e.assembled.end ≡ None) count e.claims.items e.assembled.inline e.worked

-- how its pieces were run: who claimed them, how many were evaluated again in their place, what all took, and what they recorded
abbrev pub pieces_of : Executed → Pieces
pieces_of e = record { claims = e.claims; inline = e.assembled.inline; worked = e.worked; items = e.assembled.items }
