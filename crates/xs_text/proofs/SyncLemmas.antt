-- A text may be shared between threads.
use denote.Param.Send.{IsSync, sendable}
use Rattle.std.proofs.Crossing.{crosses}
use Rattle.xs_text.specs.contracts.text.TextBuf as of_text

pub text_sync : IsSync (of_text.the_field).row
text_sync = search (sendable, crosses) depth 40 fits 20000
