use Rattle.std.proofs.Common.{◌≡◌, ◌++◌, take}
use Rattle.xs_reply.specs.Answer.{message_lines}
use Rattle.xs_reply.proofs.items.append_messages.Given as goal

abbrev pub invariant-loop-text : goal.invariant-loop-text
invariant-loop-text l = l.lines.items ≡ l.initial.lines.items ++ message_lines (take l.text-index l.says)
