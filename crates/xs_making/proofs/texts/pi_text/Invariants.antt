use denote.Shadow.{shadow}
use denote.Text.{Utf8}
use Rattle.std.proofs.Common.{◌≡◌, ◌++◌, length, string_bytes}
use Rattle.xs_making.specs.Texts.{instruction_text}
use Rattle.xs_making.proofs.texts.pi_text.Given as goal

-- what was made, and what is made of the rest, is the whole
abbrev pub invariant-loop-before : goal.invariant-loop-before
invariant-loop-before l = record { text : shadow (Utf8 l.rest); made : string_bytes l.out ++ instruction_text l.rest ≡ instruction_text l.text }

abbrev pub decreases-loop-before : goal.decreases-loop-before
decreases-loop-before l = length l.rest
