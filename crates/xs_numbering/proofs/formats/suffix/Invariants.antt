use denote.Shadow.{shadow}
use denote.Text.{Utf8}
use Rattle.std.proofs.Common.{◌≡◌, true, length}
use Rattle.xs_numbering.specs.Formats.{is_apart, pieces, suffix}
use Rattle.xs_numbering.proofs.formats.suffix.Given as goal

abbrev pub invariant-loop-after : goal.invariant-loop-after
invariant-loop-after l = record {
  text : shadow (Utf8 l.left);
  same : suffix (pieces l.left) ≡ suffix (pieces l.rest);
  apart : is_apart l.left ≡ true;
}

abbrev pub decreases-loop-after : goal.decreases-loop-after
decreases-loop-after l = length l.left
