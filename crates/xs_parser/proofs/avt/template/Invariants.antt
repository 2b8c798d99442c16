use denote.Shadow.{shadow}
use denote.Text.{Utf8}
use Rattle.std.proofs.Common.{◌≡◌, ◌-◌, ◌≤◌, length}
use Rattle.xs_parser.specs.steps.SoFar.{followed_by, so_far}
use Rattle.xs_parser.specs.Templates.{cut, parts_if, template_in}
use Rattle.xs_parser.proofs.avt.template.Given as goal

abbrev pub invariant-pieces : goal.invariant-pieces
invariant-pieces l = record {
  same : template_in l.scope.pairs.items l.text ≡ followed_by (so_far l.so_far) (parts_if l.scope.pairs.items (cut (length l.text - length l.rest) 0 l.rest));
  within : length l.rest ≤ length l.text;
  text : shadow (Utf8 l.rest);
}

abbrev pub decreases-pieces : goal.decreases-pieces
decreases-pieces l = length l.rest
