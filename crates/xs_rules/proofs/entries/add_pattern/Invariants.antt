use Rattle.std.proofs.Common.{◌≡◌, ◌++◌, List, Some, map, slice_get, take}
use Rattle.xs_sheet.specs.declared.declarations.Template.{Template}
use Rattle.xs_rules.specs.Rules.{Candidate, candidate}
use Rattle.xs_rules.specs.steps.Index.{AreEntries}
use Rattle.xs_rules.proofs.entries.add_pattern.Given as goal

abbrev pub invariant-loop-place : goal.invariant-loop-place
invariant-loop-place l =
    (ts : List Template) (cs : List Candidate)
    → slice_get ts l.number ≡ Some l.template
    → l.template.pattern ≡ Some l.pattern
    → AreEntries ts cs l.initial.entries.items
    → AreEntries ts (cs ++ map (candidate l.number l.template l.pattern) (take l.place l.pattern.pattern)) l.entries.items
