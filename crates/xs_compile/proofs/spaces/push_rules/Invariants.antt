use denote.Shadow.{shadow}
use denote.Text.{Utf8}
use Rattle.std.proofs.Common.{◌≡◌, ◌++◌, length, map}
use Rattle.xs_compile.specs.Spaces.{rules_of}
use Rattle.xs_compile.specs.steps.Spaces.{rule_as}
use Rattle.xs_elements.specs.WhiteSpace.{words}
use Rattle.xs_modules.specs.Results.{modules_data}
use Rattle.xs_compile.proofs.spaces.push_rules.Given as goal

-- the rules so far, with those of the words that are left, are all
abbrev pub invariant-loop-word : goal.invariant-loop-word
invariant-loop-word l = record {
  same : l.strips.items ++ map (rule_as l.strip l.scope.pairs.items l.precedence) (words l.rest)
      ≡ l.initial.strips.items ++ rules_of l.strip (modules_data l.modules) (l.fn.«number», l.fn.n);
  text : shadow (Utf8 l.rest);
}

abbrev pub decreases-loop-word : goal.decreases-loop-word
decreases-loop-word l = length l.rest
