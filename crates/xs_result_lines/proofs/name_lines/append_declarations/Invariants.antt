use Rattle.std.proofs.Common.{◌≡◌, ◌++◌, length, map, take}
use Rattle.std.specs.Str.{IsUtf8}
use Rattle.xs_result_lines.specs.Lines.{bytes_of, declaration}
use Rattle.xs_result_lines.specs.steps.Open.{bindings_of}
use Rattle.xs_result_lines.proofs.name_lines.append_declarations.Given as goal

-- the bytes so far, and those of the rest
abbrev pub invariant-loop-first : goal.invariant-loop-first
invariant-loop-first l = record {
  whole :
      l.out.items ++ bytes_of (map declaration (bindings_of l.rest))
      ≡ l.initial.out.items ++ bytes_of (map declaration (bindings_of l.initial.rest));
  front : take (length l.initial.out.items) l.out.items ≡ l.initial.out.items;
  utf8 : IsUtf8 l.initial.out.items → IsUtf8 l.out.items;
}

abbrev pub decreases-loop-first : goal.decreases-loop-first
decreases-loop-first l = length l.rest
