use Rattle.std.proofs.Common.{◌≡◌, ◌++◌, map}
use Rattle.std.specs.Str.{IsUtf8}
use Rattle.xs_result.specs.Text.{text_in}
use Rattle.xs_result.proofs.write.append_texts.Given as goal

-- the texts of what came
abbrev pub invariant-loop-event : goal.invariant-loop-event
invariant-loop-event g l = record {
  texts : l.out.items ≡ l.initial.out.items ++ text_in (map (λ e. e.now) l.yielded);
  utf8 : IsUtf8 l.initial.out.items → IsUtf8 l.out.items;
}
