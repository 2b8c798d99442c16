use Rattle.std.proofs.Common.{◌≡◌, ◌++◌, drop}
use Rattle.std.specs.List.{flat_map}
use Rattle.std.specs.Str.{IsUtf8}
use Rattle.xs_value.specs.Conversion.{text_value}
use Rattle.xs_eval.proofs.strings.concat.Given as goal

abbrev pub invariant-loop-v : goal.invariant-loop-v
invariant-loop-v l =
    (l.bytes.items ++ flat_map (text_value l.tree) (drop l.v-index l.values) ≡ flat_map (text_value l.tree) l.values) × IsUtf8 l.bytes.items
