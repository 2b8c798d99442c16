use Rattle.std.proofs.Common.{◌≡◌, ◌++◌, map}
use Rattle.std.specs.Cow.{cow_str_bytes}
use Rattle.std.specs.List.{flat_map}
use Rattle.xs_value.specs.Tables.{table_at}
use Rattle.xs_eval_spec.specs.Keys.{found_for}
use Rattle.xs_eval.proofs.evaluator.Evaluator.found_for_index.Given as goal

abbrev pub invariant-loop-text : goal.invariant-loop-text
invariant-loop-text g l =
    l.nodes ++ flat_map (found_for l.context (table_at (g.K.KeyFinder.tables l.self.keys.now) l.key)) (map cow_str_bytes l.text-iterator)
    ≡ flat_map (found_for l.context (table_at (g.K.KeyFinder.tables l.self.keys.now) l.key)) (map cow_str_bytes l.index.keys)
