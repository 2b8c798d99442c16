-- Attribute value templates (XSLT 1.0, 7.6.2): the texts of the parts, one after another.
use Rattle.std.specs.Prelude.{ℕ, ◌++◌, List, []}
use Rattle.xs_trace.specs.Run.{Run, give, fold, ◌>>=◌}
use Rattle.xs_value.specs.Conversion.{text_value}
use Rattle.xs_value.specs.Tables.{Table}
use Rattle.xs_xpath.specs.Templates.{Part, text, computed}
use Rattle.xs_eval_spec.specs.Context.{Context}
use Rattle.xs_eval_spec.specs.Evaluation.{run_of_tree}

-- one part more: fixed text, or an expression, whose value is converted to a string
abbrev pub and_part : List Table → Context → List ℕ → Part → Run (List ℕ)
and_part keys c before (text fixed) = give (before ++ fixed)
and_part keys c before (computed e) = do
  v ← run_of_tree keys e c
  give (before ++ text_value c.tree v)

abbrev pub template : List Table → List Part → Context → Run (List ℕ)
template keys parts c = fold (and_part keys c) [] parts
