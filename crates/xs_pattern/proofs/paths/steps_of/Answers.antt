use Rattle.std.proofs.Common.{ap, sym, ◌∙◌}
use Rattle.xs_xpath.specs.Exprs.{tree_from, trees_from}
use Rattle.xs_xpath.specs.declared.expr.Expr.{Expr}
use Rattle.xs_pattern_spec.specs.Matching.{steps_of}
use Rattle.xs_pattern.proofs.TreeLemmas.{steps_of-path}
use Rattle.xs_pattern.proofs.paths.steps_of.Goals as goal

pub returns-in-Path : goal.returns-in-Path
returns-in-Path c =
    ap trees_from c.deref.ensures.value
    ∙ sym (steps_of-path c.in-Path.field-0 c.in-Path.steps)
    ∙ sym (ap (λ (e : Expr). steps_of (tree_from e)) c.in-Path.is)
