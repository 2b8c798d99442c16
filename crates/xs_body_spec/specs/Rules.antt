-- The rules for nodes (XSLT 1.0, 5.5 and 5.6).
use Rattle.std.specs.Prelude.{ℕ, Option, Some, None}
use Rattle.xs_pattern_spec.specs.declared.rule.Rule.{Rule}
use Rattle.xs_pattern_spec.specs.declared.rule.Rule.TheVariants.{Template, BuiltIn}
use Rattle.xs_pattern_spec.specs.Rules.{chosen, chosen_import}
use Rattle.xs_body_spec.specs.declared.focus.Focus.{Focus}
use Rattle.xs_body_spec.specs.World.{World}

abbrev pub template_of : Rule → Option ℕ
template_of (Template i) = Some i
template_of BuiltIn = None

-- the template that is the rule for a node in a mode; none where a built-in rule is
abbrev pub rule_for : World → (mode node : ℕ) → Option ℕ
rule_for w mode n = template_of (chosen w.keys w.sheet.templates w.tree mode n)

-- the rule that the current one overrides, for the current node and mode
abbrev pub import_for : World → (current : ℕ) → Focus → Option ℕ
import_for w current f = template_of (chosen_import current w.keys w.sheet.templates w.tree f.mode f.node)
