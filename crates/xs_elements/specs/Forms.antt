-- What the value of an attribute has to be, beside what its form says of its text.
use Rattle.std.specs.Prelude.{Bool, true, false}
use Rattle.xs_elements.specs.declared.forms.Form.{Form}
use Rattle.xs_elements.specs.declared.forms.Form.TheVariants.{Expression, KeyUse, TemplatePattern, KeyPattern, NumberPattern, ValueTemplate}

abbrev pub is_expression : Form → Bool
is_expression Expression = true
is_expression KeyUse = true
is_expression _ = false

abbrev pub is_pattern : Form → Bool
is_pattern TemplatePattern = true
is_pattern KeyPattern = true
is_pattern NumberPattern = true
is_pattern _ = false

abbrev pub is_value_template : Form → Bool
is_value_template ValueTemplate = true
is_value_template _ = false

-- No variable stands in the pattern of a template (XSLT 1.0, 5.3) and in a key's attributes (12.2); that none stands in the
-- patterns of `xsl:number` is this project's own.
abbrev pub forbids_variables : Form → Bool
forbids_variables TemplatePattern = true
forbids_variables KeyPattern = true
forbids_variables KeyUse = true
forbids_variables NumberPattern = true
forbids_variables _ = false

-- no pattern calls `current` (XSLT 1.0, 12.4)
abbrev pub forbids_current : Form → Bool
forbids_current = is_pattern

-- no key's attribute calls `key`, which is this project's own
abbrev pub forbids_key : Form → Bool
forbids_key KeyPattern = true
forbids_key KeyUse = true
forbids_key _ = false

-- To a value of an element the global bindings are visible, and the local ones that are visible at the element: not to the pattern of
-- a template or the attributes of a key, which stand at the top level.
abbrev pub sees_locals : Form → Bool
sees_locals TemplatePattern = false
sees_locals KeyPattern = false
sees_locals KeyUse = false
sees_locals _ = true
