-- A call of a function on the values of its arguments (XPath 1.0, 3.2 and 4; XSLT 1.0, 12).
use Rattle.std.specs.Prelude.{ℕ, Bool, true, false, not, List, [], ◌∷◌, Ok, pos}
use Rattle.std.specs.List.{flat_map}
use Rattle.std.specs.Str.{chars}
use Rattle.xs_num.specs.declared.number.Number.TheVariants.{Whole}
use Rattle.xs_strings.specs.Normalization.{normalized}
use Rattle.xs_strings.specs.Searching.{text_before, text_after}
use Rattle.xs_strings.specs.Translation.{translated}
use Rattle.xs_tree.specs.Record.{name_uri, name_local}
use Rattle.xs_value.specs.declared.value.Value.{Value}
use Rattle.xs_value.specs.declared.value.Value.TheVariants.{Bool as Boolean, Number as Numeral, Chars, Nodes}
use Rattle.xs_value.specs.Conversion.{bool_value, text_value}
use Rattle.xs_xpath.specs.declared.name.Function.{Function}
use Rattle.xs_xpath.specs.declared.name.Function.TheVariants.{Last, Position, Count, Id, LocalName, NamespaceUri, Name, String, Concat, StartsWith, Contains, SubstringBefore, SubstringAfter, Substring, StringLength, NormalizeSpace, Translate, Boolean as ToBoolean, Not, True, False, Lang, Number, Sum, Floor, Ceiling, Round, Key, Current, GenerateId, SystemProperty, ElementAvailable, FunctionAvailable, UnparsedEntityUri}
use Rattle.xs_eval_spec.specs.Context.{Context}
use Rattle.xs_eval_spec.specs.Functions.{first, second, third, first_or_node, written_name, name_part, count, does_start_with, does_contain, written, substring}
use Rattle.xs_eval_spec.specs.Functions.{string_length, number, sum, generated_id}
use Rattle.xs_eval_spec.specs.Results.{Outcome}
use Rattle.xs_eval_spec.specs.Languages.{is_in_language}
use Rattle.xs_eval_spec.specs.Names.{is_element_available, is_function_available, system_property}

-- the string of a value, and its characters (4.2)
abbrev pub text : Context → Value → List ℕ
text c v = text_value c.tree v

abbrev pub characters : Context → Value → List ℕ
characters c v = chars (text c v)

-- whether a function is `key`
abbrev pub is_key : Function → Bool
is_key Key = true
is_key f = false

abbrev pub called : Context → Function → List Value → Outcome Value
-- 4.1
called c Last vs = Ok (Numeral (Whole (pos c.size)))
called c Position vs = Ok (Numeral (Whole (pos c.position)))
called c Count vs = count (first vs)
-- no document has a DTD, and so no element an ID
called c Id vs = Ok (Nodes [])
called c LocalName vs = name_part name_local c.tree (first_or_node c vs)
called c NamespaceUri vs = name_part name_uri c.tree (first_or_node c vs)
called c Name vs = name_part written_name c.tree (first_or_node c vs)
-- 4.2
called c String vs = Ok (Chars (text c (first_or_node c vs)))
called c Concat vs = Ok (Chars (flat_map (text c) vs))
called c StartsWith vs = Ok (Boolean (does_start_with (text c (first vs)) (text c (second vs))))
called c Contains vs = Ok (Boolean (does_contain (text c (first vs)) (text c (second vs))))
called c SubstringBefore vs = Ok (written (text_before (characters c (first vs)) (characters c (second vs))))
called c SubstringAfter vs = Ok (written (text_after (characters c (first vs)) (characters c (second vs))))
called c Substring vs = substring c.tree vs
called c StringLength vs = string_length (text c (first_or_node c vs))
called c NormalizeSpace vs = Ok (written (normalized (characters c (first_or_node c vs))))
called c Translate vs = Ok (written (translated (characters c (first vs)) (characters c (second vs)) (characters c (third vs))))
-- 4.3
called c ToBoolean vs = Ok (Boolean (bool_value (first vs)))
called c Not vs = Ok (Boolean (not (bool_value (first vs))))
called c True vs = Ok (Boolean true)
called c False vs = Ok (Boolean false)
called c Lang vs = Ok (Boolean (is_in_language c.tree c.node (text c (first vs))))
-- 4.4
called c Number vs = number c.tree (first_or_node c vs)
called c Sum vs = sum c.tree (first vs)
called c Floor vs = number c.tree (first vs)
called c Ceiling vs = number c.tree (first vs)
called c Round vs = number c.tree (first vs)
-- XSLT 1.0, 12.4; `key` is apart, since its answer takes ticks
called c Key vs = Ok (Nodes [])
called c Current vs = Ok (Nodes (c.current ∷ []))
called c GenerateId vs = generated_id (first_or_node c vs)
called c SystemProperty vs = Ok (system_property c.scope (text c (first vs)))
-- XSLT 1.0, 15
called c ElementAvailable vs = Ok (Boolean (is_element_available c.scope (text c (first vs))))
called c FunctionAvailable vs = Ok (Boolean (is_function_available (text c (first vs))))
-- no document has a DTD, and so none an entity (XSLT 1.0, 12.4)
called c UnparsedEntityUri vs = Ok (Chars [])
