-- Names that a text spells, in the namespace declarations of the expression (XPath 1.0, 1; XSLT 1.0, 2.4), and what they name
-- (XSLT 1.0, 12.4 and 15).
use Rattle.std.specs.Prelude.{ℕ, ◌&&◌, ◌||◌, ◌==◌, Bool, false, List, [], length, Option, Some, is_some, codes, if◌then◌else◌, pos}
use Rattle.std.specs.Option.{option_map, option_map_or, option_and_then}
use Rattle.std.specs.Str.{bytes_eq}
use Rattle.xs_num.specs.declared.number.Number.TheVariants.{Whole}
use Rattle.xs_text.specs.Names.{qname_of}
use Rattle.xs_value.specs.declared.value.Value.{Value}
use Rattle.xs_value.specs.declared.value.Value.TheVariants.{Number as Numeral, Chars}
use Rattle.xs_xpath.specs.Names.{uri_in, function_named}

-- an expanded name: a namespace URI, empty for none, and a local part
abbrev pub ExpandedName : Type 0
ExpandedName = List ℕ × List ℕ

-- a local part with a prefix; without one it is in no namespace (XSLT 1.0, 2.4). None where the prefix is not in scope.
abbrev pub name_of_parts : List (List ℕ × List ℕ) → List ℕ → List ℕ → Option ExpandedName
name_of_parts scope prefix local = if length prefix == 0 then Some ([], local) else option_map (λ uri. (uri, local)) (uri_in scope prefix)

-- the expanded name of a text; none where it is no QName, or its prefix is not in scope
unfoldable pub expanded_name : List (List ℕ × List ℕ) → List ℕ → Option ExpandedName
expanded_name scope text = option_and_then (λ q. name_of_parts scope q.prefix q.local) (qname_of text)

-- the namespace of XSLT (XSLT 1.0, 2.1)
abbrev pub xslt_uri : List ℕ
xslt_uri = codes "http://www.w3.org/1999/XSL/Transform"

-- the instructions, by their local parts (XSLT 1.0, 2.2 and appendix C.1): those that decide what is instantiated, those that copy or
-- compute text, and those that make nodes, bind a variable or stand in for an extension
abbrev pub is_flow : List ℕ → Bool
is_flow local =
    bytes_eq local (codes "apply-templates") || bytes_eq local (codes "call-template") || bytes_eq local (codes "apply-imports")
    || bytes_eq local (codes "for-each") || bytes_eq local (codes "choose") || bytes_eq local (codes "if")

abbrev pub is_copying : List ℕ → Bool
is_copying local =
    bytes_eq local (codes "value-of") || bytes_eq local (codes "copy-of") || bytes_eq local (codes "copy")
    || bytes_eq local (codes "number") || bytes_eq local (codes "text") || bytes_eq local (codes "message")

abbrev pub is_making : List ℕ → Bool
is_making local =
    bytes_eq local (codes "element") || bytes_eq local (codes "attribute") || bytes_eq local (codes "comment")
    || bytes_eq local (codes "processing-instruction") || bytes_eq local (codes "variable") || bytes_eq local (codes "fallback")

abbrev pub is_instruction : ExpandedName → Bool
is_instruction name = bytes_eq name.0 xslt_uri && (is_flow name.1 || is_copying name.1 || is_making name.1)

-- `element-available` (XSLT 1.0, 15)
abbrev pub is_element_available : List (List ℕ × List ℕ) → List ℕ → Bool
is_element_available scope text = option_map_or is_instruction (expanded_name scope text) false

-- `function-available` (XSLT 1.0, 15): no function has a prefix in its name
abbrev pub is_function_available : List ℕ → Bool
is_function_available text = is_some (function_named text)

-- the properties of XSLT: its version, and the vendor; this processor has no others
abbrev pub xslt_property : List ℕ → Value
xslt_property local =
    if bytes_eq local (codes "version") then Numeral (Whole (pos 1))
    else (if bytes_eq local (codes "vendor") then Chars (codes "xslt whole-number profile") else Chars [])

abbrev pub property : ExpandedName → Value
property name = if bytes_eq name.0 xslt_uri then xslt_property name.1 else Chars []

-- `system-property` (XSLT 1.0, 12.4)
abbrev pub system_property : List (List ℕ × List ℕ) → List ℕ → Value
system_property scope text = option_map_or property (expanded_name scope text) (Chars [])
