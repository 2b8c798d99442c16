-- What names represent (XPath 1.0, 1 and 2.3): in a scope, the pairs of prefix and URI that are in force.
use Rattle.std.specs.Prelude.{ℕ, Bool, true, false, ◌||◌, if◌then◌else◌, List, [], ◌∷◌, Option, Some, None, is_some, codes}
use Rattle.std.specs.Option.{unwrap_or}
use Rattle.std.specs.Str.{bytes_eq}
use Rattle.xs_xpath.specs.declared.name.Function.{Function}
use Rattle.xs_xpath.specs.declared.name.Function.TheVariants.{Last, Position, Count, Id, LocalName, NamespaceUri, Name as NameOf, String, Concat, StartsWith, Contains, SubstringBefore, SubstringAfter, Substring, StringLength, NormalizeSpace, Translate, Boolean, Not, True, False, Lang, Number as NumberOf, Sum, Floor, Ceiling, Round, Key, Current, GenerateId, SystemProperty, ElementAvailable, FunctionAvailable, UnparsedEntityUri}

-- whether a text is empty
abbrev pub is_nil : List ℕ → Bool
is_nil [] = true
is_nil (b ∷ bs) = false

-- the URI that a prefix is bound to
abbrev pub uri_in : List (List ℕ × List ℕ) → List ℕ → Option (List ℕ)
uri_in [] prefix = None
uri_in (pair ∷ pairs) prefix = if bytes_eq pair.0 prefix then Some pair.1 else uri_in pairs prefix

-- The URI of a name with this prefix: without a prefix a name is in no namespace (2.3). A prefix that is not bound, which is a
-- fault, represents no namespace here.
abbrev pub uri_of : List (List ℕ × List ℕ) → List ℕ → List ℕ
uri_of pairs prefix = if is_nil prefix then [] else unwrap_or (uri_in pairs prefix) []

abbrev pub is_bound : List (List ℕ × List ℕ) → List ℕ → Bool
is_bound pairs prefix = is_nil prefix || is_some (uri_in pairs prefix)

-- the functions of XPath 1.0, 4, and of XSLT 1.0, 12 and 15, by their names
abbrev pub string_function : List ℕ → Option Function
string_function name =
    if bytes_eq name (codes "string") then Some String
    else if bytes_eq name (codes "concat") then Some Concat
    else if bytes_eq name (codes "starts-with") then Some StartsWith
    else if bytes_eq name (codes "contains") then Some Contains
    else if bytes_eq name (codes "substring-before") then Some SubstringBefore
    else if bytes_eq name (codes "substring-after") then Some SubstringAfter
    else if bytes_eq name (codes "substring") then Some Substring
    else if bytes_eq name (codes "string-length") then Some StringLength
    else if bytes_eq name (codes "normalize-space") then Some NormalizeSpace
    else if bytes_eq name (codes "translate") then Some Translate
    else None

abbrev pub value_function : List ℕ → Option Function
value_function name =
    if bytes_eq name (codes "boolean") then Some Boolean
    else if bytes_eq name (codes "not") then Some Not
    else if bytes_eq name (codes "true") then Some True
    else if bytes_eq name (codes "false") then Some False
    else if bytes_eq name (codes "lang") then Some Lang
    else if bytes_eq name (codes "number") then Some NumberOf
    else if bytes_eq name (codes "sum") then Some Sum
    else if bytes_eq name (codes "floor") then Some Floor
    else if bytes_eq name (codes "ceiling") then Some Ceiling
    else if bytes_eq name (codes "round") then Some Round
    else None

abbrev pub node_function : List ℕ → Option Function
node_function name =
    if bytes_eq name (codes "last") then Some Last
    else if bytes_eq name (codes "position") then Some Position
    else if bytes_eq name (codes "count") then Some Count
    else if bytes_eq name (codes "id") then Some Id
    else if bytes_eq name (codes "local-name") then Some LocalName
    else if bytes_eq name (codes "namespace-uri") then Some NamespaceUri
    else if bytes_eq name (codes "name") then Some NameOf
    else None

abbrev pub xslt_function : List ℕ → Option Function
xslt_function name =
    if bytes_eq name (codes "key") then Some Key
    else if bytes_eq name (codes "current") then Some Current
    else if bytes_eq name (codes "generate-id") then Some GenerateId
    else if bytes_eq name (codes "system-property") then Some SystemProperty
    else if bytes_eq name (codes "element-available") then Some ElementAvailable
    else if bytes_eq name (codes "function-available") then Some FunctionAvailable
    else if bytes_eq name (codes "unparsed-entity-uri") then Some UnparsedEntityUri
    else None

abbrev pub or_else : {A : Type 0} → Option A → Option A → Option A
or_else None b = b
or_else (Some a) b = Some a

unfoldable pub function_named : List ℕ → Option Function
function_named name = or_else (node_function name) (or_else (string_function name) (or_else (value_function name) (xslt_function name)))
