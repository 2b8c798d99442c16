-- Names and what they represent, as the tables that the code goes through.
use Rattle.std.specs.Prelude.{ℕ, List, [], ◌∷◌, ◌++◌, Option, Some, None, codes, if◌then◌else◌}
use Rattle.std.specs.Borrow.{Bor}
use Rattle.std.specs.Str.{bytes_eq}
use Rattle.xs_xpath.specs.declared.name.Function.{Function}
use Rattle.xs_xpath.specs.declared.name.Function.TheVariants.{Last, Position, Count, Id, LocalName, NamespaceUri, Name, String, Concat, StartsWith, Contains, SubstringBefore, SubstringAfter, Substring, StringLength, NormalizeSpace, Translate, Boolean, Not, True, False, Lang, Number, Sum, Floor, Ceiling, Round, Key, Current, GenerateId, SystemProperty, ElementAvailable, FunctionAvailable, UnparsedEntityUri}

-- a name and what it represents as the code has them
abbrev pub row_data : {A : Type 0} → Bor (List ℕ) × A → List ℕ × A
row_data row = (row.0.now, row.1)

-- what the first row with a name has
abbrev pub first_named : {A : Type 0} → List (List ℕ × A) → List ℕ → Option A
first_named [] name = None
first_named (row ∷ rows) name = if bytes_eq name row.0 then Some row.1 else first_named rows name

-- the functions of XPath 1.0, 4.1, 4.2, and 4.3 with 4.4, and of XSLT 1.0, 12 and 15
abbrev pub node_functions : List (List ℕ × Function)
node_functions =
    (codes "last", Last)
    ∷ (codes "position", Position)
    ∷ (codes "count", Count)
    ∷ (codes "id", Id)
    ∷ (codes "local-name", LocalName)
    ∷ (codes "namespace-uri", NamespaceUri)
    ∷ (codes "name", Name)
    ∷ []

abbrev pub string_functions : List (List ℕ × Function)
string_functions =
    (codes "string", String)
    ∷ (codes "concat", Concat)
    ∷ (codes "starts-with", StartsWith)
    ∷ (codes "contains", Contains)
    ∷ (codes "substring-before", SubstringBefore)
    ∷ (codes "substring-after", SubstringAfter)
    ∷ (codes "substring", Substring)
    ∷ (codes "string-length", StringLength)
    ∷ (codes "normalize-space", NormalizeSpace)
    ∷ (codes "translate", Translate)
    ∷ []

abbrev pub value_functions : List (List ℕ × Function)
value_functions =
    (codes "boolean", Boolean)
    ∷ (codes "not", Not)
    ∷ (codes "true", True)
    ∷ (codes "false", False)
    ∷ (codes "lang", Lang)
    ∷ (codes "number", Number)
    ∷ (codes "sum", Sum)
    ∷ (codes "floor", Floor)
    ∷ (codes "ceiling", Ceiling)
    ∷ (codes "round", Round)
    ∷ []

abbrev pub xslt_functions : List (List ℕ × Function)
xslt_functions =
    (codes "key", Key)
    ∷ (codes "current", Current)
    ∷ (codes "generate-id", GenerateId)
    ∷ (codes "system-property", SystemProperty)
    ∷ (codes "element-available", ElementAvailable)
    ∷ (codes "function-available", FunctionAvailable)
    ∷ (codes "unparsed-entity-uri", UnparsedEntityUri)
    ∷ []

unfoldable pub functions : List (List ℕ × Function)
functions = node_functions ++ (string_functions ++ (value_functions ++ xslt_functions))
