-- The tokens of a text as a function of its bytes (XPath 1.0, 3.7), with the places where they begin. In each place the
-- longest token is taken.
use Rattle.std.specs.Prelude.{ℕ, zero, suc, ◌-◌, ◌==◌, ◌<◌, ◌&&◌, ◌||◌, nat_le, not, Bool, true, false, if◌then◌else◌, List, [], ◌∷◌, ◌++◌, length, take, drop, Option, Some, None, option_map, option_and_then, codes}
use Rattle.std.specs.List.{prefix_len}
use Rattle.std.specs.Str.{bytes_eq, chars}
use Rattle.xs_text.specs.Names.{spells_ncname}
use Rattle.xs_tree.specs.declared.axes.Axis.{Axis}
use Rattle.xs_tree.specs.declared.axes.Axis.TheVariants.{Child, Descendant, Parent, Ancestor, FollowingSibling, PrecedingSibling, Following, Preceding, Attribute, Namespace, SelfNode, DescendantOrSelf, AncestorOrSelf}
use Rattle.xs_xpath.specs.declared.name.NodeTest.{NodeTest}
use Rattle.xs_xpath.specs.declared.name.NodeTest.TheVariants.{Any, Node, Text, Comment, Pi, Target}
use Rattle.xs_xpath.specs.declared.token.Operator.{Operator}
use Rattle.xs_xpath.specs.declared.token.Operator.TheVariants.{Or, And, Equal, Unequal, Less, LessEqual, Greater, GreaterEqual, Plus, Minus, Times, Div, Mod, Union}
use Rattle.xs_xpath.specs.declared.token.Atom.TheVariants.{Literal}
use Rattle.xs_xpath.specs.Digits.{is_digit}
use Rattle.xs_xpath.specs.Names.{is_nil}
use Rattle.xs_parser.specs.declared.token.QName.{QName}
use Rattle.xs_parser.specs.declared.token.Token.{Token}
use Rattle.xs_parser.specs.declared.token.Token.TheVariants.{Round, EndRound, Square, EndSquare, Comma, Slash, Slashes, Negate, Infix, OnAxis, Test, Dots, Atom}
use Rattle.xs_parser.specs.declared.token.Lexeme.{Lexeme}
use Rattle.xs_parser.specs.declared.token.Lexeme.TheVariants.{Ready, AnyOf, Named, Called, Variable, Number}
use Rattle.xs_parser.specs.declared.token.Placed.{Placed}
use Rattle.xs_parser.specs.declared.bytes.Class.{Class}
use Rattle.xs_parser.specs.declared.bytes.Class.TheVariants.{Space, Digit, NameByte, Until}
use Rattle.xs_parser.specs.declared.bytes.Kind.{Kind}
use Rattle.xs_parser.specs.declared.bytes.Kind.TheVariants.{ANumber, AName, ALiteral, AVariable, ASign}
use Rattle.xs_parser.specs.declared.signs.Before.{Before}
use Rattle.xs_parser.specs.declared.signs.Before.TheVariants.{NoOperand, MaybeRoot, Operand}

-- ---- bytes
-- white space [39]
abbrev pub is_space : ℕ → Bool
is_space b = b == 32 || b == 9 || b == 10 || b == 13

-- A byte with which a name may begin, and one with which it may go on. Those from 128 on are of characters beyond ASCII, which
-- stand in no other token but a literal.
abbrev pub starts_name : ℕ → Bool
starts_name b = (nat_le 65 b && nat_le b 90) || (nat_le 97 b && nat_le b 122) || b == 95 || nat_le 128 b

abbrev pub continues_name : ℕ → Bool
continues_name b = starts_name b || is_digit b || b == 45 || b == 46

abbrev pub is_quote : ℕ → Bool
is_quote b = b == 34 || b == 39

abbrev pub is_other : ℕ → ℕ → Bool
is_other quote b = not (b == quote)

-- the bytes that a run is made of
abbrev pub passes : Class → ℕ → Bool
passes Space b = is_space b
passes Digit b = is_digit b
passes NameByte b = continues_name b
passes (Until quote) b = is_other quote b

-- a class whose runs end where a character begins
abbrev pub IsCut : Class → Type 0
IsCut Space = Unit {0}
IsCut Digit = Unit {0}
IsCut NameByte = Unit {0}
IsCut (Until quote) = quote < 128

-- the first byte; 0, which no token has, where there is none
abbrev pub first : List ℕ → ℕ
first [] = 0
first (b ∷ bs) = b

abbrev pub second : List ℕ → ℕ
second bytes = first (drop 1 bytes)

-- the longest run of a class at the front, and what is after it
abbrev pub run : Class → List ℕ → List ℕ
run class bytes = take (prefix_len (passes class) bytes) bytes

abbrev pub behind : Class → List ℕ → List ℕ
behind class bytes = drop (prefix_len (passes class) bytes) bytes

-- what is after a byte
abbrev pub strip : ℕ → List ℕ → Option (List ℕ)
strip b bytes = if first bytes == b then Some (drop 1 bytes) else None

-- which token begins at bytes: a point before a digit begins a number
abbrev pub kind : List ℕ → Kind
kind bytes =
    if starts_name (first bytes) then AName
    else if is_digit (first bytes) || (first bytes == 46 && is_digit (second bytes)) then ANumber
    else if is_quote (first bytes) then ALiteral
    else if first bytes == 36 then AVariable
    else ASign

-- ---- what stands before
abbrev pub is_operand : Before → Bool
is_operand NoOperand = false
is_operand MaybeRoot = false
is_operand Operand = true

-- A minus sign stands before an operand where neither an operand nor a slash, which may be the root, stands before it.
abbrev pub minus_behind : Before → Token
minus_behind NoOperand = Negate
minus_behind MaybeRoot = Infix Minus
minus_behind Operand = Infix Minus

-- A star multiplies after an operand, and is a node test elsewhere.
abbrev pub star_behind : Before → Token × Before
star_behind NoOperand = (Test Any, Operand)
star_behind MaybeRoot = (Test Any, Operand)
star_behind Operand = (Infix Times, NoOperand)

-- ---- a token that was found: itself, what is left, and what it is before the next one
pub record Found : Type 0 where
  pub lexeme : Lexeme
  pub rest : List ℕ
  pub after : Before

abbrev pub found : Lexeme → List ℕ → Before → Found
found lexeme rest after = record { lexeme = lexeme; rest = rest; after = after }

-- ---- signs
abbrev pub two : ℕ → ℕ → Option (Token × Before)
two b c =
    if b == 47 && c == 47 then Some (Slashes, NoOperand)
    else if b == 46 && c == 46 then Some (Dots Parent, Operand)
    else if b == 33 && c == 61 then Some (Infix Unequal, NoOperand)
    else if b == 60 && c == 61 then Some (Infix LessEqual, NoOperand)
    else if b == 62 && c == 61 then Some (Infix GreaterEqual, NoOperand)
    else None

abbrev pub one : Before → ℕ → Option (Token × Before)
one before b =
    if b == 40 then Some (Round, NoOperand)
    else if b == 41 then Some (EndRound, Operand)
    else if b == 91 then Some (Square, NoOperand)
    else if b == 93 then Some (EndSquare, Operand)
    else if b == 44 then Some (Comma, NoOperand)
    else if b == 64 then Some (OnAxis Attribute, NoOperand)
    else if b == 47 then Some (Slash, MaybeRoot)
    else if b == 46 then Some (Dots SelfNode, Operand)
    else if b == 124 then Some (Infix Union, NoOperand)
    else if b == 43 then Some (Infix Plus, NoOperand)
    else if b == 61 then Some (Infix Equal, NoOperand)
    else if b == 60 then Some (Infix Less, NoOperand)
    else if b == 62 then Some (Infix Greater, NoOperand)
    else if b == 42 then Some (star_behind before)
    else if b == 45 then Some (minus_behind before, NoOperand)
    else None

abbrev pub of_two : Before → List ℕ → Option (Token × Before) → Option Found
of_two before bytes (Some sign) = Some (found (Ready sign.0) (drop 1 (drop 1 bytes)) sign.1)
of_two before bytes None = option_map (λ sign. found (Ready sign.0) (drop 1 bytes) sign.1) (one before (first bytes))

abbrev pub sign_found : Before → List ℕ → Option Found
sign_found before bytes = of_two before bytes (two (first bytes) (second bytes))

-- ---- numbers and literals
abbrev pub pointed : List ℕ → List ℕ → Option (List ℕ) → Found
pointed whole rest None = found (Number whole) rest Operand
pointed whole rest (Some more) = found (Number (whole ++ 46 ∷ run Digit more)) (behind Digit more) Operand

abbrev pub number_found : List ℕ → Found
number_found bytes = pointed (run Digit bytes) (behind Digit bytes) (strip 46 (behind Digit bytes))

-- a literal's text, and what is after its second quote
abbrev pub quoted_in : ℕ → List ℕ → Option (List ℕ × List ℕ)
quoted_in quote bytes = option_map (λ rest. (run (Until quote) bytes, rest)) (strip quote (behind (Until quote) bytes))

abbrev pub quoted : List ℕ → Option (List ℕ × List ℕ)
quoted bytes = if is_quote (first bytes) then quoted_in (first bytes) (drop 1 bytes) else None

abbrev pub literal_found : List ℕ → Option Found
literal_found bytes = option_map (λ q. found (Ready (Atom (Literal q.0))) q.1 Operand) (quoted bytes)

-- ---- names
unfoldable pub is_ncname : List ℕ → Bool
is_ncname text = spells_ncname (chars text)

abbrev pub qname : List ℕ → List ℕ → QName
qname prefix local = record { prefix = prefix; local = local }

-- what is after a colon, where a name begins there
abbrev pub local_at : List ℕ → Option (List ℕ)
local_at bytes = if first bytes == 58 && starts_name (second bytes) then Some (drop 1 bytes) else None

abbrev pub with_local : List ℕ → List ℕ → Option (List ℕ) → Option (QName × List ℕ)
with_local name rest None = Some (qname [] name, rest)
with_local name rest (Some more) = if is_ncname (run NameByte more) then Some (qname name (run NameByte more), behind NameByte more) else None

-- a QName (Namespaces in XML 1.0, 4), and what is after it
abbrev pub qualified : List ℕ → Option (QName × List ℕ)
qualified bytes = if is_ncname (run NameByte bytes) then with_local (run NameByte bytes) (behind NameByte bytes) (local_at (behind NameByte bytes)) else None

abbrev pub variable_found : List ℕ → Option Found
variable_found bytes = option_map (λ q. found (Variable q.0) q.1 Operand) (qualified (drop 1 bytes))

-- what a name without a prefix is
abbrev pub unprefixed : {A : Type 0} → (List ℕ → Option A) → QName → Option A
unprefixed f q = if is_nil q.prefix then f q.local else None

-- [33]
abbrev pub operator_named : List ℕ → Option Operator
operator_named name =
    if bytes_eq name (codes "or") then Some Or
    else if bytes_eq name (codes "and") then Some And
    else if bytes_eq name (codes "mod") then Some Mod
    else if bytes_eq name (codes "div") then Some Div
    else None

-- [38]
abbrev pub kind_named : List ℕ → Option NodeTest
kind_named name =
    if bytes_eq name (codes "node") then Some Node
    else if bytes_eq name (codes "text") then Some Text
    else if bytes_eq name (codes "comment") then Some Comment
    else if bytes_eq name (codes "processing-instruction") then Some Pi
    else None

-- [6]
abbrev pub axis_named : List ℕ → Option Axis
axis_named name =
    if bytes_eq name (codes "child") then Some Child
    else if bytes_eq name (codes "descendant") then Some Descendant
    else if bytes_eq name (codes "parent") then Some Parent
    else if bytes_eq name (codes "ancestor") then Some Ancestor
    else if bytes_eq name (codes "following-sibling") then Some FollowingSibling
    else if bytes_eq name (codes "preceding-sibling") then Some PrecedingSibling
    else if bytes_eq name (codes "following") then Some Following
    else if bytes_eq name (codes "preceding") then Some Preceding
    else if bytes_eq name (codes "attribute") then Some Attribute
    else if bytes_eq name (codes "namespace") then Some Namespace
    else if bytes_eq name (codes "self") then Some SelfNode
    else if bytes_eq name (codes "descendant-or-self") then Some DescendantOrSelf
    else if bytes_eq name (codes "ancestor-or-self") then Some AncestorOrSelf
    else None

abbrev pub is_pi : NodeTest → Bool
is_pi Pi = true
is_pi _ = false

-- `processing-instruction` with a literal, from after it
abbrev pub target_found : Option (List ℕ × List ℕ) → Option Found
target_found None = None
target_found (Some q) = option_map (λ rest. found (Ready (Test (Target q.0))) rest Operand) (strip 41 (behind Space q.1))

-- a node type, from the white space after its bracket on
abbrev pub closed : NodeTest → List ℕ → Option (List ℕ) → Option Found
closed which bytes (Some rest) = Some (found (Ready (Test which)) rest Operand)
closed which bytes None = if is_pi which then target_found (quoted bytes) else None

-- a name and a bracket: a node type or a function
abbrev pub bracketed : QName → List ℕ → Option NodeTest → Option Found
bracketed q inside None = Some (found (Called q) inside NoOperand)
bracketed q inside (Some which) = closed which (behind Space inside) (strip 41 (behind Space inside))

-- a name before what is neither a bracket nor, with two colons, a step
abbrev pub colons_at : List ℕ → Option (List ℕ)
colons_at bytes = if first bytes == 58 && second bytes == 58 then Some (drop 1 (drop 1 bytes)) else None

abbrev pub before_colons : QName → List ℕ → Option (List ℕ) → Option Found
before_colons q rest (Some step) = option_map (λ axis. found (Ready (OnAxis axis)) step NoOperand) (unprefixed axis_named q)
before_colons q rest None = Some (found (Named q) rest Operand)

abbrev pub before_bracket : QName → List ℕ → Option (List ℕ) → Option Found
before_bracket q rest (Some inside) = bracketed q inside (unprefixed kind_named q)
before_bracket q rest None = before_colons q rest (colons_at (behind Space rest))

-- `:*` after a prefix
abbrev pub star_at : List ℕ → Option (List ℕ)
star_at bytes = if first bytes == 58 && second bytes == 42 then Some (drop 1 (drop 1 bytes)) else None

abbrev pub before_star : QName → List ℕ → Option (List ℕ) → Option Found
before_star q rest (Some more) = if is_nil q.prefix then Some (found (AnyOf q.local) more Operand) else None
before_star q rest None = before_bracket q rest (strip 40 (behind Space rest))

abbrev pub operator_found : QName → List ℕ → Option Found
operator_found q rest = option_map (λ op. found (Ready (Infix op)) rest NoOperand) (unprefixed operator_named q)

-- 3.7's first rule: after an operand a name is an operator's
abbrev pub named : Before → QName → List ℕ → Option Found
named before q rest = if is_operand before then operator_found q rest else before_star q rest (star_at rest)

abbrev pub name_found : Before → List ℕ → Option Found
name_found before bytes = option_and_then (λ q. named before q.0 q.1) (qualified bytes)

-- ---- tokens
abbrev pub found_by : Kind → Before → List ℕ → Option Found
found_by AName before bytes = name_found before bytes
found_by ANumber before bytes = Some (number_found bytes)
found_by ALiteral before bytes = literal_found bytes
found_by AVariable before bytes = variable_found bytes
found_by ASign before bytes = sign_found before bytes

-- the token at the front
unfoldable pub begun : Before → List ℕ → Option Found
begun before bytes = found_by (kind bytes) before bytes

abbrev pub placed : ℕ → Lexeme → Placed
placed at lexeme = record { at = at; lexeme = lexeme }

-- The tokens from a place on, where so many bytes of a token are still to be passed.
unfoldable pub lexed : ℕ → ℕ → Before → List ℕ → Option (List Placed)
lexed at skip before [] = Some []
lexed at (suc n) before (b ∷ bs) = lexed (suc at) n before bs
lexed at zero before (b ∷ bs) =
    if is_space b then lexed (suc at) 0 before bs
    else option_and_then (λ f. option_map (λ ts. placed at f.lexeme ∷ ts) (lexed (suc at) (length bs - length f.rest) f.after bs)) (begun before (b ∷ bs))

-- the tokens of a text, if it has such
abbrev pub lexemes_in : List ℕ → Option (List Placed)
lexemes_in text = lexed 0 0 NoOperand text
