-- The faults that lexemes have, beside being in no spelling of the grammar.
use Rattle.std.specs.Prelude.{ℕ, suc, ◌+◌, ◌-◌, nat_lt, nat_le, ◌&&◌, not, Bool, true, false, if◌then◌else◌, List, [], ◌∷◌, Option, Some, None, is_some, is_err, Result, Ok, Err, map}
use Rattle.std.specs.Option.{option_map_or}
use Rattle.xs_num.specs.Text.{number_in}
use Rattle.xs_xpath.specs.declared.name.Function.{Function}
use Rattle.xs_xpath.specs.declared.name.Function.TheVariants.{Last, Position, Count, Id, LocalName, NamespaceUri, Name as NameOf, String, Concat, StartsWith, Contains, SubstringBefore, SubstringAfter, Substring, StringLength, NormalizeSpace, Translate, Boolean, Not, True, False, Lang, Number as NumberOf, Sum, Floor, Ceiling, Round as RoundOf, Key, Current, GenerateId, SystemProperty, ElementAvailable, FunctionAvailable, UnparsedEntityUri}
use Rattle.xs_xpath.specs.declared.name.NodeTest.{NodeTest}
use Rattle.xs_xpath.specs.declared.name.NodeTest.TheVariants.{Node, Text, Comment, Pi, Target}
use Rattle.xs_xpath.specs.declared.token.Operator.TheVariants.{Minus}
use Rattle.xs_xpath.specs.Names.{is_bound, function_named}
use Rattle.xs_xpath.specs.Patterns.{is_pattern}
use Rattle.xs_xpath.specs.Tree.{Tree}
use Rattle.xs_parser.specs.declared.token.Token.{Token}
use Rattle.xs_parser.specs.declared.token.Token.TheVariants.{Round, EndRound, Square, EndSquare, Comma, Negate, Infix, Test}
use Rattle.xs_parser.specs.declared.token.Lexeme.{Lexeme}
use Rattle.xs_parser.specs.declared.token.Lexeme.TheVariants.{Ready, AnyOf, Named, Called, Variable, Number}
use Rattle.xs_parser.specs.declared.token.Placed.{Placed}
use Rattle.xs_parser.specs.declared.fault.Check.{Check}
use Rattle.xs_parser.specs.declared.fault.Check.TheVariants.{Unknown, Literal, Unbound}
use Rattle.xs_parser.specs.declared.fault.Fault.{Fault}
use Rattle.xs_parser.specs.declared.fault.Fault.TheVariants.{Syntax, UnknownFunction, ArgCount, BadLiteral, TooNested, NotPattern, UnboundPrefix}
use Rattle.xs_parser.specs.Lexing.{unprefixed, lexemes_in}
use Rattle.xs_parser.specs.Names.{token_in}
use Rattle.xs_parser.specs.Reading.{tree_of}

-- ---- faults of one lexeme: an unknown function, a number that is a fraction or past the limit, an unbound prefix
abbrev pub has_fault : Check → List (List ℕ × List ℕ) → Lexeme → Bool
has_fault Unknown pairs (Called q) = not (is_some (unprefixed function_named q))
has_fault Unknown pairs _ = false
has_fault Literal pairs (Number text) = is_err (number_in text)
has_fault Literal pairs _ = false
has_fault Unbound pairs (AnyOf prefix) = not (is_bound pairs prefix)
has_fault Unbound pairs (Named q) = not (is_bound pairs q.prefix)
has_fault Unbound pairs (Variable q) = not (is_bound pairs q.prefix)
has_fault Unbound pairs _ = false

-- where the first lexeme with such a fault is
abbrev pub first_fault : Check → List (List ℕ × List ℕ) → List Placed → Option ℕ
first_fault check pairs [] = None
first_fault check pairs (p ∷ ps) = if has_fault check pairs p.lexeme then Some p.at else first_fault check pairs ps

-- ---- nesting: the brackets that are open, and the minus signs in a row before a place
-- the brackets of a node type are open between them
abbrev pub has_brackets : NodeTest → Bool
has_brackets Node = true
has_brackets Text = true
has_brackets Comment = true
has_brackets Pi = true
has_brackets (Target target) = true
has_brackets _ = false

abbrev pub inner_brackets : Lexeme → ℕ
inner_brackets (Ready (Test which)) = if has_brackets which then 1 else 0
inner_brackets _ = 0

-- the open brackets and the minus signs after a lexeme
abbrev pub nested : Lexeme → ℕ → ℕ → ℕ × ℕ
nested (Called q) brackets signs = (brackets + 1, 0)
nested (Ready Round) brackets signs = (brackets + 1, 0)
nested (Ready Square) brackets signs = (brackets + 1, 0)
nested (Ready EndRound) brackets signs = (brackets - 1, 0)
nested (Ready EndSquare) brackets signs = (brackets - 1, 0)
nested (Ready Negate) brackets signs = (brackets, signs + 1)
nested (Ready (Infix Minus)) brackets signs = (brackets, signs + 1)
nested _ brackets signs = (brackets, 0)

abbrev pub is_deep : ℕ × ℕ → ℕ → Bool
is_deep next inner = nat_lt 64 (next.0 + next.1 + inner)

-- the first lexeme with which the nesting is over 64
abbrev pub first_deep : List Placed → ℕ → ℕ → Option ℕ
first_deep [] brackets signs = None
first_deep (p ∷ ps) brackets signs =
    if is_deep (nested p.lexeme brackets signs) (inner_brackets p.lexeme) then Some p.at
    else first_deep ps (nested p.lexeme brackets signs).0 (nested p.lexeme brackets signs).1

-- ---- numbers of arguments
-- the fewest and the most arguments of a function (XPath 1.0, 4; XSLT 1.0, 12 and 15)
abbrev pub fewest : Function → ℕ
fewest Last = 0
fewest Position = 0
fewest True = 0
fewest False = 0
fewest Current = 0
fewest LocalName = 0
fewest NamespaceUri = 0
fewest NameOf = 0
fewest String = 0
fewest StringLength = 0
fewest NormalizeSpace = 0
fewest NumberOf = 0
fewest GenerateId = 0
fewest Count = 1
fewest Id = 1
fewest Boolean = 1
fewest Not = 1
fewest Lang = 1
fewest Sum = 1
fewest Floor = 1
fewest Ceiling = 1
fewest RoundOf = 1
fewest SystemProperty = 1
fewest ElementAvailable = 1
fewest FunctionAvailable = 1
fewest UnparsedEntityUri = 1
fewest StartsWith = 2
fewest Contains = 2
fewest SubstringBefore = 2
fewest SubstringAfter = 2
fewest Key = 2
fewest Substring = 2
fewest Translate = 3
fewest Concat = 2

-- how many more than the fewest there may be; of `concat` any number
abbrev pub spare : Function → Option ℕ
spare LocalName = Some 1
spare NamespaceUri = Some 1
spare NameOf = Some 1
spare String = Some 1
spare StringLength = Some 1
spare NormalizeSpace = Some 1
spare NumberOf = Some 1
spare GenerateId = Some 1
spare Substring = Some 1
spare Concat = None
spare _ = Some 0

abbrev pub takes : Function → ℕ → Bool
takes function n = nat_le (fewest function) n && option_map_or (λ more. nat_le n (fewest function + more)) (spare function) true

abbrev pub opens : Lexeme → Bool
opens (Called q) = true
opens (Ready Round) = true
opens (Ready Square) = true
opens _ = false

abbrev pub closes : Lexeme → Bool
closes (Ready EndRound) = true
closes (Ready EndSquare) = true
closes _ = false

abbrev pub is_comma : Lexeme → Bool
is_comma (Ready Comma) = true
is_comma _ = false

-- One more comma. Past ten of them, which no function but `concat` takes, none is counted.
abbrev pub one_more : List ℕ → List ℕ
one_more [] = []
one_more (n ∷ ns) = (if nat_lt n 10 then suc n else n) ∷ ns

abbrev pub tail_of : List ℕ → List ℕ
tail_of [] = []
tail_of (n ∷ ns) = ns

-- for each bracket that is open before these lexemes and closes among them, innermost first: how many commas of its own they have
abbrev pub commas_by : Lexeme → List ℕ → List ℕ
commas_by lexeme counts = if closes lexeme then 0 ∷ counts else if opens lexeme then tail_of counts else if is_comma lexeme then one_more counts else counts

abbrev pub own_commas : List Placed → List ℕ
own_commas [] = []
own_commas (p ∷ ps) = commas_by p.lexeme (own_commas ps)

abbrev pub first_count : List ℕ → ℕ
first_count [] = 0
first_count (n ∷ ns) = n

abbrev pub ends : List Placed → Bool
ends [] = true
ends (p ∷ ps) = closes p.lexeme

-- the arguments of a call, from after its bracket on: one more than its commas, or none where the bracket closes at once
abbrev pub arguments_in : List Placed → ℕ
arguments_in ps = if ends ps then 0 else suc (first_count (own_commas ps))

abbrev pub is_wrong : Lexeme → ℕ → Bool
is_wrong (Called q) n = option_map_or (λ function. not (takes function n)) (unprefixed function_named q) false
is_wrong _ n = false

-- the first call with a wrong number of arguments
abbrev pub first_wrong : List Placed → Option ℕ
first_wrong [] = None
first_wrong (p ∷ ps) = if is_wrong p.lexeme (arguments_in ps) then Some p.at else first_wrong ps

-- ---- the outcome
-- The least fault counts, in the order of their numbers.
abbrev pub least_fault : Option ℕ → Option ℕ → Option ℕ → Option ℕ → Option ℕ → Option ℕ → Option Fault
least_fault (Some at) wrong bad deep other unbound = Some (UnknownFunction at)
least_fault None (Some at) bad deep other unbound = Some (ArgCount at)
least_fault None None (Some at) deep other unbound = Some (BadLiteral at)
least_fault None None None (Some at) other unbound = Some (TooNested at)
least_fault None None None None (Some at) unbound = Some (NotPattern at)
least_fault None None None None None (Some at) = Some (UnboundPrefix at)
least_fault None None None None None None = None

abbrev pub unless_fault : Option Fault → Tree → Result Tree Fault
unless_fault None e = Ok e
unless_fault (Some fault) e = Err fault

abbrev pub faults_first : Option ℕ → Option ℕ → Option ℕ → Option ℕ → Option ℕ → Option ℕ → Tree → Result Tree Fault
faults_first unknown wrong bad deep other unbound e = unless_fault (least_fault unknown wrong bad deep other unbound) e

abbrev pub tokens_in : List (List ℕ × List ℕ) → List Placed → List Token
tokens_in pairs = map (λ p. token_in pairs p.lexeme)

abbrev pub first_place : List Placed → ℕ
first_place [] = 0
first_place (p ∷ ps) = p.at

-- where a pattern is wanted: the first token of an expression that is none
abbrev pub no_pattern : Bool → ℕ → Tree → Option ℕ
no_pattern wanted at e = if wanted && not (is_pattern e) then Some at else None

abbrev pub reported : Bool → List (List ℕ × List ℕ) → List Placed → Tree → Result Tree Fault
reported wanted pairs ps e =
    faults_first (first_fault Unknown pairs ps) (first_wrong ps) (first_fault Literal pairs ps) (first_deep ps 0 0) (no_pattern wanted (first_place ps) e)
    (first_fault Unbound pairs ps) e

abbrev pub verdict : Bool → List (List ℕ × List ℕ) → List Placed → Option Tree → Result Tree Fault
verdict wanted pairs ps None = Err Syntax
verdict wanted pairs ps (Some e) = reported wanted pairs ps e

abbrev pub parsed_if : Bool → List (List ℕ × List ℕ) → Option (List Placed) → Result Tree Fault
parsed_if wanted pairs None = Err Syntax
parsed_if wanted pairs (Some ps) = verdict wanted pairs ps (tree_of (tokens_in pairs ps))

-- what a text represents in a scope, as an expression or as a pattern, or its least fault
unfoldable pub outcome_in : Bool → List (List ℕ × List ℕ) → List ℕ → Result Tree Fault
outcome_in wanted pairs text = parsed_if wanted pairs (lexemes_in text)

abbrev pub expr_in : List (List ℕ × List ℕ) → List ℕ → Result Tree Fault
expr_in = outcome_in false

abbrev pub pattern_in : List (List ℕ × List ℕ) → List ℕ → Result Tree Fault
pattern_in = outcome_in true
