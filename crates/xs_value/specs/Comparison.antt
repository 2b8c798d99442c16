-- How two values compare (XPath 1.0, 3.4).
use Rattle.std.specs.Prelude.{Bool, true, false, not, ◌||◌, ◌==◌, List, [], ◌∷◌, map, length, Option, Some, None, Result, Ok, Err, if◌then◌else◌}
use Rattle.std.specs.declared.cmp.Ordering.{Ordering}
use Rattle.std.specs.declared.cmp.Ordering.TheVariants.{Less, Equal, Greater}
use Rattle.std.specs.Bool.{beq as same_bool}
use Rattle.std.specs.Str.{bytes_eq}
use Rattle.xs_num.specs.Number.{comparison_of}
use Rattle.xs_num.specs.declared.number.Number.{Number}
use Rattle.xs_num.specs.declared.number.NumFault.{NumFault}
use Rattle.xs_tree.specs.Record.{Record, string_value}
use Rattle.xs_value.specs.declared.comparison.CompareOp.{CompareOp}
use Rattle.xs_value.specs.declared.comparison.CompareOp.TheVariants.{Eq, Ne, Lt, Le, Gt, Ge}
use Rattle.xs_value.specs.declared.value.Value.{Value}
use Rattle.xs_value.specs.declared.value.Value.TheVariants.{Bool as Boolean, Number as Numeral, Chars, Nodes, Piece}
use Rattle.xs_value.specs.Conversion.{text_value, bool_value, number_value, fragment_text}

-- whether a number is before, after or at another as an operator asks; with NaN, which has no order, `!=` alone holds
abbrev pub holds : CompareOp → Option Ordering → Bool
holds Eq None = false
holds Eq (Some Less) = false
holds Eq (Some Equal) = true
holds Eq (Some Greater) = false
holds Ne None = true
holds Ne (Some Less) = true
holds Ne (Some Equal) = false
holds Ne (Some Greater) = true
holds Lt None = false
holds Lt (Some Less) = true
holds Lt (Some Equal) = false
holds Lt (Some Greater) = false
holds Le None = false
holds Le (Some Less) = true
holds Le (Some Equal) = true
holds Le (Some Greater) = false
holds Gt None = false
holds Gt (Some Less) = false
holds Gt (Some Equal) = false
holds Gt (Some Greater) = true
holds Ge None = false
holds Ge (Some Less) = false
holds Ge (Some Equal) = true
holds Ge (Some Greater) = true

-- `=` and `!=`, of two objects that are the same or not
abbrev pub same_or_not : CompareOp → Bool → Bool
same_or_not Eq same = same
same_or_not Ne same = not same
same_or_not Lt same = false
same_or_not Le same = false
same_or_not Gt same = false
same_or_not Ge same = false

-- `<=`, `<`, `>=` and `>`
abbrev pub is_ordering : CompareOp → Bool
is_ordering Eq = false
is_ordering Ne = false
is_ordering Lt = true
is_ordering Le = true
is_ordering Gt = true
is_ordering Ge = true

abbrev pub is_boolean : Value → Bool
is_boolean (Boolean b) = true
is_boolean (Numeral n) = false
is_boolean (Chars text) = false
is_boolean (Nodes ns) = false
is_boolean (Piece events) = false

abbrev pub is_numeral : Value → Bool
is_numeral (Boolean b) = false
is_numeral (Numeral n) = true
is_numeral (Chars text) = false
is_numeral (Nodes ns) = false
is_numeral (Piece events) = false

-- two numbers compared; a fault of the left one comes first
abbrev pub by_number : CompareOp → Result Number NumFault → Result Number NumFault → Result Bool NumFault
by_number op (Err f) n = Err f
by_number op (Ok m) (Err f) = Err f
by_number op (Ok m) (Ok n) = Ok (holds op (comparison_of m n))

-- Two objects that are no node-sets: `=` and `!=` compare booleans if one is a boolean, else numbers if one is a number, else
-- strings; the other four always compare numbers.
abbrev pub compared_single : List Record → CompareOp → Value → Value → Result Bool NumFault
compared_single rs op x y =
    if is_ordering op then by_number op (number_value rs x) (number_value rs y)
    else (if is_boolean x || is_boolean y then Ok (same_or_not op (same_bool (bool_value x) (bool_value y)))
    else (if is_numeral x || is_numeral y then by_number op (number_value rs x) (number_value rs y)
    else Ok (same_or_not op (bytes_eq (text_value rs x) (text_value rs y)))))

-- What represents a value in a comparison: for a node-set the strings of its nodes, in document order, or its boolean beside a
-- boolean; a fragment is like a node-set with one node (XSLT 1.0, 11.1); any other value is by itself.
abbrev pub members : List Record → Bool → Value → List Value
members rs beside_boolean (Boolean b) = Boolean b ∷ []
members rs beside_boolean (Numeral n) = Numeral n ∷ []
members rs beside_boolean (Chars text) = Chars text ∷ []
members rs beside_boolean (Nodes ns) = if beside_boolean then Boolean (not (length ns == 0)) ∷ [] else map (λ n. Chars (string_value rs n)) ns
members rs beside_boolean (Piece events) = if beside_boolean then Boolean true ∷ [] else Chars (fragment_text events) ∷ []

-- a comparison that does not hold is followed by the rest
abbrev pub or_else : Result Bool NumFault → Result Bool NumFault → Result Bool NumFault
or_else (Ok true) rest = Ok true
or_else (Ok false) rest = rest
or_else (Err f) rest = Err f

-- some item passes a test: they are tried in order, until one passes or a test ends in a fault
abbrev pub some : {X : Type 0} → (X → Result Bool NumFault) → List X → Result Bool NumFault
some test [] = Ok false
some test (x ∷ xs) = or_else (test x) (some test xs)

-- A comparison: some pair compares so, a member of the left operand with one of the right. The pairs are tried in document
-- order, the left operand first.
abbrev pub compared : List Record → CompareOp → Value → Value → Result Bool NumFault
compared rs op a b = some (λ x. some (compared_single rs op x) (members rs (is_boolean a) b)) (members rs (is_boolean b) a)
