-- The operands of a comparison, in the ways in which they are compared.
use Rattle.std.specs.Prelude.{◌≡◌, ◌==◌, ◌||◌, not, ℕ, Bool, true, false, List, [], ◌∷◌, ◌<◌, map, length, Option, Some, None, Result, Ok, Err, if◌then◌else◌}
use Rattle.std.specs.Cow.{cow_str_bytes}
use Rattle.std.specs.List.{All, list_any}
use Rattle.std.specs.Str.{bytes_eq}
use Rattle.xs_num.specs.Text.{number_in}
use Rattle.xs_num.specs.Number.{comparison_of}
use Rattle.xs_num.specs.declared.number.Number.{Number}
use Rattle.xs_num.specs.declared.number.Number.TheVariants.{Whole, NaN}
use Rattle.xs_num.specs.declared.number.NumFault.{NumFault}
use Rattle.xs_num.specs.declared.number.NumFault.TheVariants as expected
use Rattle.xs_tree.specs.Record.{Record, string_value}
use Rattle.xs_value.specs.declared.comparison.CompareOp.{CompareOp}
use Rattle.xs_value.specs.declared.comparison.ComparedAs.{ComparedAs}
use Rattle.xs_value.specs.declared.comparison.ComparedAs.TheVariants.{BesideBoolean, Numbers as AsNumbers, Strings as AsStrings}
use Rattle.xs_value.specs.declared.comparison.numbers.Numbers.{Numbers}
use Rattle.xs_value.specs.declared.comparison.numbers.Numbers.TheVariants as numbers
use Rattle.xs_value.specs.declared.comparison.texts.Texts.{Texts}
use Rattle.xs_value.specs.declared.comparison.texts.Texts.TheVariants as texts
use Rattle.xs_value.specs.declared.value.Value.{Value}
use Rattle.xs_value.specs.declared.value.Value.TheVariants.{Bool as Boolean, Number as Numeral, Chars, Nodes, Piece}
use Rattle.xs_value.specs.declared.value.ValueFault.{ValueFault}
use Rattle.xs_value.specs.declared.value.ValueFault.TheVariants.{Fraction, Range, NoMemory}
use Rattle.xs_value.specs.Comparison.{by_number, holds, is_boolean, is_numeral, is_ordering, some}
use Rattle.xs_value.specs.Conversion.{fragment_text}

-- in which way two values are compared
abbrev pub compared_as : CompareOp → Value → Value → ComparedAs
compared_as op a b = if is_boolean a || is_boolean b then BesideBoolean else (if is_ordering op || (is_numeral a || is_numeral b) then AsNumbers else AsStrings)

-- a value beside a boolean
abbrev pub beside : Value → Value
beside (Boolean b) = Boolean b
beside (Numeral n) = Numeral n
beside (Chars text) = Chars text
beside (Nodes ns) = Boolean (not (length ns == 0))
beside (Piece events) = Boolean true

-- the numbers of nodes
abbrev pub node_numbers : List Record → List ℕ → List (Result Number NumFault)
node_numbers rs ns = map (λ n. number_in (string_value rs n)) ns

-- the numbers that represent a value
abbrev pub numbers_of : List Record → Value → List (Result Number NumFault)
numbers_of rs (Boolean b) = []
numbers_of rs (Numeral n) = Ok n ∷ []
numbers_of rs (Chars text) = number_in text ∷ []
numbers_of rs (Nodes ns) = node_numbers rs ns
numbers_of rs (Piece events) = number_in (fragment_text events) ∷ []

-- the same as they are kept
abbrev pub kept_numbers : List Record → Numbers → List (Result Number NumFault)
kept_numbers rs (numbers.One x) = x ∷ []
kept_numbers rs (numbers.Nodes ns) = node_numbers rs ns.now

-- a value that is no boolean, kept as numbers
abbrev pub Keeps : Value → Numbers → Type 0
Keeps (Boolean b) kept = ⊥
Keeps (Numeral n) (numbers.One x) = x ≡ Ok n
Keeps (Numeral n) (numbers.Nodes ks) = ⊥
Keeps (Chars text) (numbers.One x) = x ≡ number_in text
Keeps (Chars text) (numbers.Nodes ks) = ⊥
Keeps (Nodes ns) (numbers.One x) = ⊥
Keeps (Nodes ns) (numbers.Nodes ks) = ks.now ≡ ns
Keeps (Piece events) (numbers.One x) = x ≡ number_in (fragment_text events)
Keeps (Piece events) (numbers.Nodes ks) = ⊥

-- some number of the one list compares so with one of the other
abbrev pub some_numbers : CompareOp → List (Result Number NumFault) → List (Result Number NumFault) → Result Bool NumFault
some_numbers op xs ys = some (λ x. some (by_number op x) ys) xs

-- a number that represents all of a list, on the right
abbrev pub Represents : CompareOp → List (Result Number NumFault) → Number → Type 0
Represents op ys e = (x : Result Number NumFault) → some (by_number op x) ys ≡ by_number op x (Ok e)

-- whether one number can represent all
abbrev pub CanStand : CompareOp → Numbers → Type 0
CanStand op (numbers.One y) = Unit {0}
CanStand op (numbers.Nodes ns) = is_ordering op ≡ true

-- What the comparison of one number with all of a list answers: none where it holds, else the number that represents the list.
abbrev pub AnswersRow : CompareOp → Number → List (Result Number NumFault) → Type 0 → Result (Option Number) ValueFault → Type 0
AnswersRow op x ys can (Ok None) = some (by_number op (Ok x)) ys ≡ Ok true
AnswersRow op x ys can (Ok (Some e)) = (some (by_number op (Ok x)) ys ≡ Ok false) × (can → Represents op ys e)
AnswersRow op x ys can (Err Fraction) = some (by_number op (Ok x)) ys ≡ Err expected.Fraction
AnswersRow op x ys can (Err Range) = some (by_number op (Ok x)) ys ≡ Err expected.Range
AnswersRow op x ys can (Err NoMemory) = Unit {0}

-- the nodes are in the tree
abbrev pub AreIn : List Record → Numbers → Type 0
AreIn rs (numbers.One x) = Unit {0}
AreIn rs (numbers.Nodes ns) = All (λ n. n < length rs) ns.now

abbrev pub is_nan : Number → Bool
is_nan (Whole z) = false
is_nan NaN = true

-- Of two numbers the one that represents both on the right of an operator that orders: the greater one for `<` and `<=`, the
-- lesser for `>` and `>=`; the other one where one is NaN.
abbrev pub further : CompareOp → Number → Number → Number
further op x y = if is_nan x || holds op (comparison_of x y) then y else x

-- the strings of nodes
abbrev pub node_texts : List Record → List ℕ → List (List ℕ)
node_texts rs ns = map (string_value rs) ns

-- the strings that represent a value
abbrev pub texts_of : List Record → Value → List (List ℕ)
texts_of rs (Boolean b) = []
texts_of rs (Numeral n) = []
texts_of rs (Chars text) = text ∷ []
texts_of rs (Nodes ns) = node_texts rs ns
texts_of rs (Piece events) = fragment_text events ∷ []

-- the same as they are kept
abbrev pub kept_texts : List Record → Texts → List (List ℕ)
kept_texts rs (texts.One text) = cow_str_bytes text ∷ []
kept_texts rs (texts.Nodes ns) = node_texts rs ns.now

-- a value that is neither a boolean nor a number, kept as strings
abbrev pub KeepsTexts : Value → Texts → Type 0
KeepsTexts (Boolean b) kept = ⊥
KeepsTexts (Numeral n) kept = ⊥
KeepsTexts (Chars text) (texts.One t) = cow_str_bytes t ≡ text
KeepsTexts (Chars text) (texts.Nodes ks) = ⊥
KeepsTexts (Nodes ns) (texts.One t) = ⊥
KeepsTexts (Nodes ns) (texts.Nodes ks) = ks.now ≡ ns
KeepsTexts (Piece events) (texts.One t) = cow_str_bytes t ≡ fragment_text events
KeepsTexts (Piece events) (texts.Nodes ks) = ⊥

-- some string of the one list is that of the other
abbrev pub some_equal : List (List ℕ) → List (List ℕ) → Bool
some_equal xs ys = list_any (λ x. list_any (bytes_eq x) ys) xs

-- whether a string is another
abbrev pub is_other : List ℕ → List ℕ → Bool
is_other text other = not (bytes_eq text other)

-- some string of the one list is another than one of the other
abbrev pub some_different : List (List ℕ) → List (List ℕ) → Bool
some_different xs ys = list_any (λ x. list_any (is_other x) ys) xs

-- the nodes are in the tree
abbrev pub AreTextsIn : List Record → Texts → Type 0
AreTextsIn rs (texts.One text) = Unit {0}
AreTextsIn rs (texts.Nodes ns) = All (λ n. n < length rs) ns.now

-- the first string
abbrev pub first_of : List (List ℕ) → List ℕ
first_of [] = []
first_of (text ∷ rest) = text

-- some string of the one or the other list is another than this one
abbrev pub has_others : List ℕ → List (List ℕ) → List (List ℕ) → Bool
has_others text xs ys = list_any (is_other text) ys || list_any (is_other text) xs
