-- The functions on values (XPath 1.0, 4; XSLT 1.0, 12), except `key`. A call has as many arguments as its function takes
-- (XPath 1.0, 3.2), which the grammar sees to: what a call beyond it gives is of no account.
use Rattle.std.specs.Prelude.{ℕ, ◌++◌, ◌==◌, if◌then◌else◌, Bool, List, [], ◌∷◌, Option, Some, None, Ok, pos, codes, length, nat_eq, slice_get, unwrap_or}
use Rattle.std.specs.Prelude.{is_some}
use Rattle.std.specs.List.{starts_with}
use Rattle.std.specs.Option.{option_map_or}
use Rattle.std.specs.Str.{chars, encode_utf8_all}
use Rattle.xs_num.specs.Number.{sum_of}
use Rattle.xs_num.specs.Text.{number_in, text_of}
use Rattle.xs_num.specs.declared.number.Number.{Number}
use Rattle.xs_num.specs.declared.number.Number.TheVariants.{Whole}
use Rattle.xs_strings.specs.Positions.{substring_of}
use Rattle.xs_strings.specs.Searching.{parts_round}
use Rattle.xs_tree.specs.Record.{Record, at, name_local, name_prefix, string_value}
use Rattle.xs_value.specs.declared.value.Value.{Value}
use Rattle.xs_value.specs.declared.value.Value.TheVariants.{Number as Numeral, Chars, Nodes}
use Rattle.xs_value.specs.Conversion.{number_value, text_value}
use Rattle.xs_eval_spec.specs.Context.{Context}
use Rattle.xs_eval_spec.specs.Results.{Outcome, ◌>>=◌, numeric, natural, nodes_in}

-- an argument by its place, from 0
abbrev pub argument : List Value → ℕ → Value
argument vs k = unwrap_or (slice_get vs k) (Chars [])

abbrev pub first : List Value → Value
first vs = argument vs 0

abbrev pub second : List Value → Value
second vs = argument vs 1

abbrev pub third : List Value → Value
third vs = argument vs 2

-- an argument that may be left out is the context node then (XPath 1.0, 4.1, 4.2 and 4.4)
abbrev pub first_or_node : Context → List Value → Value
first_or_node c vs = unwrap_or (slice_get vs 0) (Nodes (c.node ∷ []))

-- 4.1

-- the first node in document order
abbrev pub first_node : Value → Outcome (Option ℕ)
first_node v = do
  ns ← nodes_in v
  Ok (slice_get ns 0)

abbrev pub prefixed : List ℕ → List ℕ → List ℕ
prefixed prefix local = if length prefix == 0 then local else prefix ++ 58 ∷ local

-- the QName of a node, with the prefix that it was written with
abbrev pub written_name : Record → List ℕ
written_name r = prefixed (name_prefix r) (name_local r)

-- `local-name`, `namespace-uri`, `name`: a part of the name of the first node; without a node it is empty
abbrev pub name_part : (Record → List ℕ) → List Record → Value → Outcome Value
name_part part rs v = do
  n ← first_node v
  Ok (Chars (option_map_or (λ k. part (at rs k)) n []))

-- `count`
abbrev pub count : Value → Outcome Value
count v = do
  ns ← nodes_in v
  n ← natural (length ns)
  Ok (Numeral n)

-- 4.2

-- `starts-with`, `contains`
abbrev pub does_start_with : List ℕ → List ℕ → Bool
does_start_with text start = starts_with nat_eq text start

abbrev pub does_contain : List ℕ → List ℕ → Bool
does_contain text sought = is_some (parts_round (chars sought) (chars text))

-- the text of some characters
abbrev pub written : List ℕ → Value
written characters = Chars (encode_utf8_all characters)

-- `substring`: the characters from a position on, and at most so many where their number is given
abbrev pub count_given : List Record → Option Value → Outcome (Option Number)
count_given rs None = Ok None
count_given rs (Some v) = do
  n ← numeric (number_value rs v)
  Ok (Some n)

abbrev pub substring : List Record → List Value → Outcome Value
substring rs vs = do
  from ← numeric (number_value rs (second vs))
  count ← count_given rs (slice_get vs 2)
  Ok (written (substring_of (chars (text_value rs (first vs))) from count))

-- `string-length`
abbrev pub string_length : List ℕ → Outcome Value
string_length text = do
  n ← natural (length (chars text))
  Ok (Numeral n)

-- 4.4

-- `number`, and as well `floor`, `ceiling` and `round`, since each number is whole: a quotient that is their argument was rounded
abbrev pub number : List Record → Value → Outcome Value
number rs v = do
  n ← numeric (number_value rs v)
  Ok (Numeral n)

-- `sum`: node by node, each number added as soon as it is read
abbrev pub and_number : List Record → Number → ℕ → Outcome Number
and_number rs total n = do
  k ← numeric (number_in (string_value rs n))
  numeric (sum_of total k)

-- from a total on
abbrev pub sum_from : List Record → Number → List ℕ → Outcome Number
sum_from rs total [] = Ok total
sum_from rs total (n ∷ ns) = do
  more ← and_number rs total n
  sum_from rs more ns

abbrev pub sum : List Record → Value → Outcome Value
sum rs v = do
  ns ← nodes_in v
  total ← sum_from rs (Whole (pos 0)) ns
  Ok (Numeral total)

-- XSLT 1.0, 12.4

-- `generate-id`: of the first node a name that no other node has, by its place; without a node it is empty
abbrev pub id_of : ℕ → List ℕ
id_of n = codes "n" ++ text_of (Whole (pos n))

abbrev pub generated_id : Value → Outcome Value
generated_id v = do
  n ← first_node v
  Ok (Chars (option_map_or id_of n []))
