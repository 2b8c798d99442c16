-- Value templates (XSLT 1.0, 7.6.2): fixed text with expressions between curly brackets.
use Rattle.std.specs.Prelude.{◌≡◌, ℕ, zero, suc, ◌+◌, ◌-◌, ◌==◌, ◌||◌, nat_lt, not, Bool, true, false, if◌then◌else◌, List, [], ◌∷◌, ◌++◌, length, take, drop, Option, Some, None, option_map, option_and_then, Result, Ok, Err}
use Rattle.std.specs.List.{prefix_len}
use Rattle.xs_xpath.specs.Templates.{Part, text, computed}
use Rattle.xs_xpath.specs.Tree.{Tree}
use Rattle.xs_parser.specs.declared.avt.Written.{Written}
use Rattle.xs_parser.specs.declared.avt.Written.TheVariants.{Plain, Braced}
use Rattle.xs_parser.specs.declared.bytes.Class.TheVariants.{Until}
use Rattle.xs_parser.specs.declared.fault.Fault.{Fault}
use Rattle.xs_parser.specs.declared.fault.Fault.TheVariants.{Syntax, UnknownFunction, ArgCount, BadLiteral, TooNested, NotPattern, UnboundPrefix}
use Rattle.xs_parser.specs.Faults.{expr_in}
use Rattle.xs_parser.specs.Laws.{Represents}
use Rattle.xs_parser.specs.Lexing.{is_quote, first, second}
use Rattle.xs_parser.specs.Outcome.{number_of_fault}
use Rattle.xs_parser.specs.Spelling.{AllPass, past}

-- A part as it is written: how, its text, and the place of its first byte, which is a bracket where it is an expression.
pub record Piece : Type 0 where
  pub at : ℕ
  pub written : Written
  pub bytes : List ℕ

abbrev pub piece_of : ℕ → Written → List ℕ → Piece
piece_of at written bytes = record { at = at; written = written; bytes = bytes }

abbrev pub is_bracket : ℕ → Bool
is_bracket b = b == 123 || b == 125

abbrev pub is_fixed : ℕ → Bool
is_fixed b = not (is_bracket b)

-- ---- rules
abbrev pub AllFixed : List ℕ → Type 0
AllFixed [] = Unit {0}
AllFixed (b ∷ bs) = (is_fixed b ≡ true) × AllFixed bs

-- fixed text does not go on
abbrev pub EndsFixed : List ℕ → Type 0
EndsFixed [] = Unit {0}
EndsFixed (b ∷ bs) = is_fixed b ≡ false

-- What may stand between the brackets of an expression: a right bracket stands in literals alone.
pub data Inside : List ℕ → Type 0 where
  nothing : Inside []
  other_byte : (b : ℕ) (bs : List ℕ) → is_quote b ≡ false → (b == 125) ≡ false → Inside bs → Inside (b ∷ bs)
  a_literal : (quote : ℕ) (inner bs : List ℕ) → is_quote quote ≡ true → AllPass (Until quote) inner → Inside bs → Inside (quote ∷ (inner ++ quote ∷ bs))

-- Bytes before a rest are a piece: how it is written, and its text.
pub data IsPiece : List ℕ → List ℕ → Written → List ℕ → Type 0 where
  fixed_text : (bytes rest : List ℕ) → AllFixed bytes → EndsFixed rest → IsPiece bytes rest Plain bytes
  -- a bracket that is written twice represents one
  doubled : (b : ℕ) (rest : List ℕ) → is_bracket b ≡ true → IsPiece (b ∷ b ∷ []) rest Plain (b ∷ [])
  expression : (inner rest : List ℕ) → (first inner == 123) ≡ false → Inside inner → IsPiece (123 ∷ (inner ++ 125 ∷ [])) rest Braced inner

-- the pieces of a text from a place on
pub data Pieces : ℕ → List ℕ → List Piece → Type 0 where
  end : (at : ℕ) → Pieces at [] []
  piece : (at b : ℕ) (bytes rest : List ℕ) (written : Written) (inner : List ℕ) (ps : List Piece) → IsPiece (b ∷ bytes) rest written inner
      → Pieces (past (b ∷ bytes) at) rest ps
      → Pieces at ((b ∷ bytes) ++ rest) (piece_of at written inner ∷ ps)

-- pieces represent parts in a scope
pub data AllStand (pairs : List (List ℕ × List ℕ)) : List Piece → List Part → Type 0 where
  no_pieces : AllStand pairs [] []
  fixed_stands : (at : ℕ) (bytes : List ℕ) (ps : List Piece) (qs : List Part) → AllStand pairs ps qs
      → AllStand pairs (piece_of at Plain bytes ∷ ps) (text bytes ∷ qs)
  braced_stands : (at : ℕ) (bytes : List ℕ) (e : Tree) (ps : List Piece) (qs : List Part) → Represents pairs bytes e → AllStand pairs ps qs
      → AllStand pairs (piece_of at Braced bytes ∷ ps) (computed e ∷ qs)

-- ---- the same as functions
-- how many bytes stand before the right bracket that ends an expression; after a quote a literal is open
abbrev pub ends : Option ℕ → ℕ → Bool
ends None b = b == 125
ends (Some quote) b = false

abbrev pub open_behind : Option ℕ → ℕ → Option ℕ
open_behind None b = if is_quote b then Some b else None
open_behind (Some quote) b = if b == quote then None else Some quote

abbrev pub inside : Option ℕ → List ℕ → Option ℕ
inside quote [] = None
inside quote (b ∷ bs) = if ends quote b then Some 0 else option_map suc (inside (open_behind quote b) bs)

-- how a piece is written, its text, and what is after it
abbrev pub fixed_at : List ℕ → Written × List ℕ × List ℕ
fixed_at bytes = (Plain, take (prefix_len is_fixed bytes) bytes, drop (prefix_len is_fixed bytes) bytes)

abbrev pub doubled_at : List ℕ → Written × List ℕ × List ℕ
doubled_at bytes = (Plain, take 1 bytes, drop 1 bytes)

abbrev pub braced_at : List ℕ → Option ℕ → Option (Written × List ℕ × List ℕ)
braced_at bytes None = None
braced_at bytes (Some n) = Some (Braced, take n bytes, drop 1 (drop n bytes))

-- a bracket with what is after it
abbrev pub bracket_at : List ℕ → Option (Written × List ℕ × List ℕ)
bracket_at bytes =
    if second bytes == first bytes then Some (doubled_at (drop 1 bytes))
    else if first bytes == 123 then braced_at (drop 1 bytes) (inside None (drop 1 bytes))
    else None

unfoldable pub piece_at : List ℕ → Option (Written × List ℕ × List ℕ)
piece_at bytes = if is_bracket (first bytes) then bracket_at bytes else Some (fixed_at bytes)

-- the pieces from a place on, where so many bytes of a piece are still to be passed
unfoldable pub cut : ℕ → ℕ → List ℕ → Option (List Piece)
cut at skip [] = Some []
cut at (suc n) (b ∷ bs) = cut (suc at) n bs
cut at zero (b ∷ bs) = option_and_then (λ p. option_map (λ ps. piece_of at p.0 p.1 ∷ ps) (cut (suc at) (length bs - length p.2) bs)) (piece_at (b ∷ bs))

-- ---- the outcome
-- a fault of an expression, at its place in the whole text
abbrev pub moved : ℕ → Fault → Fault
moved at Syntax = Syntax
moved at (UnknownFunction place) = UnknownFunction (at + place)
moved at (ArgCount place) = ArgCount (at + place)
moved at (BadLiteral place) = BadLiteral (at + place)
moved at (TooNested place) = TooNested (at + place)
moved at (NotPattern place) = NotPattern (at + place)
moved at (UnboundPrefix place) = UnboundPrefix (at + place)

-- the lesser of two faults, of which the first is the earlier
abbrev pub lesser : Fault → Fault → Fault
lesser f g = if nat_lt (number_of_fault g) (number_of_fault f) then g else f

abbrev pub joined : Result Part Fault → Result (List Part) Fault → Result (List Part) Fault
joined (Ok part) (Ok parts) = Ok (part ∷ parts)
joined (Ok part) (Err g) = Err g
joined (Err f) (Ok parts) = Err f
joined (Err f) (Err g) = Err (lesser f g)

abbrev pub computed_from : ℕ → Result Tree Fault → Result Part Fault
computed_from at (Ok e) = Ok (computed e)
computed_from at (Err f) = Err (moved at f)

-- a piece at a place, by how it is written and its text
abbrev pub part_by : List (List ℕ × List ℕ) → ℕ → Written → List ℕ → Result Part Fault
part_by pairs at Plain bytes = Ok (text bytes)
part_by pairs at Braced bytes = computed_from (suc at) (expr_in pairs bytes)

abbrev pub part_in : List (List ℕ × List ℕ) → Piece → Result Part Fault
part_in pairs p = part_by pairs p.at p.written p.bytes

abbrev pub parts_in : List (List ℕ × List ℕ) → List Piece → Result (List Part) Fault
parts_in pairs [] = Ok []
parts_in pairs (p ∷ ps) = joined (part_in pairs p) (parts_in pairs ps)

abbrev pub parts_if : List (List ℕ × List ℕ) → Option (List Piece) → Result (List Part) Fault
parts_if pairs None = Err Syntax
parts_if pairs (Some ps) = parts_in pairs ps

-- what a value template represents in a scope, or the least of its faults
unfoldable pub template_in : List (List ℕ × List ℕ) → List ℕ → Result (List Part) Fault
template_in pairs bytes = parts_if pairs (cut 0 0 bytes)
