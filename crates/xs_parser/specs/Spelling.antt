-- The tokens of a text as rules (XPath 1.0, 3.7; numbers in brackets are its productions). In each place the longest token is
-- taken, and what stands before a name or a star says whether it is an operator. `Lexing` has the same as a function.
use Rattle.std.specs.Prelude.{◌≡◌, ℕ, suc, true, false, List, [], ◌∷◌, ◌++◌, Some, None}
use Rattle.xs_tree.specs.declared.axes.Axis.{Axis}
use Rattle.xs_xpath.specs.declared.name.NodeTest.{NodeTest}
use Rattle.xs_xpath.specs.declared.name.NodeTest.TheVariants.{Pi, Target}
use Rattle.xs_xpath.specs.declared.token.Operator.{Operator}
use Rattle.xs_xpath.specs.declared.token.Atom.TheVariants.{Literal}
use Rattle.xs_parser.specs.declared.token.QName.{QName}
use Rattle.xs_parser.specs.declared.token.Token.{Token}
use Rattle.xs_parser.specs.declared.token.Token.TheVariants.{Infix, OnAxis, Test, Atom}
use Rattle.xs_parser.specs.declared.token.Lexeme.{Lexeme}
use Rattle.xs_parser.specs.declared.token.Lexeme.TheVariants.{Ready, AnyOf, Named, Called, Variable, Number}
use Rattle.xs_parser.specs.declared.token.Placed.{Placed}
use Rattle.xs_parser.specs.declared.bytes.Class.{Class}
use Rattle.xs_parser.specs.declared.bytes.Class.TheVariants.{Space, Digit, NameByte, Until}
use Rattle.xs_parser.specs.declared.bytes.Kind.TheVariants.{ANumber, AName, ASign}
use Rattle.xs_parser.specs.declared.signs.Before.{Before}
use Rattle.xs_parser.specs.declared.signs.Before.TheVariants.{NoOperand, Operand}
use Rattle.xs_parser.specs.Lexing.{is_space, is_quote, starts_name, passes, first, behind, strip, kind, is_operand, two, one, is_ncname, qname, local_at, unprefixed, operator_named, kind_named, axis_named, colons_at, star_at, placed}

-- each byte is of a class
abbrev pub AllPass : Class → List ℕ → Type 0
AllPass class [] = Unit {0}
AllPass class (b ∷ bs) = (passes class b ≡ true) × AllPass class bs

-- bytes do not go on with a class
abbrev pub Stops : Class → List ℕ → Type 0
Stops class [] = Unit {0}
Stops class (b ∷ bs) = passes class b ≡ false

-- A text before a rest is a qualified name (Namespaces in XML 1.0, 4), and does not go on.
pub data IsName : List ℕ → List ℕ → QName → Type 0 where
  local_name : (text rest : List ℕ) → is_ncname text ≡ true → AllPass NameByte text → Stops NameByte rest → local_at rest ≡ None
      → IsName text rest (qname [] text)
  prefixed_name : (prefix local rest : List ℕ) → is_ncname prefix ≡ true → is_ncname local ≡ true → AllPass NameByte prefix → AllPass NameByte local
      → starts_name (first local) ≡ true → Stops NameByte rest
      → IsName (prefix ++ 58 ∷ local) rest (qname prefix local)

-- A text that stands after something, and before a rest, is a token, and what this is before the next one.
pub data IsToken : Before → List ℕ → List ℕ → Lexeme → Before → Type 0 where
  one_sign : (before after : Before) (b : ℕ) (rest : List ℕ) (t : Token) → kind (b ∷ rest) ≡ ASign → two b (first rest) ≡ None
      → one before b ≡ Some (t, after) → IsToken before (b ∷ []) rest (Ready t) after
  two_signs : (before after : Before) (b c : ℕ) (rest : List ℕ) (t : Token) → kind (b ∷ c ∷ rest) ≡ ASign → two b c ≡ Some (t, after)
      → IsToken before (b ∷ c ∷ []) rest (Ready t) after
  -- [30]
  whole_number : (before : Before) (whole rest : List ℕ) → kind (whole ++ rest) ≡ ANumber → AllPass Digit whole → Stops Digit rest → strip 46 rest ≡ None
      → IsToken before whole rest (Number whole) Operand
  pointed_number : (before : Before) (whole fraction rest : List ℕ) → kind ((whole ++ 46 ∷ fraction) ++ rest) ≡ ANumber → AllPass Digit whole
      → AllPass Digit fraction → Stops Digit rest
      → IsToken before (whole ++ 46 ∷ fraction) rest (Number (whole ++ 46 ∷ fraction)) Operand
  -- [29]
  a_literal : (before : Before) (quote : ℕ) (text rest : List ℕ) → is_quote quote ≡ true → AllPass (Until quote) text
      → IsToken before (quote ∷ (text ++ quote ∷ [])) rest (Ready (Atom (Literal text))) Operand
  -- [36]
  a_variable : (before : Before) (text rest : List ℕ) (q : QName) → IsName text rest q → IsToken before (36 ∷ text) rest (Variable q) Operand
  -- [33]
  an_operator : (before : Before) (text rest : List ℕ) (q : QName) (op : Operator) → kind (text ++ rest) ≡ AName → is_operand before ≡ true
      → IsName text rest q → unprefixed operator_named q ≡ Some op
      → IsToken before text rest (Ready (Infix op)) NoOperand
  -- [37]
  any_of : (before : Before) (text rest : List ℕ) → kind ((text ++ 58 ∷ 42 ∷ []) ++ rest) ≡ AName → is_operand before ≡ false
      → IsName text (58 ∷ 42 ∷ rest) (qname [] text) → IsToken before (text ++ 58 ∷ 42 ∷ []) rest (AnyOf text) Operand
  a_name : (before : Before) (text rest : List ℕ) (q : QName) → kind (text ++ rest) ≡ AName → is_operand before ≡ false → IsName text rest q
      → star_at rest ≡ None → strip 40 (behind Space rest) ≡ None → colons_at (behind Space rest) ≡ None
      → IsToken before text rest (Named q) Operand
  -- [6], with its colons
  an_axis : (before : Before) (text spaces rest : List ℕ) (q : QName) (axis : Axis) → kind ((text ++ (spaces ++ 58 ∷ 58 ∷ [])) ++ rest) ≡ AName
      → is_operand before ≡ false → IsName text (spaces ++ 58 ∷ 58 ∷ rest) q → AllPass Space spaces
      → unprefixed axis_named q ≡ Some axis → IsToken before (text ++ (spaces ++ 58 ∷ 58 ∷ [])) rest (Ready (OnAxis axis)) NoOperand
  -- [35], with its bracket
  a_call : (before : Before) (text spaces rest : List ℕ) (q : QName) → kind ((text ++ (spaces ++ 40 ∷ [])) ++ rest) ≡ AName → is_operand before ≡ false
      → IsName text (spaces ++ 40 ∷ rest) q → AllPass Space spaces → unprefixed kind_named q ≡ None
      → IsToken before (text ++ (spaces ++ 40 ∷ [])) rest (Called q) NoOperand
  -- [7] [38], with both brackets: after the name, white space, a bracket, white space and a bracket
  a_kind : (before : Before) (text spaces more rest : List ℕ) (q : QName) (test : NodeTest)
      → kind ((text ++ (spaces ++ 40 ∷ (more ++ 41 ∷ []))) ++ rest) ≡ AName → is_operand before ≡ false → IsName text (spaces ++ 40 ∷ (more ++ 41 ∷ rest)) q
      → AllPass Space spaces → AllPass Space more → unprefixed kind_named q ≡ Some test
      → IsToken before (text ++ (spaces ++ 40 ∷ (more ++ 41 ∷ []))) rest (Ready (Test test)) Operand
  -- the same with a literal between the brackets
  a_target : (before : Before) (text spaces more target last rest : List ℕ) (quote : ℕ) (q : QName)
      → kind ((text ++ (spaces ++ 40 ∷ (more ++ quote ∷ (target ++ quote ∷ (last ++ 41 ∷ []))))) ++ rest) ≡ AName → is_operand before ≡ false
      → IsName text (spaces ++ 40 ∷ (more ++ quote ∷ (target ++ quote ∷ (last ++ 41 ∷ rest)))) q → AllPass Space spaces → AllPass Space more
      → AllPass Space last → is_quote quote ≡ true → AllPass (Until quote) target → unprefixed kind_named q ≡ Some Pi
      → IsToken before (text ++ (spaces ++ 40 ∷ (more ++ quote ∷ (target ++ quote ∷ (last ++ 41 ∷ []))))) rest (Ready (Test (Target target))) Operand

-- the place after bytes that begin at a place
abbrev pub past : List ℕ → ℕ → ℕ
past [] at = at
past (b ∷ bs) at = past bs (suc at)

-- The text from a place on, where something stands before it, has these tokens, with white space between them.
pub data Lexes : ℕ → Before → List ℕ → List Placed → Type 0 where
  end : (at : ℕ) (before : Before) → Lexes at before [] []
  space : (at : ℕ) (before : Before) (b : ℕ) (bs : List ℕ) (ts : List Placed) → is_space b ≡ true → Lexes (suc at) before bs ts → Lexes at before (b ∷ bs) ts
  token : (at : ℕ) (before after : Before) (b : ℕ) (text rest : List ℕ) (l : Lexeme) (ts : List Placed) → is_space b ≡ false
      → IsToken before (b ∷ text) rest l after → Lexes (past (b ∷ text) at) after rest ts
      → Lexes at before ((b ∷ text) ++ rest) (placed at l ∷ ts)
