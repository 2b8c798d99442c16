-- A document as a grammar over what its lines say (XML 1.0, 2.1, 2.8, 3 and 3.1). Each rule speaks of the lines from a place on, and
-- of the rest of them, behind what the rule names.
use Rattle.std.specs.Prelude.{◌≡◌, ℕ, List, [], ◌∷◌, true}
use Rattle.xs_text.specs.WhiteSpace.{is_blank}
use Rattle.xs_pyx.specs.declared.line.Line.{Line}
use Rattle.xs_pyx.specs.declared.line.Line.TheVariants.{Start, Attr, Chars, End, Pi, Comment}

-- what may stand around the element: white space, comments, and processing instructions, the XML declaration among them (2.8)
pub data Misc (rest : List Line) : List Line → Type 0 where
  no_misc : Misc rest rest
  white_space : (text : List ℕ) (lines : List Line) → is_blank text ≡ true → Misc rest lines → Misc rest (Chars text ∷ lines)
  outer_comment : (text : List ℕ) (lines : List Line) → Misc rest lines → Misc rest (Comment text ∷ lines)
  outer_instruction : (target text : List ℕ) (lines : List Line) → Misc rest lines → Misc rest (Pi target text ∷ lines)

-- attributes and declarations (3.1)
pub data Attributes (rest : List Line) : List Line → Type 0 where
  no_attributes : Attributes rest rest
  attribute : (name value : List ℕ) (lines : List Line) → Attributes rest lines → Attributes rest (Attr name value ∷ lines)

mutual
  -- an element: its start, its attributes, its content, and its end, which has the same name (3)
  pub data Element : List Line → List Line → Type 0 where
    element : (name : List ℕ) (rest inner lines : List Line) → Attributes inner lines → Content (End name ∷ rest) inner → Element rest (Start name ∷ lines)

  -- content: texts, comments, processing instructions and elements (3.1)
  pub data Content : List Line → List Line → Type 0 where
    no_content : (rest : List Line) → Content rest rest
    text : (text : List ℕ) (rest lines : List Line) → Content rest lines → Content rest (Chars text ∷ lines)
    comment : (text : List ℕ) (rest lines : List Line) → Content rest lines → Content rest (Comment text ∷ lines)
    instruction : (target text : List ℕ) (rest lines : List Line) → Content rest lines → Content rest (Pi target text ∷ lines)
    child : (rest behind lines : List Line) → Element behind lines → Content rest behind → Content rest lines

-- a document: one element, and what may stand around it (2.1)
pub record IsWellFormed (lines : List Line) : Type 0 where
  pub top : List Line
  pub behind : List Line
  pub before : Misc top lines
  pub element : Element behind top
  pub after : Misc [] behind
