-- Laws of the grammar: the rules and the functions say the same, so that a text represents at most one tree.
use Rattle.std.specs.Prelude.{◌≡◌, ◌↔◌, ℕ, Bool, List, Some, Err}
use Rattle.xs_xpath.specs.Tree.{Tree}
use Rattle.xs_parser.specs.declared.fault.Fault.TheVariants.{Syntax}
use Rattle.xs_parser.specs.declared.signs.Before.TheVariants.{NoOperand}
use Rattle.xs_parser.specs.declared.token.Placed.{Placed}
use Rattle.xs_parser.specs.declared.token.Token.{Token}
use Rattle.xs_parser.specs.Faults.{outcome_in, reported, tokens_in}
use Rattle.xs_parser.specs.Grammar.{SpellsExpr}
use Rattle.xs_parser.specs.Lexing.{lexemes_in}
use Rattle.xs_parser.specs.Reading.{tree_of}
use Rattle.xs_parser.specs.Spelling.{Lexes}

-- tokens spell the tree that the function gives, and no other
abbrev pub TokensAreRead : Type 0
TokensAreRead = (ts : List Token) (e : Tree) → SpellsExpr ts e ↔ (tree_of ts ≡ Some e)

abbrev pub OneTree : Type 0
OneTree = (ts : List Token) (e f : Tree) → SpellsExpr ts e → SpellsExpr ts f → e ≡ f

-- a text has the tokens that the function gives, and no others
abbrev pub TextsHaveTokens : Type 0
TextsHaveTokens = (text : List ℕ) (ps : List Placed) → Lexes 0 NoOperand text ps ↔ (lexemes_in text ≡ Some ps)

-- a text represents a tree in a scope: it has tokens, and these spell the tree
abbrev pub Represents : List (List ℕ × List ℕ) → List ℕ → Tree → Type 0
Represents pairs text e = (ps : List Placed) × Lexes 0 NoOperand text ps × SpellsExpr (tokens_in pairs ps) e

abbrev pub OneTreeOfText : Type 0
OneTreeOfText = (pairs : List (List ℕ × List ℕ)) (text : List ℕ) (e f : Tree) → Represents pairs text e → Represents pairs text f → e ≡ f

-- a text, wanted as a pattern or not, is reported to be in no spelling of the grammar exactly where it represents no tree
abbrev pub SyntaxIsReported : Type 0
SyntaxIsReported =
    (wanted : Bool) (pairs : List (List ℕ × List ℕ)) (text : List ℕ) → (outcome_in wanted pairs text ≡ Err Syntax) ↔ ((e : Tree) → Represents pairs text e → ⊥)

-- of a text whose tokens spell a tree, the least of the other faults is reported, or else the tree
abbrev pub OutcomeIsReported : Type 0
OutcomeIsReported =
    (wanted : Bool) (pairs : List (List ℕ × List ℕ)) (text : List ℕ) (ps : List Placed) (e : Tree) → Lexes 0 NoOperand text ps
    → SpellsExpr (tokens_in pairs ps) e
    → (outcome_in wanted pairs text ≡ reported wanted pairs ps e)
