-- The lists of modules that a reading gives.
use Rattle.std.specs.Prelude.{◌≡◌, ◌<◌, ◌≤◌, ℕ, ◌+◌, List, [], ◌∷◌, length}
use Rattle.std.specs.List.{All}
use Rattle.xs_tree.specs.Record.{Record}
use Rattle.xs_build.specs.DocumentTree.{IsOneDocument}
use Rattle.xs_modules.specs.Mentions.{Mention, mentions, named_by_words}
use Rattle.xs_modules.specs.Mentioned.{Mentioned, no_module, one, count}
use Rattle.xs_modules.specs.Numbering.{ModuleData, numbered}
use Rattle.xs_modules.specs.Reading.{most_modules}

-- the nodes are those of one document, and each has its line
pub record HasLines (rs : List Record) (lines : List ℕ) : Type 0 where
  pub document : IsOneDocument rs
  pub each : length lines ≡ length rs

-- The tree of these mentions, the first module of which has this number: each mention names a document, inside which stand the
-- modules of its own mentions.
pub data IsTreeOf : (number : ℕ) → List Mention → Mentioned → Type 0 where
  no_mention : {number : ℕ} → IsTreeOf number [] no_module
  mentioned : {number : ℕ} {m : Mention} {ms : List Mention} {rs : List Record} {lines : List ℕ} {inside next : Mentioned} → HasLines rs lines
      → IsTreeOf (number + 1) (mentions number m.name rs lines) inside → IsTreeOf (number + (1 + count inside)) ms next
      → IsTreeOf number (m ∷ ms) (one m rs lines inside next)

-- The modules are those of one tree of mentions, with the numbers and precedences that this gives them: 1 to 256 documents.
pub record IsSound (modules : List ModuleData) : Type 0 where
  pub name : List ℕ
  pub tree : Mentioned
  pub is_tree : IsTreeOf 0 (named_by_words name ∷ []) tree
  pub list : modules ≡ numbered tree
  pub some : 0 < length modules
  pub few : length modules ≤ most_modules
  pub documents : All (λ m. HasLines m.records m.lines) modules
