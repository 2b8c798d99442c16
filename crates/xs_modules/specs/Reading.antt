-- The reading of a stylesheet's modules, depth first in the order of lines (XSLT 1.0, 2.6): which names are asked for, and the tree
-- of modules, or the first trouble.
use Rattle.std.specs.Prelude.{◌≡◌, ℕ, ◌+◌, ◌<◌, Bool, true, false, List, [], ◌∷◌, ◌++◌, Option, Some, IfSome}
use Rattle.std.specs.List.{list_any}
use Rattle.std.specs.Str.{bytes_eq}
use Rattle.xs_outside.specs.Edge.{Files}
use Rattle.xs_tree.specs.Record.{Record}
use Rattle.xs_build.specs.Document.{document, tree, refused as refused_document}
use Rattle.xs_modules.specs.Mentions.{Mention, mentions}
use Rattle.xs_modules.specs.Mentioned.{Mentioned, no_module, one, count}

-- the most modules of a stylesheet
abbrev pub most_modules : ℕ
most_modules = 256

-- the most bytes of a module
abbrev pub module_limit : ℕ
module_limit = 4194304

-- a module that stands on its own path of modules
abbrev pub circular_module : ℕ
circular_module = 30

-- one module more than there may be
abbrev pub too_many_modules : ℕ
too_many_modules = 31

-- How the reading ends: with the modules; with a name that can't be read; with a fault, by its number, the name of a module and a
-- line; or, anywhere, where memory ran out.
pub data End : Type 0 where
  whole : Mentioned → End
  unread : List ℕ → End
  refused : ℕ → List ℕ → ℕ → End
  out_of_memory : End

-- the reading came to no end of its own
abbrev pub IsTrouble : End → Type 0
IsTrouble (whole modules) = ⊥
IsTrouble (unread name) = Unit {0}
IsTrouble (refused number name line) = Unit {0}
IsTrouble out_of_memory = Unit {0}

-- the name is that of a module on the path from the first one down to the mention
abbrev pub is_above : List (List ℕ) → List ℕ → Bool
is_above above name = list_any (λ n. bytes_eq n name) above

-- a mention's name is asked for: it is not on the path, and there is room for another module beside so many
pub record IsAsked (above : List (List ℕ)) (number : ℕ) (m : Mention) : Type 0 where
  pub apart : is_above above m.name ≡ false
  pub room : number < most_modules

-- The library has this file, where it shows its files. Where it shows none, these are some bytes: nothing ties them to what it gave.
abbrev pub Holds : Option Files → List ℕ → List ℕ → Type 0
Holds files name bytes = IfSome files (λ map. map name ≡ Some bytes)

-- and it has the file, whose bytes represent these nodes with these lines
pub record IsRead (files : Option Files) (above : List (List ℕ)) (number : ℕ) (m : Mention) (rs : List Record) (lines : List ℕ) : Type 0 where
  pub asked : IsAsked above number m
  pub bytes : List ℕ
  pub holds : Holds files m.name bytes
  pub document : document module_limit bytes ≡ tree rs lines

-- or represent no document
pub record IsRefused (files : Option Files) (above : List (List ℕ)) (number : ℕ) (m : Mention) (fault line : ℕ) : Type 0 where
  pub asked : IsAsked above number m
  pub bytes : List ℕ
  pub holds : Holds files m.name bytes
  pub document : document module_limit bytes ≡ refused_document fault line

-- What comes of these mentions, below modules of these names, where the next module gets this number: the names that are asked for,
-- in order, and the end.
pub data Reads (files : Option Files) : (above : List (List ℕ)) → (number : ℕ) → List Mention → List (List ℕ) → End → Type 0 where
  -- there is no mention
  none : {above : List (List ℕ)} {number : ℕ} → Reads files above number [] [] (whole no_module)
  -- the next one names a module of its own path, which is not asked for
  circular : {above : List (List ℕ)} {number : ℕ} {m : Mention} {ms : List Mention} → is_above above m.name ≡ true
      → Reads files above number (m ∷ ms) [] (refused circular_module m.from m.line)
  -- else there are as many modules as there may be
  too_many : {above : List (List ℕ)} {number : ℕ} {m : Mention} {ms : List Mention} → is_above above m.name ≡ false → number ≡ most_modules
      → Reads files above number (m ∷ ms) [] (refused too_many_modules m.from m.line)
  -- else its name is asked for, and can't be read
  failed : {above : List (List ℕ)} {number : ℕ} {m : Mention} {ms : List Mention} → IsAsked above number m
      → Reads files above number (m ∷ ms) (m.name ∷ []) (unread m.name)
  -- or it is no document
  bad : {above : List (List ℕ)} {number : ℕ} {m : Mention} {ms : List Mention} {fault line : ℕ} → IsRefused files above number m fault line
      → Reads files above number (m ∷ ms) (m.name ∷ []) (refused fault m.name line)
  -- or it is read, and there is trouble in what it mentions itself
  inside : {above : List (List ℕ)} {number : ℕ} {m : Mention} {ms : List Mention} {rs : List Record} {lines : List ℕ} {names : List (List ℕ)} {end : End}
      → IsRead files above number m rs lines
      → Reads files (above ++ m.name ∷ []) (number + 1) (mentions number m.name rs lines) names end → IsTrouble end
      → Reads files above number (m ∷ ms) (m.name ∷ names) end
  -- or there is none in it, but in the next mentions
  behind : {above : List (List ℕ)} {number : ℕ} {m : Mention} {ms : List Mention} {rs : List Record} {lines : List ℕ} {names later : List (List ℕ)}
      {within : Mentioned} {end : End} → IsRead files above number m rs lines
      → Reads files (above ++ m.name ∷ []) (number + 1) (mentions number m.name rs lines) names (whole within)
      → Reads files above (number + (1 + count within)) ms later end → IsTrouble end
      → Reads files above number (m ∷ ms) (m.name ∷ names ++ later) end
  -- or there is none
  all : {above : List (List ℕ)} {number : ℕ} {m : Mention} {ms : List Mention} {rs : List Record} {lines : List ℕ} {names later : List (List ℕ)}
      {within next : Mentioned} → IsRead files above number m rs lines
      → Reads files (above ++ m.name ∷ []) (number + 1) (mentions number m.name rs lines) names (whole within)
      → Reads files above (number + (1 + count within)) ms later (whole next)
      → Reads files above number (m ∷ ms) (m.name ∷ names ++ later) (whole (one m rs lines within next))
  -- memory runs out before the next name is asked for, or after
  out_before : {above : List (List ℕ)} {number : ℕ} {ms : List Mention} → Reads files above number ms [] out_of_memory
  out_after : {above : List (List ℕ)} {number : ℕ} {m : Mention} {ms : List Mention} → IsAsked above number m
      → Reads files above number (m ∷ ms) (m.name ∷ []) out_of_memory

-- the names of the fetches that failed
abbrev pub failed_names : End → List (List ℕ)
failed_names (whole modules) = []
failed_names (unread name) = name ∷ []
failed_names (refused number name line) = []
failed_names out_of_memory = []
