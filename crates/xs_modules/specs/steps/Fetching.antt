-- What fetching one module answers.
use Rattle.std.specs.Prelude.{◌≡◌, ℕ, List, [], ◌∷◌, ◌++◌, ◌⊎◌, Option, Result, Ok, Err}
use Rattle.xs_outside.specs.Edge.{Files}
use Rattle.xs_build.specs.Document.{document, tree, refused}
use Rattle.xs_build.specs.declared.document.Built.{Built}
use Rattle.xs_modules.specs.declared.document.Unread.{Unread}
use Rattle.xs_modules.specs.declared.document.Unread.TheVariants.{Failed, Bad, NoMemory}
use Rattle.xs_modules.specs.Reading.{Holds, module_limit}

-- a file of the library, where that shows its files, whose bytes represent a document
pub record HasDocument (files : Option Files) (name : List ℕ) (built : Built) : Type 0 where
  pub bytes : List ℕ
  pub holds : Holds files name bytes
  pub document : document module_limit bytes ≡ tree built.tree built.lines.items

-- or for none
pub record HasNone (files : Option Files) (name : List ℕ) (number line : ℕ) : Type 0 where
  pub bytes : List ℕ
  pub holds : Holds files name bytes
  pub document : document module_limit bytes ≡ refused number line

-- What was asked for and failed, and what was read. Where memory ran out, that was before the fetch or after.
abbrev pub Fetches : Result Built Unread → Option Files → List ℕ → (asked asked_after failed failed_after : List (List ℕ)) → Type 0
Fetches (Ok built) files name asked asked_after failed failed_after =
    HasDocument files name built × (asked_after ≡ asked ++ name ∷ []) × (failed_after ≡ failed)
Fetches (Err (Bad number line)) files name asked asked_after failed failed_after =
    HasNone files name number line × (asked_after ≡ asked ++ name ∷ []) × (failed_after ≡ failed)
Fetches (Err Failed) files name asked asked_after failed failed_after =
    (asked_after ≡ asked ++ name ∷ []) × (failed_after ≡ failed ++ name ∷ [])
Fetches (Err NoMemory) files name asked asked_after failed failed_after =
    ((asked_after ≡ asked) ⊎ (asked_after ≡ asked ++ name ∷ [])) × (failed_after ≡ failed)
