-- The inputs of a run: its source, and then further documents.
use Rattle.std.specs.Prelude.{◌≡◌, ℕ, ◌+◌, List, [], ◌∷◌, ◌++◌, map, length, Option, option_map}
use Rattle.xs_modules.specs.Reading.{Holds}
use Rattle.xs_outside.specs.Edge.{Files}
use Rattle.xs_tree.specs.Record.{Record}
use Rattle.xs_reply.specs.Read.{read}
use Rattle.xs_reply.specs.Run.{source_of}

-- a document that was read: its name, empty for the source, and the records of its tree
pub record Document : Type 0 where
  pub name : List ℕ
  pub records : List Record

abbrev pub named_document : (name : List ℕ) → List Record → Document
named_document name records = record { name = name; records = records }

-- a record after so many others
abbrev pub moved : ℕ → Record → Record
moved n r = record r { parent = option_map (λ p. n + p) r.parent }

-- the records of a tree whose root bears the name of its document
abbrev pub titled : List ℕ → List Record → List Record
titled name [] = []
titled name (root ∷ records) = record root { text = name } ∷ records

-- the trees of further documents, one after another
unfoldable pub joined_later : List Document → List Record
joined_later [] = []
joined_later (d ∷ documents) = titled d.name d.records ++ map (moved (length d.records)) (joined_later documents)

-- The trees of all documents as one list of records. That of the source is the first.
unfoldable pub joined : List Document → List Record
joined [] = []
joined (d ∷ documents) = d.records ++ map (moved (length d.records)) (joined_later documents)

-- the library has an input of this name, and its bytes are a document
pub record IsDocument (files : Option Files) (name : List ℕ) : Type 0 where
  pub bytes : List ℕ
  pub holds : Holds files name bytes
  pub records : List Record
  pub document : source_of bytes ≡ read records

-- Of these inputs a beginning was asked for, in order, and at most the last of it failed: one is asked for after those before it are
-- documents. Memory may run out before any.
pub data AsksInputs (files : Option Files) : (inputs names faults : List (List ℕ)) → Type 0 where
  no_more : {inputs : List (List ℕ)} → AsksInputs files inputs [] []
  last : {name : List ℕ} {inputs : List (List ℕ)} → AsksInputs files (name ∷ inputs) (name ∷ []) []
  failed : {name : List ℕ} {inputs : List (List ℕ)} → AsksInputs files (name ∷ inputs) (name ∷ []) (name ∷ [])
  next : {name : List ℕ} {inputs names faults : List (List ℕ)} → IsDocument files name → AsksInputs files inputs names faults
      → AsksInputs files (name ∷ inputs) (name ∷ names) faults
