-- What a run asks its library for.
use Rattle.std.specs.Prelude.{◌≡◌, ℕ, List, [], ◌∷◌, ◌++◌, Option, Some, None}
use Rattle.xs_outside.specs.Edge.{Files}
use Rattle.xs_modules.specs.Mentions.{named_by_words}
use Rattle.xs_modules.specs.Mentioned.{Mentioned}
use Rattle.xs_modules.specs.Numbering.{ModuleData, numbered}
use Rattle.xs_modules.specs.Reading.{End, whole, Reads, failed_names}
use Rattle.xs_static.specs.Faults.{IsFirstFault}
use Rattle.xs_reply.specs.Inputs.{AsksInputs}
use Rattle.xs_reply.specs.Job.{Job, Request, files_on}

-- The reading of a stylesheet's modules asks for these names, in order, and comes to this end (XSLT 1.0, 2.6).
abbrev pub ReadsSheet : Option Files → List ℕ → List (List ℕ) → End → Type 0
ReadsSheet files sheet names end = Reads files [] 0 (named_by_words sheet ∷ []) names end

-- A run on this source goes on to it: the stylesheet has no static fault.
pub record GoesOn (job : Job) (modules : List ModuleData) (source : List ℕ) : Type 0 where
  pub run : job.source ≡ Some source
  pub faultless : IsFirstFault modules None

-- The names that a job asked for, in order, and those of them whose fetch failed: the modules of its stylesheet, as far as the
-- reading came; and, once all were read and have no static fault, its inputs, as far as their reading came. So nothing is asked for
-- after a failure.
pub data Asks (job : Job) (files : Option Files) : List (List ℕ) → List (List ℕ) → Type 0 where
  sheet_asked : {names : List (List ℕ)} {end : End} → ReadsSheet files job.sheet names end → Asks job files names (failed_names end)
  inputs_asked : {names later faults : List (List ℕ)} {read : Mentioned} {source : List ℕ} → ReadsSheet files job.sheet names (whole read)
      → GoesOn job (numbered read) source → AsksInputs files (files_on job source) later faults → Asks job files (names ++ later) faults

-- both lists of a library grew, by names of which P says what was asked for and what failed
pub record Grew (P : List (List ℕ) → List (List ℕ) → Type 0) (before after failed_before failed_after : List (List ℕ)) : Type 0 where
  pub names : List (List ℕ)
  pub faults : List (List ℕ)
  pub asked : after ≡ before ++ names
  pub failed : failed_after ≡ failed_before ++ faults
  pub asks : P names faults

-- what a run of a job asked for
abbrev pub JobFetches : Job → Option Files → (asked asked_after failed failed_after : List (List ℕ)) → Type 0
JobFetches job files asked asked_after failed failed_after = Grew (Asks job files) asked asked_after failed failed_after

-- nothing was asked for
abbrev pub IsUnasked : (asked asked_after failed failed_after : List (List ℕ)) → Type 0
IsUnasked asked asked_after failed failed_after = (asked_after ≡ asked) × (failed_after ≡ failed)

-- A run that makes its files asks for nothing.
abbrev pub FetchesOver : (made : Option ℕ) → Job → Option Files → (asked asked_after failed failed_after : List (List ℕ)) → Type 0
FetchesOver None job files asked asked_after failed failed_after = JobFetches job files asked asked_after failed failed_after
FetchesOver (Some count) job files asked asked_after failed failed_after = IsUnasked asked asked_after failed failed_after

-- Refused arguments ask for nothing.
abbrev pub Fetches : Option Request → Option Files → (asked asked_after failed failed_after : List (List ℕ)) → Type 0
Fetches None files asked asked_after failed failed_after = IsUnasked asked asked_after failed failed_after
Fetches (Some request) files asked asked_after failed failed_after =
    FetchesOver request.made request.job files asked asked_after failed failed_after
