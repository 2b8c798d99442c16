-- Why a run is refused, and when it is not.
use Rattle.std.specs.Prelude.{◌≡◌, ℕ, ◌⊎◌, List, [], ◌∷◌, Option, Some, None}
use Rattle.std.specs.List.{All}
use Rattle.xs_outside.specs.Edge.{Files}
use Rattle.xs_modules.specs.Mentioned.{Mentioned}
use Rattle.xs_modules.specs.Numbering.{numbered}
use Rattle.xs_modules.specs.Reading.{Holds, whole, refused}
use Rattle.xs_static.specs.Faults.{IsFirstFault}
use Rattle.xs_static.specs.declared.fault.StaticFault.{StaticFault}
use Rattle.xs_reply.specs.declared.reply.ReportedFault.{ReportedFault}
use Rattle.xs_reply.specs.declared.status.TheConstants.{OK, REFUSED, RUN_FAULT}
use Rattle.xs_reply.specs.Answer.{reported}
use Rattle.xs_reply.specs.Fetches.{GoesOn, ReadsSheet}
use Rattle.xs_reply.specs.Headline.{IsCutShort}
use Rattle.xs_reply.specs.Inputs.{IsDocument}
use Rattle.xs_reply.specs.Job.{Job, Request, files_on}
use Rattle.xs_reply.specs.Made.{files_of}
use Rattle.xs_reply.specs.Read.{bad}
use Rattle.xs_reply.specs.Run.{module_name, source_of}

-- the library has an input of this name, and its bytes have this fault
pub record HasFault (files : Option Files) (name : List ℕ) (fault : ReportedFault) : Type 0 where
  pub bytes : List ℕ
  pub holds : Holds files name bytes
  pub refused : source_of bytes ≡ bad fault.number fault.line
  pub named : fault.«module» ≡ name

-- of these inputs the first that is no document has this fault
abbrev pub IsFirstBad : Option Files → List (List ℕ) → ReportedFault → Type 0
IsFirstBad files [] fault = ⊥
IsFirstBad files (name ∷ names) fault = HasFault files name fault ⊎ (IsDocument files name × IsFirstBad files names fault)

-- A job is refused for this fault: the one to which the reading of the stylesheet's modules comes (XSLT 1.0, 2.6); the least static
-- fault of these modules; or, where they have none, that of the first input that is no document.
pub data IsRefused (files : Option Files) (job : Job) : ReportedFault → Type 0 where
  module_refused : {names : List (List ℕ)} {number line : ℕ} {name : List ℕ} → ReadsSheet files job.sheet names (refused number name line)
      → IsRefused files job (reported number name line)
  stylesheet_refused : {names : List (List ℕ)} {found : Mentioned} {fault : StaticFault} → ReadsSheet files job.sheet names (whole found)
      → IsFirstFault (numbered found) (Some fault)
      → IsRefused files job (reported fault.number (module_name (numbered found) fault.«module») fault.line)
  input_refused : {names : List (List ℕ)} {found : Mentioned} {source : List ℕ} {fault : ReportedFault} → ReadsSheet files job.sheet names (whole found)
      → GoesOn job (numbered found) source → IsFirstBad files (files_on job source) fault → IsRefused files job fault

-- the inputs of a job are documents; a stylesheet that is only checked has none
abbrev pub AreDocuments : (source : Option (List ℕ)) → Files → Job → Type 0
AreDocuments None files job = Unit {0}
AreDocuments (Some source) files job = All (IsDocument (Some files)) (files_on job source)

-- No file of a job has a fault: all modules are read, they have no static fault, and all inputs are documents.
pub record IsFaultless (files : Files) (job : Job) : Type 0 where
  pub names : List (List ℕ)
  pub found : Mentioned
  pub reads : ReadsSheet (Some files) job.sheet names (whole found)
  pub accepted : IsFirstFault (numbered found) None
  pub documents : AreDocuments job.source files job

-- a stylesheet that was only checked, or one that was evaluated
abbrev pub IsEnd : (source : Option (List ℕ)) → (status : ℕ) → Type 0
IsEnd None status = status ≡ OK
IsEnd (Some source) status = (status ≡ OK) ⊎ (status ≡ RUN_FAULT)

-- Files decide a status: a job with a fault is refused, and one without is evaluated, unless the run is cut short.
pub record IsDecided (files : Files) (job : Job) (status : ℕ) : Type 0 where
  pub refused : (fault : ReportedFault) → IsRefused (Some files) job fault → (status ≡ REFUSED) ⊎ IsCutShort status
  pub evaluated : IsFaultless files job → IsEnd job.source status ⊎ IsCutShort status

abbrev pub IsDecidedBy : Option Files → Job → (status : ℕ) → Type 0
IsDecidedBy None job status = Unit {0}
IsDecidedBy (Some files) job status = IsDecided files job status

-- the files of a run decide, where they are known, unless the arguments are refused
abbrev pub Decides : Option Request → Option Files → (status : ℕ) → Type 0
Decides None files status = Unit {0}
Decides (Some request) files status = IsDecidedBy (files_of request.made files) request.job status

-- the fault is one for which a run is refused
abbrev pub IsListed : Option Request → Option Files → Option ReportedFault → Type 0
IsListed None files fault = ⊥
IsListed (Some request) files fault = (f : ReportedFault) × (fault ≡ Some f) × IsRefused (files_of request.made files) request.job f
