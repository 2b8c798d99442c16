-- The answer that is expected of a run.
use Rattle.std.specs.Prelude.{◌≡◌, ℕ, List, [], ◌∷◌, ◌++◌, Option, Some, None}
use Rattle.xs_compile.specs.Represents.{Represents}
use Rattle.xs_outside.specs.Edge.{Files}
use Rattle.xs_modules.specs.Numbering.{ModuleData, numbered}
use Rattle.xs_modules.specs.Reading.{Holds, End, whole, unread, refused, out_of_memory}
use Rattle.xs_static.specs.Faults.{IsFirstFault}
use Rattle.xs_static.specs.declared.fault.StaticFault.{StaticFault}
use Rattle.xs_tree.specs.Record.{Record}
use Rattle.xs_sheet.specs.declared.sheet.Sheet.{Sheet}
use Rattle.xs_reply.specs.Answer.{Answer, usage, read_fault, refused_file, faultless}
use Rattle.xs_reply.specs.Evaluation.{IsEvaluatedOver}
use Rattle.xs_reply.specs.Fetches.{ReadsSheet}
use Rattle.xs_reply.specs.Inputs.{Document, named_document}
use Rattle.xs_reply.specs.Job.{Job, Request, inputs_on}
use Rattle.xs_reply.specs.Made.{files_of}
use Rattle.xs_reply.specs.Read.{Read, read, bad}
use Rattle.xs_reply.specs.Run.{module_name, source_of}
use Rattle.xs_words.specs.Choice.{Pair}

-- the answer over what the bytes of an input represent, by what follows of its records
abbrev pub IsReadAnswer : (name : List ℕ) → Read (List Record) → (next : List Record → Type 0) → Answer → Type 0
IsReadAnswer name (read records) next answer = next records
IsReadAnswer name (bad number line) next answer = answer ≡ refused_file number name line

-- The answer of a compiled stylesheet on the inputs that are left, after those that were read to these documents. The first input
-- that is no document is reported; one that can't be read has no answer here.
abbrev pub IsInputsAnswer : Option Files → Job → Sheet → (left : List Pair) → List Document → Answer → Type 0
IsInputsAnswer files job sheet [] documents answer = IsEvaluatedOver job sheet documents answer
IsInputsAnswer files job sheet (input ∷ left) documents answer =
    (bytes : List ℕ) × Holds files input.1 bytes
    × IsReadAnswer input.1 (source_of bytes) (λ records. IsInputsAnswer files job sheet left (documents ++ named_document input.0 records ∷ []) answer) answer

-- on all its inputs
abbrev pub IsSheetAnswer : Option Files → Job → Sheet → (inputs : List Pair) → Answer → Type 0
IsSheetAnswer files job sheet inputs answer = IsInputsAnswer files job sheet inputs [] answer

-- The answer of a run on inputs: that of a compiled stylesheet that represents the modules.
pub record IsRunAnswer (files : Option Files) (job : Job) (modules : List ModuleData) (inputs : List Pair) (answer : Answer) : Type 0 where
  pub sheet : Sheet
  pub stands : Represents modules sheet
  pub answers : IsSheetAnswer files job sheet inputs answer

-- the answer over modules without a static fault; where the stylesheet is only checked, it has none
abbrev pub IsFaultlessAnswer : (source : Option (List ℕ)) → Option Files → Job → List ModuleData → Answer → Type 0
IsFaultlessAnswer None files job modules answer = answer ≡ faultless
IsFaultlessAnswer (Some source) files job modules answer = IsRunAnswer files job modules (inputs_on job source) answer

-- by their first static fault, reported with the module that has it
abbrev pub IsStaticAnswer : Option StaticFault → Option Files → Job → List ModuleData → Answer → Type 0
IsStaticAnswer None files job modules answer = IsFaultlessAnswer job.source files job modules answer
IsStaticAnswer (Some fault) files job modules answer =
    answer ≡ refused_file fault.number (module_name modules fault.«module») fault.line

-- The answer over the modules of a stylesheet. A static fault is reported before an input is read.
pub record IsModulesAnswer (files : Option Files) (job : Job) (modules : List ModuleData) (answer : Answer) : Type 0 where
  pub fault : Option StaticFault
  pub first : IsFirstFault modules fault
  pub answers : IsStaticAnswer fault files job modules answer

-- the answer over an end that the reading of modules comes to of itself: the first trouble is reported
abbrev pub IsEndAnswer : Option Files → Job → End → Answer → Type 0
IsEndAnswer files job (whole found) answer = IsModulesAnswer files job (numbered found) answer
IsEndAnswer files job (unread name) answer = ⊥
IsEndAnswer files job (refused number name line) answer = answer ≡ refused_file number name line
IsEndAnswer files job out_of_memory answer = ⊥

-- The arguments and the files define this answer: that over the end to which the reading of the stylesheet's modules comes. Where the
-- library records no files, there are some bytes for each name of which it is the answer.
pub record IsAnswer (files : Option Files) (job : Job) (answer : Answer) : Type 0 where
  pub names : List (List ℕ)
  pub end : End
  pub reads : ReadsSheet files job.sheet names end
  pub answers : IsEndAnswer files job end answer

-- Where a name was added to the library's list of failed names, the fault on that name is expected; and else what P says.
pub data Owed (P : Answer → Type 0) (failed failed_after : List (List ℕ)) (answer : Answer) : Type 0 where
  fault : (name : List ℕ) → failed_after ≡ failed ++ name ∷ [] → answer ≡ read_fault name → Owed P failed failed_after answer
  own : failed_after ≡ failed → P answer → Owed P failed failed_after answer

-- The answer that is expected of a run over these files of its library, where the library's list of failed names was so before and after:
-- refused arguments have theirs whatever the files, and a run that makes its files has its own over these.
abbrev pub IsExpected : Option Files → Option Request → (failed failed_after : List (List ℕ)) → Answer → Type 0
IsExpected files None failed failed_after answer = (failed_after ≡ failed) × (answer ≡ usage)
IsExpected files (Some request) failed failed_after answer = Owed (IsAnswer (files_of request.made files) request.job) failed failed_after answer
