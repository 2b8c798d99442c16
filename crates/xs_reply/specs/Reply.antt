-- A reply as an answer, a job and a stylesheet as the code has them, and what the reading of a source gives.
use Rattle.std.specs.Prelude.{◌≡◌, ◌≢◌, ◌≤◌, ◌^◌, ℕ, List, [], ◌∷◌, ◌++◌, ◌⊎◌, Option, Some, None, Result, Ok, Err}
use Rattle.xs_outside.specs.Edge.{Files}
use Rattle.xs_outside.specs.declared.edge.FetchEnd.{FetchEnd}
use Rattle.xs_outside.specs.declared.edge.FetchEnd.TheVariants.{Failed, NoMemory}
use Rattle.xs_modules.specs.Reading.{Holds}
use Rattle.xs_reply.specs.declared.job.Job.{Job as CodeJob}
use Rattle.xs_reply.specs.declared.job.Request.{Request as CodeRequest}
use Rattle.xs_reply.specs.declared.reply.Reply.{Reply}
use Rattle.xs_reply.specs.declared.report.Report.{Report}
use Rattle.xs_reply.specs.declared.status.TheConstants.{OK}
use Rattle.xs_trace.specs.declared.event.Event.{Event}
use Rattle.xs_core.specs.declared.place.Claim.{Claim}
use Rattle.xs_modules.specs.Numbering.{ModuleData}
use Rattle.xs_static.specs.Faults.{IsFirstFault}
use Rattle.xs_static.specs.declared.fault.StaticFault.{StaticFault}
use Rattle.xs_reply.specs.Answer.{Answer, Pieces, faultless, no_pieces, refused_file}
use Rattle.xs_reply.specs.Run.{module_name}
use Rattle.xs_reply.specs.Headline.{Account, AreRun}
use Rattle.xs_reply.specs.Inputs.{AsksInputs}
use Rattle.xs_reply.specs.Job.{Job, Request, files_on, plain}
use Rattle.xs_reply.specs.Read.{Read}
use Rattle.xs_reply.specs.ReadBack.{ReadsAs}

abbrev pub job_data : CodeJob → Job
job_data job = record {
  sheet = job.sheet;
  source = job.source;
  documents = [];
  given = job.given.items;
  budget = job.budget;
  most_events = job.most_events;
  grain = job.grain;
  stats = job.stats;
}

-- the numbers of a job are within their limits
pub record IsWithin (job : CodeJob) : Type 0 where
  pub budget : job.budget ≤ 2 ^ 40
  pub grain : 1 ≤ job.grain
  pub workers : (1 ≤ job.workers) × (job.workers ≤ 64)

abbrev pub request_data : CodeRequest → Request
request_data request = record (plain request.job.workers (job_data request.job)) { made = request.made }

-- a reply as an answer, which has these pieces, and of which the result is the lines of these events
abbrev pub answer_of : Reply → (document : Option (List Event)) → Pieces → Answer
answer_of reply document pieces = record {
  status = reply.status;
  result = reply.result.items;
  lines = reply.lines.items;
  fault = reply.fault;
  ticks = reply.ticks;
  pieces = pieces;
  document = document;
}

-- a reply without such lines and without pieces
abbrev pub reply_of : Reply → Answer
reply_of reply = answer_of reply None no_pieces

-- what a reply has besides: the claims, the pieces that were evaluated again, and the ticks of all
pub record Plain : Type 0 where
  pub answer : Answer
  pub claims : List Claim
  pub inline : ℕ
  pub worked : ℕ

abbrev pub plain_of : Reply → Plain
plain_of reply = record {
  answer = reply_of reply;
  claims = reply.pieces.claims.items;
  inline = reply.pieces.inline;
  worked = reply.pieces.worked;
}

abbrev pub without_pieces : Answer → Plain
without_pieces answer = record { answer = answer; claims = []; inline = 0; worked = 0 }

-- a reply is an answer that has no pieces
abbrev pub IsPlain : Answer → Reply → Type 0
IsPlain answer reply = plain_of reply ≡ without_pieces answer

-- a reply took no ticks and has no pieces
abbrev pub IsUnspent : Reply → Type 0
IsUnspent reply = (reply.ticks ≡ 0) × (reply.pieces.claims.items ≡ []) × (reply.pieces.inline ≡ 0) × (reply.pieces.worked ≡ 0)

-- the pieces of a reply were run by so many workers, of which these are expected
abbrev pub RunsPieces : (count : ℕ) → Pieces → Reply → Type 0
RunsPieces count expected reply = AreRun expected (reply.status ≡ OK) count reply.pieces.claims.items reply.pieces.inline reply.pieces.worked

-- A reply is an answer of which P says this, and its pieces were run by so many workers; and where N holds, its result reads back as the
-- events of this very answer.
pub record Replies (count : ℕ) (N : Type 0) (P : Answer → Type 0) (reply : Reply) : Type 0 where
  pub document : Option (List Event)
  pub pieces : Pieces
  pub answers : P (answer_of reply document pieces)
  pub run : RunsPieces count pieces reply
  pub reads : N → ReadsAs document reply.result.items

abbrev pub account_of : Report → Account
account_of report = record {
  status = report.status;
  ticks = report.ticks;
  fault = report.fault;
  pieces = report.pieces;
  inline = report.inline;
  claims = report.claims.items;
  worked = report.worked;
}

-- only a status of 0 has a result
abbrev pub IsWholeOrEmpty : Reply → Type 0
IsWholeOrEmpty reply = reply.status ≢ OK → reply.result.items ≡ []

-- the library had a file of this name, and this is what the file's bytes represent
pub record FileGives {A : Type 0} (reading : List ℕ → Read A) (files : Option Files) (name : List ℕ) (found : Read A) : Type 0 where
  pub bytes : List ℕ
  pub holds : Holds files name bytes
  pub gives : found ≡ reading bytes

-- A file was asked for and read, or its fetch failed. Where memory ran out, that was before the fetch or after.
abbrev pub AsksFor : {A : Type 0} → Result A FetchEnd → List ℕ → (asked asked_after : List (List ℕ)) → Type 0
AsksFor (Ok read) name asked asked_after = asked_after ≡ asked ++ name ∷ []
AsksFor (Err Failed) name asked asked_after = asked_after ≡ asked ++ name ∷ []
AsksFor (Err NoMemory) name asked asked_after = (asked_after ≡ asked) ⊎ (asked_after ≡ asked ++ name ∷ [])

-- The inputs of a run on a source were asked for, of which P says that the run goes on to it, or, where it does not, nothing.
pub data AsksSource (P : List ℕ → Type 0) (files : Option Files) (job : Job) : List (List ℕ) → List (List ℕ) → Type 0 where
  unasked : AsksSource P files job [] []
  asked_for : {source : List ℕ} {names faults : List (List ℕ)} → P source → AsksInputs files (files_on job source) names faults
      → AsksSource P files job names faults

-- a run of a compiled stylesheet on a source goes on to it
abbrev pub GoesTo : (source name : List ℕ) → Type 0
GoesTo source name = name ≡ source

-- the answer of a stylesheet that is only checked: its first static fault, or nothing
abbrev pub check_answer : Option StaticFault → List ModuleData → Answer
check_answer None modules = faultless
check_answer (Some fault) modules = refused_file fault.number (module_name modules fault.«module») fault.line

pub record IsChecked (modules : List ModuleData) (reply : Reply) : Type 0 where
  pub fault : Option StaticFault
  pub first : IsFirstFault modules fault
  pub answers : IsPlain (check_answer fault modules) reply
