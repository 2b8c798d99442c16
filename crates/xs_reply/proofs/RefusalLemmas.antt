-- Files decide whether a run is refused.
use Rattle.std.proofs.Common.{◌≡◌, ℕ, Bool, ◌⊎◌, inl, inr, List, [], ◌∷◌, ◌++◌, map, Option, Some, None, refl, sym, ap, subst, ◌∙◌, arith}
use Rattle.std.proofs.lemmas.List.Elements.{All-head, All-tail}
use Rattle.std.specs.List.{All}
use Rattle.xs_outside.specs.Edge.{Files}
use Rattle.xs_modules.specs.Mentions.{named_by_words}
use Rattle.xs_modules.specs.Mentioned.{Mentioned}
use Rattle.xs_modules.specs.Numbering.{ModuleData, numbered}
use Rattle.xs_modules.specs.Reading.{Holds, End, whole, unread, refused, out_of_memory}
use Rattle.xs_modules.specs.ReadingLaws.{IsOwn}
use Rattle.xs_modules.proofs.OneReadingLemmas.{one_reading}
use Rattle.xs_body_spec.specs.Tasks.{Task}
use Rattle.xs_body_spec.specs.World.{World}
use Rattle.xs_sheet.specs.declared.sheet.Sheet.{Sheet}
use Rattle.xs_static.specs.Faults.{IsFirstFault}
use Rattle.xs_static.specs.declared.fault.StaticFault.{StaticFault}
use Rattle.xs_trace.specs.Cut as cut
use Rattle.xs_trace.specs.Cut.{Whole, Fault, Needs, Spent, Full}
use Rattle.xs_trace.specs.Mark.{Trace}
use Rattle.xs_tree.specs.Record.{Record}
use Rattle.xs_words.specs.Choice.{Pair}
use Rattle.xs_reply.specs.declared.reply.ReportedFault.{ReportedFault}
use Rattle.xs_reply.specs.declared.status.TheConstants.{NO_MEMORY, OK, READ_FAULT, REFUSED, RUN_FAULT, USAGE, WRITE_FAULT}
use Rattle.xs_reply.specs.Answer.{Answer, Pieces, reported}
use Rattle.xs_reply.specs.Expected.{IsAnswer, IsExpected, IsEndAnswer, IsFaultlessAnswer, IsInputsAnswer, IsModulesAnswer, IsReadAnswer}
use Rattle.xs_reply.specs.Expected.{IsRunAnswer, IsStaticAnswer, Owed, fault, own}
use Rattle.xs_reply.specs.Evaluation as run
use Rattle.xs_reply.specs.Evaluation.{IsEvaluated, IsEvaluatedOver, in_globals, in_root}
use Rattle.xs_reply.specs.Fetches.{ReadsSheet}
use Rattle.xs_reply.specs.Headline.{IsCutShort}
use Rattle.xs_reply.specs.Inputs.{Document, IsDocument, named_document}
use Rattle.xs_reply.specs.Job.{Job, Request, file_of, files_on, inputs_on}
use Rattle.xs_reply.specs.Made.{files_of}
use Rattle.xs_reply.specs.Read.{Read, read, bad}
use Rattle.xs_reply.specs.Refusals.{AreDocuments, Decides, IsDecided, IsDecidedBy, IsEnd, IsFaultless, IsFirstBad, IsListed, IsRefused}
use Rattle.xs_reply.specs.Refusals.{module_refused, stylesheet_refused, input_refused}
use Rattle.xs_reply.specs.Run.{module_name, source_of}
use Rattle.xs_reply.proofs.ExpectedLemmas.{not_both, one_file, own_end}
use Rattle.xs_reply.proofs.FirstFaultLemmas.{one_fault}

-- ---- statuses
abbrev IsRun : ℕ → Type 0
IsRun status = (status ≡ OK) ⊎ (status ≡ RUN_FAULT)

abbrev status_in : Answer → ℕ
status_in answer = answer.status

not-run : (status : ℕ) → IsRun status → status ≡ REFUSED → ⊥
not-run status (inl e) r = omega (arith, e, r)
not-run status (inr e) r = omega (arith, e, r)

not-whole : (status : ℕ) → status ≡ OK → status ≡ REFUSED → ⊥
not-whole status e r = omega (arith, e, r)

not-unread : (status : ℕ) → status ≡ READ_FAULT → status ≡ REFUSED → ⊥
not-unread status e r = omega (arith, e, r)

not-usage : (status : ℕ) → status ≡ USAGE → status ≡ REFUSED → ⊥
not-usage status e r = omega (arith, e, r)

not-cut : (status : ℕ) → IsCutShort status → status ≡ REFUSED → ⊥
not-cut status (inl e) r = omega (arith, e, r)
not-cut status (inr e) r = omega (arith, e, r)

-- what a report says of the status of a reply that was written
pub own_or_cut : (a : Answer) (written status : ℕ) → status ≡ written → (written ≡ a.status) ⊎ (written ≡ WRITE_FAULT)
    → (status ≡ a.status) ⊎ IsCutShort status
own_or_cut a written status e (inl same) = inl (e ∙ same)
own_or_cut a written status e (inr failed) = inr (inl (e ∙ failed))

-- ---- an evaluation is no refusal
cut-status : (stats : Bool) (sheet : Sheet) (e : cut.End) (passed : Trace Task) (says : List (List ℕ)) (ticks : ℕ) (pieces : Pieces) (a : Answer)
    → run.IsEndAnswer stats sheet e passed says ticks pieces a → IsRun a.status
cut-status stats sheet Whole passed says ticks pieces a is = inl (ap status_in is)
cut-status stats sheet (Fault f s) passed says ticks pieces a is = inr (ap status_in is)
cut-status stats sheet (Needs g s) passed says ticks pieces a is = absurd is
cut-status stats sheet (Spent s) passed says ticks pieces a is = inr (ap status_in is)
cut-status stats sheet (Full s) passed says ticks pieces a is = inr (ap status_in is)

run-status : (job : Job) (w : World) (a : Answer) → IsEvaluated job w a → IsRun a.status
run-status job w a (in_globals k e) = inr (ap status_in e)
run-status job w a (in_root {t = t} k e) =
    cut-status job.stats w.sheet (run.root_cut job w t).end (run.root_cut job w t).passed _ _ (run.root_pieces job w t) a e

evaluated-status : (job : Job) (sheet : Sheet) (ds : List Document) (a : Answer) → IsEvaluatedOver job sheet ds a → IsRun a.status
evaluated-status job sheet ds a is = run-status job _ a is.1

-- ---- only a listed fault refuses
abbrev RefusedBy : (ReportedFault → Type 0) → Answer → Type 0
RefusedBy P a = (f : ReportedFault) × (a.fault ≡ Some f) × P f

-- an input, by what follows of its records
module _ (files : Option Files) (name : List ℕ) (names : List (List ℕ)) (a : Answer) (refuses : a.status ≡ REFUSED) (Next : List Record → Type 0)
    (next : (records : List Record) → Next records → RefusedBy (IsFirstBad files names) a) where
  passed-input : (bytes : List ℕ) (records : List Record) → Holds files name bytes → source_of bytes ≡ read records
      → RefusedBy (IsFirstBad files names) a → RefusedBy (IsFirstBad files (name ∷ names)) a
  passed-input bytes records holds e later =
      (later.0, later.1, inr (record { bytes = bytes; holds = holds; records = records; document = e }, later.2))

  read-fault : (bytes : List ℕ) → Holds files name bytes → (found : Read (List Record)) → source_of bytes ≡ found
      → IsReadAnswer name found Next a → RefusedBy (IsFirstBad files (name ∷ names)) a
  read-fault bytes holds (read records) e over = passed-input bytes records holds e (next records over)
  read-fault bytes holds (bad number line) e over =
      (reported number name line, ap (λ (x : Answer). x.fault) over, inl (record { bytes = bytes; holds = holds; refused = e; named = refl }))

inputs-fault : (files : Option Files) (job : Job) (sheet : Sheet) (a : Answer) → a.status ≡ REFUSED → (left : List Pair) (ds : List Document)
    → IsInputsAnswer files job sheet left ds a → RefusedBy (IsFirstBad files (map file_of left)) a
inputs-fault files job sheet a refuses [] ds is = absurd (not-run a.status (evaluated-status job sheet ds a is) refuses)
inputs-fault files job sheet a refuses (input ∷ left) ds is =
    read-fault files input.1 (map file_of left) a refuses (λ records. IsInputsAnswer files job sheet left (ds ++ named_document input.0 records ∷ []) a)
    (λ records. inputs-fault files job sheet a refuses left (ds ++ named_document input.0 records ∷ [])) is.0 is.1 (source_of is.0) refl is.2

module _ (files : Option Files) (job : Job) (a : Answer) (refuses : a.status ≡ REFUSED) where
  abbrev RefusesJob : Type 0
  RefusesJob = RefusedBy (IsRefused files job) a

  -- modules without a static fault
  source-fault : {names : List (List ℕ)} (found : Mentioned) → ReadsSheet files job.sheet names (whole found) → IsFirstFault (numbered found) None
      → (s : Option (List ℕ)) → job.source ≡ s → IsFaultlessAnswer s files job (numbered found) a → RefusesJob
  source-fault found reads none None run is = absurd (not-whole a.status (ap status_in is) refuses)
  source-fault found reads none (Some source) run is =
      let r = inputs-fault files job is.sheet a refuses (inputs_on job source) [] is.answers in
      (r.0, r.1, input_refused reads (record { run = run; faultless = none }) r.2)

  static-fault : {names : List (List ℕ)} (found : Mentioned) → ReadsSheet files job.sheet names (whole found) → (f : Option StaticFault)
      → IsFirstFault (numbered found) f → IsStaticAnswer f files job (numbered found) a → RefusesJob
  static-fault found reads None first is = source-fault found reads first job.source refl is
  static-fault found reads (Some f) first is =
      (reported f.number (module_name (numbered found) f.«module») f.line, ap (λ (x : Answer). x.fault) is, stylesheet_refused reads first)

  end-fault : {names : List (List ℕ)} (end : End) → ReadsSheet files job.sheet names end → IsEndAnswer files job end a → RefusesJob
  end-fault (whole found) reads is = static-fault found reads is.fault is.first is.answers
  end-fault (unread name) reads is = absurd is
  end-fault (refused number name line) reads is = (reported number name line, ap (λ (x : Answer). x.fault) is, module_refused reads)
  end-fault out_of_memory reads is = absurd is

  job-fault : (failed failed' : List (List ℕ)) → Owed (IsAnswer files job) failed failed' a → RefusesJob
  job-fault failed failed' (fault name grew is) = absurd (not-unread a.status (ap status_in is) refuses)
  job-fault failed failed' (own stays is) = end-fault is.end is.reads is.answers

expected-fault : (files : Option Files) (request : Option Request) (failed failed' : List (List ℕ)) (a : Answer) → IsExpected files request failed failed' a
    → a.status ≡ REFUSED → IsListed request files a.fault
expected-fault files None failed failed' a expected refuses = absurd (not-usage a.status (ap status_in expected.1) refuses)
expected-fault files (Some request) failed failed' a expected refuses = job-fault (files_of request.made files) request.job a refuses failed failed' expected

-- a report with this status and this fault of an answer that is expected
pub listed_fault : (files : Option Files) (request : Option Request) (failed failed' : List (List ℕ)) (a : Answer) (status : ℕ)
    (reported_fault : Option ReportedFault) → IsExpected files request failed failed' a → (status ≡ a.status) ⊎ IsCutShort status → reported_fault ≡ a.fault
    → status ≡ REFUSED → IsListed request files reported_fault
listed_fault files request failed failed' a status reported_fault expected (inl same) e refuses =
    subst (IsListed request files) (sym e) (expected-fault files request failed failed' a expected (sym same ∙ refuses))
listed_fault files request failed failed' a status reported_fault expected (inr short) e refuses = absurd (not-cut status short refuses)

-- ---- known files decide
-- what follows of an input whose bytes are known
known-bytes : (files : Files) (name given bytes : List ℕ) (a : Answer) (Next : List Record → Type 0) (found : Read (List Record))
    → files name ≡ Some given → files name ≡ Some bytes → source_of bytes ≡ found → IsReadAnswer name (source_of given) Next a
    → IsReadAnswer name found Next a
known-bytes files name given bytes a Next found e h d is =
    subst (λ (r : Read (List Record)). IsReadAnswer name r Next a) (ap source_of (one_file files name given bytes e h) ∙ d) is

module _ (files : Files) (job : Job) (sheet : Sheet) (a : Answer) where
  abbrev Left : Pair → List Pair → List Document → List Record → Type 0
  Left input left ds records = IsInputsAnswer (Some files) job sheet left (ds ++ named_document input.0 records ∷ []) a

  -- after a document
  next-input : (input : Pair) (left : List Pair) (ds : List Document) → (d : IsDocument (Some files) input.1)
      → IsInputsAnswer (Some files) job sheet (input ∷ left) ds a → Left input left ds d.records
  next-input input left ds d is =
      known-bytes files input.1 is.0 d.bytes a (Left input left ds) (read d.records) is.1 d.holds d.document is.2

  bad-input : (left : List Pair) (ds : List Document) (f : ReportedFault) → IsFirstBad (Some files) (map file_of left) f
      → IsInputsAnswer (Some files) job sheet left ds a → a.status ≡ REFUSED
  bad-input [] ds f first is = absurd first
  bad-input (input ∷ left) ds f (inl h) is =
      ap status_in (known-bytes files input.1 is.0 h.bytes a (Left input left ds) (bad f.number f.line) is.1 h.holds h.refused is.2)
  bad-input (input ∷ left) ds f (inr h) is =
      bad-input left (ds ++ named_document input.0 h.0.records ∷ []) f h.1 (next-input input left ds h.0 is)

  documents-run : (left : List Pair) (ds : List Document) → All (IsDocument (Some files)) (map file_of left)
      → IsInputsAnswer (Some files) job sheet left ds a → IsRun a.status
  documents-run [] ds all is = evaluated-status job sheet ds a is
  documents-run (input ∷ left) ds all is =
      let d : IsDocument (Some files) input.1 = All-head (IsDocument (Some files)) input.1 (map file_of left) all in
      documents-run left (ds ++ named_document input.0 d.records ∷ []) (All-tail (IsDocument (Some files)) input.1 (map file_of left) all)
      (next-input input left ds d is)

module _ (files : Files) (job : Job) (a : Answer) (is : IsAnswer (Some files) job a) where
  -- an end to which the reading comes
  end-answer : {names : List (List ℕ)} (end : End) → ReadsSheet (Some files) job.sheet names end → IsOwn end → IsEndAnswer (Some files) job end a
  end-answer {names} end reads known =
      let same = one_reading files [] 0 (named_by_words job.sheet ∷ []) is.names names is.end end is.reads reads
      (own_end files job is.end a is.answers) known in
      subst (λ (e : End). IsEndAnswer (Some files) job e a) same.1 is.answers

  -- the least static fault of these modules
  static-answer : {names : List (List ℕ)} (found : Mentioned) (f : Option StaticFault) → ReadsSheet (Some files) job.sheet names (whole found)
      → IsFirstFault (numbered found) f → IsStaticAnswer f (Some files) job (numbered found) a
  static-answer found f reads first =
      let over : IsModulesAnswer (Some files) job (numbered found) a = end-answer (whole found) reads tt in
      subst (λ (g : Option StaticFault). IsStaticAnswer g (Some files) job (numbered found) a) (one_fault (numbered found) over.fault f over.first first)
      over.answers

  -- they have none
  source-answer : {names : List (List ℕ)} (found : Mentioned) (s : Option (List ℕ)) → job.source ≡ s
      → ReadsSheet (Some files) job.sheet names (whole found) → IsFirstFault (numbered found) None → IsFaultlessAnswer s (Some files) job (numbered found) a
  source-answer found s run reads none =
      subst (λ (o : Option (List ℕ)). IsFaultlessAnswer o (Some files) job (numbered found) a) run (static-answer found None reads none)

  input-status : (modules : List ModuleData) (source : List ℕ) (f : ReportedFault) → IsFirstBad (Some files) (files_on job source) f
      → IsRunAnswer (Some files) job modules (inputs_on job source) a → a.status ≡ REFUSED
  input-status modules source f first over = bad-input files job over.sheet a (inputs_on job source) [] f first over.answers

  refused-status : (f : ReportedFault) → IsRefused (Some files) job f → a.status ≡ REFUSED
  refused-status f (module_refused {number = n} {line = l} {name = m} reads) = ap status_in (end-answer (refused n m l) reads tt)
  refused-status f (stylesheet_refused {found = found} {fault = s} reads first) = ap status_in (static-answer found (Some s) reads first)
  refused-status f (input_refused {found = found} {source = source} reads goes bad_one) =
      input-status (numbered found) source f bad_one (source-answer found (Some source) goes.run reads goes.faultless)

  source-status : (found : Mentioned) (s : Option (List ℕ)) → AreDocuments s files job → IsFaultlessAnswer s (Some files) job (numbered found) a
      → IsEnd s a.status
  source-status found None all over = ap status_in over
  source-status found (Some source) all over = documents-run files job over.sheet a (inputs_on job source) [] all over.answers

  whole-status : IsFaultless files job → IsEnd job.source a.status
  whole-status given =
      source-status given.found job.source given.documents (source-answer given.found job.source refl given.reads given.accepted)

  -- a status that is its own, or that of a run that was cut short
  decided : (status : ℕ) → (status ≡ a.status) ⊎ IsCutShort status → IsDecided files job status
  decided status (inl e) = record {
    refused = λ f r. inl (e ∙ refused-status f r);
    evaluated = λ given. inl (subst (IsEnd job.source) (sym e) (whole-status given));
  }
  decided status (inr short) = record { refused = λ f r. inr short; evaluated = λ given. inr short }

decided-by : (files : Option Files) (job : Job) (a : Answer) (failed failed' : List (List ℕ)) (status : ℕ) → Owed (IsAnswer files job) failed failed' a
    → failed' ≡ failed → (status ≡ a.status) ⊎ IsCutShort status → IsDecidedBy files job status
decided-by None job a failed failed' status owed stays same = tt
decided-by (Some files) job a failed failed' status (fault name grew is) stays same = absurd (not_both failed failed' name grew stays)
decided-by (Some files) job a failed failed' status (own e is) stays same = decided files job a is status same

pub decides : (files : Option Files) (request : Option Request) (failed failed' : List (List ℕ)) (a : Answer) (status : ℕ)
    → IsExpected files request failed failed' a → failed' ≡ failed → (status ≡ a.status) ⊎ IsCutShort status → Decides request files status
decides files None failed failed' a status expected stays same = tt
decides files (Some request) failed failed' a status expected stays same =
    decided-by (files_of request.made files) request.job a failed failed' status expected stays same

-- out of memory nothing is decided
short : (files : Option Files) (job : Job) (status : ℕ) → IsCutShort status → IsDecidedBy files job status
short None job status cut_short = tt
short (Some files) job status cut_short = record { refused = λ f r. inr cut_short; evaluated = λ given. inr cut_short }

pub decides_nothing : (files : Option Files) (request : Option Request) (status : ℕ) → status ≡ NO_MEMORY → Decides request files status
decides_nothing files None status e = tt
decides_nothing files (Some request) status e = short (files_of request.made files) request.job status (inr e)

pub never_listed : (files : Option Files) (request : Option Request) (status : ℕ) (f : Option ReportedFault) → status ≡ NO_MEMORY → status ≡ REFUSED
    → IsListed request files f
never_listed files request status f e refuses = absurd (not-cut status (inr e) refuses)
