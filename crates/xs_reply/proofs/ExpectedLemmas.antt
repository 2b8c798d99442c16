-- The answer that is expected, by what was read of the files of a run.
use Rattle.std.proofs.Common.{◌≡◌, ◌∙◌, refl, ap, ℕ, List, [], ◌∷◌, ◌++◌, Option, Some, None, Result, IfOk, length, drop, sym, subst, arith, append-nil, length-append, unwrap_or}
use Rattle.std.proofs.Math.Seq.{drop-append_seam}
use Rattle.xs_outside.specs.Edge.{Files}
use Rattle.xs_tree.specs.Record.{Record}
use Rattle.xs_modules.specs.Mentions.{named_by_words}
use Rattle.xs_modules.specs.Mentioned.{Mentioned}
use Rattle.xs_modules.specs.Numbering.{ModuleData, numbered}
use Rattle.xs_modules.specs.Reading.{Holds, End, whole, unread, refused, out_of_memory}
use Rattle.xs_modules.specs.ReadingLaws.{IsOwn}
use Rattle.xs_modules.specs.Results.{ComesTo}
use Rattle.xs_modules.proofs.OneReadingLemmas.{one_reading}
use Rattle.xs_static.specs.declared.fault.StaticFault.{StaticFault}
use Rattle.xs_static.specs.Faults.{IsFirstFault}
use Rattle.xs_reply.specs.declared.reply.Reply.{Reply}
use Rattle.xs_reply.specs.Answer.{Answer, read_fault, refused_file, usage}
use Rattle.xs_reply.specs.Job.{Job, Request, inputs_on, workers_of}
use Rattle.xs_reply.specs.Made.{files_of}
use Rattle.xs_reply.specs.Read.{Read, read, bad}
use Rattle.xs_compile.proofs.OneSheetLemmas.{one_sheet}
use Rattle.xs_compile.specs.Represents.{Represents}
use Rattle.xs_sheet.specs.declared.sheet.Sheet.{Sheet}
use Rattle.xs_reply.specs.Evaluation.{IsEvaluatedOver}
use Rattle.xs_reply.specs.Inputs.{Document, named_document}
use Rattle.xs_reply.specs.Run.{source_of, module_name}
use Rattle.xs_reply.specs.Expected.{IsReadAnswer, IsInputsAnswer, IsSheetAnswer, IsFaultlessAnswer, IsStaticAnswer, IsModulesAnswer, IsEndAnswer}
use Rattle.xs_reply.specs.Expected.{IsAnswer, IsRunAnswer, Owed, fault, own, IsExpected}
use Rattle.xs_reply.proofs.FirstFaultLemmas.{one_fault}
use Rattle.xs_reply.proofs.OneAnswerLemmas.{one-evaluated}
use Rattle.xs_reply.proofs.ReplyLemmas.{plain_reply, replies_so, reply_is}
use Rattle.xs_reply.specs.Headline.{OnlyExpected, WhereKnown, files_for}
use Rattle.xs_reply.specs.Reply.{FileGives, IsChecked, IsPlain, Replies, check_answer}
use Rattle.xs_words.specs.Choice.{Pair}

-- what follows of an answer that is owed
owed_same : (P Q : Answer → Type 0) (failed failed' : List (List ℕ)) (a : Answer) → ((b : Answer) → P b → Q b) → Owed P failed failed' a
    → Owed Q failed failed' a
owed_same P Q failed failed' a h (fault name grew is) = fault name grew is
owed_same P Q failed failed' a h (own stays p) = own stays (h a p)

-- nothing failed before
owed_behind : (P : Answer → Type 0) (failed middle failed' : List (List ℕ)) (a : Answer) → middle ≡ failed ++ [] → Owed P middle failed' a
    → Owed P failed failed' a
owed_behind P failed middle failed' a e owed = subst (λ f. Owed P f failed' a) (e ∙ append-nil failed) owed

-- a reply whose answer is owed
reply_owed : {E : Type 0} (count : ℕ) (r : Result Reply E) (N : Type 0) (P : Answer → Type 0) (failed failed' : List (List ℕ)) (a : Answer)
    → Owed P failed failed' a → IfOk r (IsPlain a) → IfOk r (Replies count N (Owed P failed failed'))
reply_owed count r N P failed failed' a owed is = reply_is count r N (Owed P failed failed') a owed is

-- a fetch failed
pub fault_owed : {E : Type 0} (count : ℕ) (r : Result Reply E) (N : Type 0) (P : Answer → Type 0) (failed failed' : List (List ℕ)) (name : List ℕ)
    → failed' ≡ failed ++ name ∷ [] → IfOk r (IsPlain (read_fault name)) → IfOk r (Replies count N (Owed P failed failed'))
fault_owed count r N P failed failed' name grew is = reply_owed count r N P failed failed' (read_fault name) (fault name grew refl) is

-- an answer of a compiled stylesheet on its only input, whose bytes were read to this
read_answer : (files : Option Files) (job : Job) (sheet : Sheet) (source name : List ℕ) (found : Read (List Record)) (a : Answer) → name ≡ source
    → FileGives source_of files name found
    → IsReadAnswer source found (λ records. IsInputsAnswer files job sheet job.documents (named_document [] records ∷ []) a) a
    → IsSheetAnswer files job sheet (inputs_on job source) a
read_answer files job sheet source name found a same given is = (
  given.bytes,
  subst (λ n. Holds files n given.bytes) same given.holds,
  subst (λ f. IsReadAnswer source f (λ records. IsInputsAnswer files job sheet job.documents (named_document [] records ∷ []) a) a) given.gives is,
)

module _ (files : Option Files) (job : Job) (sheet : Sheet) (source : List ℕ) (failed failed' : List (List ℕ)) where
  abbrev pub Owes : Answer → Type 0
  Owes = Owed (IsSheetAnswer files job sheet (inputs_on job source)) failed failed'

  -- the source is no document
  pub refused_owed : {E : Type 0} (count : ℕ) (r : Result Reply E) (N : Type 0) (number line : ℕ) (name : List ℕ) → name ≡ source → failed' ≡ failed
      → FileGives source_of files name (bad number line) → IfOk r (IsPlain (refused_file number source line))
      → IfOk r (Replies count N Owes)
  refused_owed count r N number line name same stays given is =
      reply_owed count r N (IsSheetAnswer files job sheet (inputs_on job source)) failed failed' (refused_file number source line)
      (own stays (read_answer files job sheet source name (bad number line) (refused_file number source line) same given refl)) is

  -- it is read, it is the only input, and the stylesheet is evaluated from it
  pub evaluated_owed : {E : Type 0} (count : ℕ) (r : Result Reply E) (N W : Type 0) (records : List Record) (name : List ℕ)
      → W → job.documents ≡ [] → name ≡ source → failed' ≡ failed → FileGives source_of files name (read records)
      → IfOk r (Replies count (N × W) (IsEvaluatedOver job sheet (named_document [] records ∷ []))) → IfOk r (Replies count N Owes)
  evaluated_owed count r N W records name well none same stays given is =
      replies_so count r (N × W) N (IsEvaluatedOver job sheet (named_document [] records ∷ [])) Owes (λ named. (named, well))
      (λ a over. own stays (read_answer files job sheet source name (read records) a same given
      (subst (λ left. IsInputsAnswer files job sheet left (named_document [] records ∷ []) a) (sym none) over))) is

-- a stylesheet that is only checked
checked_answer : (files : Option Files) (job : Job) (modules : List ModuleData) → job.source ≡ None → (f : Option StaticFault)
    → IsStaticAnswer f files job modules (check_answer f modules)
checked_answer files job modules none None = subst (λ s. IsFaultlessAnswer s files job modules (check_answer None modules)) (sym none) refl
checked_answer files job modules none (Some f) = refl

module _ (files : Option Files) (job : Job) (modules : List ModuleData) (failed failed' : List (List ℕ)) where
  abbrev pub OwesModules : Answer → Type 0
  OwesModules = Owed (IsModulesAnswer files job modules) failed failed'

  -- a static fault
  pub static_owed : {E : Type 0} (count : ℕ) (r : Result Reply E) (f : StaticFault) → failed' ≡ failed → IsFirstFault modules (Some f)
      → IfOk r (IsPlain (refused_file f.number (module_name modules f.«module») f.line))
      → IfOk r (Replies count (Unit {0}) OwesModules)
  static_owed count r f stays first same =
      reply_owed count r (Unit {0}) (IsModulesAnswer files job modules) failed failed' (refused_file f.number (module_name modules f.«module») f.line)
      (own stays (record { fault = Some f; first = first; answers = refl })) same

  -- the stylesheet is only checked
  pub checked_owed : {E : Type 0} (count : ℕ) (r : Result Reply E) → job.source ≡ None → failed' ≡ failed
      → IfOk r (IsChecked modules) → IfOk r (Replies count (Unit {0}) OwesModules)
  checked_owed count r none stays is =
      plain_reply count r (Unit {0}) (IsChecked modules) OwesModules (λ reply h. check_answer h.fault modules)
      (λ reply h. own stays (record { fault = h.fault; first = h.first; answers = checked_answer files job modules none h.fault })) (λ reply h. h.answers) is

  -- a run of a compiled stylesheet that represents them
  pub run_owed : {E : Type 0} (count : ℕ) (r : Result Reply E) (N : Type 0) (sheet : Sheet) (source : List ℕ) → N → job.source ≡ Some source
      → IsFirstFault modules None → Represents modules sheet
      → IfOk r (Replies count N (Owed (IsSheetAnswer files job sheet (inputs_on job source)) failed failed')) → IfOk r (Replies count (Unit {0}) OwesModules)
  run_owed count r N sheet source named run first stands owed =
      replies_so count r N (Unit {0}) (Owed (IsSheetAnswer files job sheet (inputs_on job source)) failed failed') OwesModules (λ _. named)
      (λ b is. owed_same (IsSheetAnswer files job sheet (inputs_on job source)) (IsModulesAnswer files job modules) failed failed' b
      (λ a over. record {
        fault = None;
        first = first;
        answers = subst (λ s. IsFaultlessAnswer s files job modules a) (sym run) (record { sheet = sheet; stands = stands; answers = over });
      }) is) owed

-- a module is refused
pub module_owed : {E : Type 0} (count : ℕ) (r : Result Reply E) (files : Option Files) (job : Job) (number line : ℕ) (name : List ℕ)
    (asked asked' failed failed' : List (List ℕ)) → ComesTo (refused number name line) files [] 0 (named_by_words job.sheet ∷ []) asked asked' failed failed'
    → IfOk r (IsPlain (refused_file number name line)) → IfOk r (Replies count (Unit {0}) (Owed (IsAnswer files job) failed failed'))
module_owed count r files job number line name asked asked' failed failed' comes is =
    reply_owed count r (Unit {0}) (IsAnswer files job) failed failed' (refused_file number name line)
    (own (comes.fails ∙ append-nil failed)
    (record { names = comes.names; end = refused number name line; reads = comes.reads; answers = refl })) is

-- the modules were read, and the answer is that over them
pub modules_owed : {E : Type 0} (count : ℕ) (r : Result Reply E) (files : Option Files) (job : Job) (found : Mentioned) (modules : List ModuleData)
    (asked middle failed failing failed' : List (List ℕ)) → ComesTo (whole found) files [] 0 (named_by_words job.sheet ∷ []) asked middle failed failing
    → modules ≡ numbered found → IfOk r (Replies count (Unit {0}) (Owed (IsModulesAnswer files job modules) failing failed'))
    → IfOk r (Replies count (Unit {0}) (Owed (IsAnswer files job) failed failed'))
modules_owed count r files job found modules asked middle failed failing failed' comes are owed =
    replies_so count r (Unit {0}) (Unit {0}) (Owed (IsModulesAnswer files job modules) failing failed') (Owed (IsAnswer files job) failed failed') (λ n. n)
    (λ a is. owed_behind (IsAnswer files job) failed failing failed' a comes.fails
    (owed_same (IsModulesAnswer files job modules) (IsAnswer files job) failing failed' a (λ b over.
    record { names = comes.names; end = whole found; reads = comes.reads; answers = subst (λ ms. IsModulesAnswer files job ms b) are over }) is)) owed

-- one name was added, and none
pub not_both : (xs ys : List (List ℕ)) (name : List ℕ) → ys ≡ xs ++ name ∷ [] → ys ≡ xs → ⊥
not_both xs ys name grew stays = omega (arith, ap length (sym stays ∙ grew), length-append xs (name ∷ []))

-- the arguments are refused
pub usage_owed : {E : Type 0} (count : ℕ) (r : Result Reply E) (N : Type 0) (files : Option Files) (request : Option Request) (failed : List (List ℕ))
    → request ≡ None → IfOk r (IsPlain usage) → IfOk r (Replies count N (IsExpected files request failed failed))
usage_owed count r N files request failed none is =
    reply_is count r N (IsExpected files request failed failed) usage (subst (λ q. IsExpected files q failed failed usage) (sym none) (refl, refl)) is

-- they ask for a job, over the files of the library
pub job_owed : {E : Type 0} (r : Result Reply E) (N : Type 0) (files : Option Files) (request : Option Request) (q : Request)
    (failed failed' : List (List ℕ)) → request ≡ Some q → q.made ≡ None → IfOk r (Replies q.workers N (Owed (IsAnswer files q.job) failed failed'))
    → IfOk r (Replies (workers_of request) N (IsExpected files request failed failed'))
job_owed r N files request q failed failed' is none owed =
    subst (λ n. IfOk r (Replies n N (IsExpected files request failed failed'))) (sym (ap workers_of is))
    (replies_so q.workers r N N (Owed (IsAnswer files q.job) failed failed') (IsExpected files request failed failed') (λ n. n)
    (λ a own_or_fault. subst (λ x. IsExpected files x failed failed' a) (sym is)
    (subst (λ made. Owed (IsAnswer (files_of made files) q.job) failed failed' a) (sym none) own_or_fault)) owed)

-- one name, added twice
first_name : List ℕ → List (List ℕ) → List ℕ
first_name other [] = other
first_name other (name ∷ names) = name

one_name : (xs ys : List (List ℕ)) (m n : List ℕ) → ys ≡ xs ++ m ∷ [] → ys ≡ xs ++ n ∷ [] → m ≡ n
unfolding first_name
one_name xs ys m n e f =
    ap (first_name []) (sym (drop-append_seam xs (m ∷ [])) ∙ ap (drop (length xs)) (sym e ∙ f) ∙ drop-append_seam xs (n ∷ []))

-- ---- files give one answer alone

-- a file has one list of bytes
pub one_file : (files : Files) (name xs ys : List ℕ) → files name ≡ Some xs → files name ≡ Some ys → xs ≡ ys
one_file files name xs ys p q = ap (λ (o : Option (List ℕ)). unwrap_or o []) (sym p ∙ q)

-- by what follows of the records of an input
module _ (a b : Answer) (name : List ℕ) (P Q : List Record → Type 0) (one : (records : List Record) → P records → Q records → a ≡ b) where
  over_read : (found : Read (List Record)) → IsReadAnswer name found P a → IsReadAnswer name found Q b → a ≡ b
  over_read (read records) p q = one records p q
  over_read (bad number line) p q = p ∙ sym q

-- a compiled stylesheet has one on its inputs
module _ (files : Files) (job : Job) (sheet : Sheet) (a b : Answer) where
  over_inputs : (left : List Pair) (ds : List Document) → IsInputsAnswer (Some files) job sheet left ds a → IsInputsAnswer (Some files) job sheet left ds b
      → a ≡ b
  over_inputs [] ds p q = one-evaluated job sheet ds a b p q
  over_inputs (input ∷ left) ds p q =
      let same : p.0 ≡ q.0 = one_file files input.1 p.0 q.0 p.1 q.1 in
      over_read a b input.1 (λ records. IsInputsAnswer (Some files) job sheet left (ds ++ named_document input.0 records ∷ []) a)
      (λ records. IsInputsAnswer (Some files) job sheet left (ds ++ named_document input.0 records ∷ []) b)
      (λ records. over_inputs left (ds ++ named_document input.0 records ∷ [])) (source_of q.0)
      (subst (λ bytes. IsReadAnswer input.1 (source_of bytes)
      (λ records. IsInputsAnswer (Some files) job sheet left (ds ++ named_document input.0 records ∷ []) a) a) same p.2) q.2

  over_sheet : (inputs : List Pair) → IsSheetAnswer (Some files) job sheet inputs a → IsSheetAnswer (Some files) job sheet inputs b → a ≡ b
  over_sheet inputs p q = over_inputs inputs [] p q

-- and modules have one compiled stylesheet
over_run : (files : Files) (job : Job) (modules : List ModuleData) (inputs : List Pair) (a b : Answer) → IsRunAnswer (Some files) job modules inputs a
    → IsRunAnswer (Some files) job modules inputs b → a ≡ b
over_run files job modules inputs a b p q =
    let same : p.sheet ≡ q.sheet = one_sheet modules p.sheet q.sheet p.stands q.stands in
    over_sheet files job q.sheet a b inputs (subst (λ (s : Sheet). IsSheetAnswer (Some files) job s inputs a) same p.answers) q.answers

over_source : (files : Files) (job : Job) (modules : List ModuleData) (a b : Answer) (s : Option (List ℕ)) → IsFaultlessAnswer s (Some files) job modules a
    → IsFaultlessAnswer s (Some files) job modules b → a ≡ b
over_source files job modules a b None p q = p ∙ sym q
over_source files job modules a b (Some source) p q = over_run files job modules (inputs_on job source) a b p q

over_fault : (files : Files) (job : Job) (modules : List ModuleData) (a b : Answer) (f : Option StaticFault) → IsStaticAnswer f (Some files) job modules a
    → IsStaticAnswer f (Some files) job modules b → a ≡ b
over_fault files job modules a b None p q = over_source files job modules a b job.source p q
over_fault files job modules a b (Some f) p q = p ∙ sym q

one_over : (files : Files) (job : Job) (modules : List ModuleData) (a b : Answer) → IsModulesAnswer (Some files) job modules a
    → IsModulesAnswer (Some files) job modules b → a ≡ b
one_over files job modules a b p q =
    over_fault files job modules a b q.fault
    (subst (λ f. IsStaticAnswer f (Some files) job modules a) (one_fault modules p.fault q.fault p.first q.first) p.answers) q.answers

one_end : (files : Files) (job : Job) (end : End) (a b : Answer) → IsEndAnswer (Some files) job end a → IsEndAnswer (Some files) job end b → a ≡ b
one_end files job (whole found) a b p q = one_over files job (numbered found) a b p q
one_end files job (unread name) a b p q = absurd p
one_end files job (refused number name line) a b p q = p ∙ sym q
one_end files job out_of_memory a b p q = absurd p

-- an end that has an answer is one of its own
pub own_end : (files : Files) (job : Job) (end : End) (a : Answer) → IsEndAnswer (Some files) job end a → IsOwn end
own_end files job (whole found) a p = tt
own_end files job (unread name) a p = absurd p
own_end files job (refused number name line) a p = tt
own_end files job out_of_memory a p = absurd p

one_answer : (files : Files) (job : Job) (a b : Answer) → IsAnswer (Some files) job a → IsAnswer (Some files) job b → a ≡ b
one_answer files job a b p q =
    let same = one_reading files [] 0 (named_by_words job.sheet ∷ []) p.names q.names p.end q.end p.reads q.reads (own_end files job p.end a p.answers)
    (own_end files job q.end b q.answers) in
    one_end files job q.end a b (subst (λ e. IsEndAnswer (Some files) job e a) same.1 p.answers) q.answers

one_owed : (files : Files) (job : Job) (failed failed' : List (List ℕ)) (a b : Answer) → Owed (IsAnswer (Some files) job) failed failed' a
    → Owed (IsAnswer (Some files) job) failed failed' b → a ≡ b
one_owed files job failed failed' a b (fault m e p) (fault n f q) = p ∙ ap read_fault (one_name failed failed' m n e f) ∙ sym q
one_owed files job failed failed' a b (fault m e p) (own f q) = absurd (not_both failed failed' m e f)
one_owed files job failed failed' a b (own e p) (fault n f q) = absurd (not_both failed failed' n f e)
one_owed files job failed failed' a b (own e p) (own f q) = one_answer files job a b p q

-- where the files of a run are known
one_expected : (files : Option Files) (known : Files) (request : Option Request) (failed failed' : List (List ℕ)) (a b : Answer)
    → files_for request files ≡ Some known → IsExpected files request failed failed' a → IsExpected files request failed failed' b → a ≡ b
one_expected files known None failed failed' a b is p q = p.1 ∙ sym q.1
one_expected files known (Some request) failed failed' a b is p q =
    one_owed known request.job failed failed' a b (subst (λ f. Owed (IsAnswer f request.job) failed failed' a) is p)
    (subst (λ f. Owed (IsAnswer f request.job) failed failed' b) is q)

where_known : (files : Option Files) (D P : Answer → Type 0) (a : Answer) → ((known : Files) → files ≡ Some known → (b : Answer) → D b → a ≡ b) → P a
    → WhereKnown files D P
where_known None D P a one p = tt
where_known (Some known) D P a one p = λ b other. subst P (one known refl b other) p

each_known : (files : Option Files) (D P : Answer → Type 0) → ((a : Answer) → P a) → WhereKnown files D P
each_known None D P p = tt
each_known (Some known) D P p = λ a expected. p a

-- what holds of an answer that is expected holds of each
pub only_expected : (files : Option Files) (request : Option Request) (failed failed' : List (List ℕ)) (a : Answer) (P : Answer → Type 0)
    → IsExpected files request failed failed' a → P a → OnlyExpected files request failed failed' P
only_expected files request failed failed' a P expected p =
    where_known (files_for request files) (IsExpected files request failed failed') P a (λ known is b. one_expected files known request failed failed' a b is
    expected) p

-- and what holds of all answers
pub each_expected : (files : Option Files) (request : Option Request) (failed failed' : List (List ℕ)) (P : Answer → Type 0) → ((a : Answer) → P a)
    → OnlyExpected files request failed failed' P
each_expected files request failed failed' P p = each_known (files_for request files) (IsExpected files request failed failed') P p
