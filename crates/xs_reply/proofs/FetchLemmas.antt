-- What a run asked for, by the answers of its readings.
use Rattle.std.proofs.Common.{◌≡◌, ◌∙◌, ap, sym, ℕ, List, [], ◌∷◌, ◌++◌, Option, Some, None, Result, Ok, Err, inl, inr, append-nil, append_assoc, subst, refl}
use Rattle.xs_outside.specs.Edge.{Files, failed_after}
use Rattle.xs_outside.specs.declared.edge.FetchEnd.{FetchEnd}
use Rattle.xs_outside.specs.declared.edge.FetchEnd.TheVariants.{Failed, NoMemory}
use Rattle.xs_modules.specs.Mentions.{named_by_words}
use Rattle.xs_modules.specs.Mentioned.{Mentioned}
use Rattle.xs_modules.specs.Numbering.{ModuleData, numbered}
use Rattle.xs_modules.specs.Reading.{End, whole, out_of_memory, out_before, failed_names}
use Rattle.xs_modules.specs.Results.{ComesTo}
use Rattle.xs_static.specs.Faults.{IsFirstFault}
use Rattle.xs_reply.specs.Inputs.{last, failed}
use Rattle.xs_reply.specs.Job.{Job, Request}
use Rattle.xs_reply.specs.Fetches.{ReadsSheet, sheet_asked, inputs_asked, Grew, JobFetches, FetchesOver, Fetches, GoesOn}
use Rattle.xs_reply.specs.Reply.{AsksFor, AsksSource, GoesTo, unasked, asked_for}

-- the names of a list that stays
stays : (xs ys : List (List ℕ)) → ys ≡ xs → ys ≡ xs ++ []
stays xs ys e = e ∙ sym (append-nil xs)

-- nothing was asked for
nothing_over : (made : Option ℕ) (job : Job) (files : Option Files) (asked faults : List (List ℕ)) → FetchesOver made job files asked asked faults faults
nothing_over None job files asked faults =
    record { names = []; faults = []; asked = stays asked asked refl; failed = stays faults faults refl; asks = sheet_asked {end = out_of_memory} out_before }
nothing_over (Some count) job files asked faults = (refl, refl)

pub nothing_asked : (request : Option Request) (files : Option Files) (asked faults : List (List ℕ)) → Fetches request files asked asked faults faults
nothing_asked None files asked faults = (refl, refl)
nothing_asked (Some request) files asked faults = nothing_over request.made request.job files asked faults

-- what comes of a stylesheet, by its name in the job
pub named : (end : End) (files : Option Files) (name sheet : List ℕ) (a b f g : List (List ℕ)) → name ≡ sheet
    → ComesTo end files [] 0 (named_by_words name ∷ []) a b f g → ComesTo end files [] 0 (named_by_words sheet ∷ []) a b f g
named end files name sheet a b f g same comes = subst (λ n. ComesTo end files [] 0 (named_by_words n ∷ []) a b f g) same comes

-- modules were asked for, and nothing else
pub modules_asked : (job : Job) (files : Option Files) (end : End) (a b f g : List (List ℕ))
    → ComesTo end files [] 0 (named_by_words job.sheet ∷ []) a b f g → JobFetches job files a b f g
modules_asked job files end a b f g comes =
    record { names = comes.names; faults = failed_names end; asked = comes.asks; failed = comes.fails; asks = sheet_asked comes.reads }

-- a list grew twice
joined : (xs ms ys first second : List (List ℕ)) → ms ≡ xs ++ first → ys ≡ ms ++ second → ys ≡ xs ++ (first ++ second)
joined xs ms ys first second e f = f ∙ ap (λ m. m ++ second) e ∙ append_assoc xs first second

module _ (job : Job) (files : Option Files) (read : Mentioned) (a m b f n g : List (List ℕ)) where
  -- by the names of the modules, and then by these
  both_asked : (names later faults : List (List ℕ)) → ReadsSheet files job.sheet names (whole read) → m ≡ a ++ names → n ≡ f ++ []
      → b ≡ m ++ later → g ≡ n ++ faults → AsksSource (GoesOn job (numbered read)) files job later faults → JobFetches job files a b f g
  both_asked names later faults reads ma nf bm gn unasked = record {
    names = names;
    faults = [];
    asked = bm ∙ append-nil m ∙ ma;
    failed = gn ∙ append-nil n ∙ nf;
    asks = sheet_asked reads;
  }
  both_asked names later faults reads ma nf bm gn (asked_for is inputs) = record {
    names = names ++ later;
    faults = faults;
    asked = joined a m b names later ma bm;
    failed = joined f n g [] faults nf gn;
    asks = inputs_asked reads is inputs;
  }

-- the modules were read, and then the inputs were asked for or not
pub all_asked : (job : Job) (files : Option Files) (read : Mentioned) (modules : List ModuleData) (a m b f n g : List (List ℕ))
    → ComesTo (whole read) files [] 0 (named_by_words job.sheet ∷ []) a m f n → modules ≡ numbered read
    → Grew (AsksSource (GoesOn job modules) files job) m b n g → JobFetches job files a b f g
all_asked job files read modules a m b f n g comes are grew =
    both_asked job files read a m b f n g comes.names grew.names grew.faults comes.reads comes.asks comes.fails grew.asked grew.failed
    (subst (λ ms. AsksSource (GoesOn job ms) files job grew.names grew.faults) are grew.asks)

-- no input was asked for
pub source_left : (P : List ℕ → Type 0) (files : Option Files) (job : Job) (a b f g : List (List ℕ)) → b ≡ a → g ≡ f → Grew (AsksSource P files job) a b f g
source_left P files job a b f g asked faults = record { names = []; faults = []; asked = stays a b asked; failed = stays f g faults; asks = unasked }

-- the source was, which is the first input
asks_as : {A : Type 0} (r : Result A FetchEnd) (name : List ℕ) (P : List ℕ → Type 0) (files : Option Files) (job : Job) (a b f g : List (List ℕ))
    → P name → AsksFor r name a b → g ≡ failed_after r name f → Grew (AsksSource P files job) a b f g
asks_as (Ok x) name P files job a b f g is asked faults =
    record { names = name ∷ []; faults = []; asked = asked; failed = stays f g faults; asks = asked_for is last }
asks_as (Err Failed) name P files job a b f g is asked faults =
    record { names = name ∷ []; faults = name ∷ []; asked = asked; failed = faults; asks = asked_for is failed }
asks_as (Err NoMemory) name P files job a b f g is (inl asked) faults =
    record { names = []; faults = []; asked = stays a b asked; failed = stays f g faults; asks = unasked }
asks_as (Err NoMemory) name P files job a b f g is (inr asked) faults =
    record { names = name ∷ []; faults = []; asked = asked; failed = stays f g faults; asks = asked_for is last }

-- the source was asked for
pub after_source : {A : Type 0} (r : Result A FetchEnd) (name source : List ℕ) (files : Option Files) (job : Job)
    (a b f g : List (List ℕ)) → name ≡ source → AsksFor r name a b → g ≡ failed_after r name f
    → Grew (AsksSource (GoesTo source) files job) a b f g
after_source r name source files job a b f g same asked faults = asks_as r name (GoesTo source) files job a b f g same asked faults

-- a run on a source goes on to it, where the stylesheet has no static fault
going_on : (job : Job) (modules : List ModuleData) (source name : List ℕ) → job.source ≡ Some source → IsFirstFault modules None
    → GoesTo source name → GoesOn job modules name
going_on job modules source name run none is = record { run = run ∙ ap Some (sym is); faultless = none }

still_asks : (P Q : List ℕ → Type 0) (files : Option Files) (job : Job) (names faults : List (List ℕ)) → ((name : List ℕ) → P name → Q name)
    → AsksSource P files job names faults → AsksSource Q files job names faults
still_asks P Q files job names faults h unasked = unasked
still_asks P Q files job names faults h (asked_for {source} is inputs) = asked_for (h source is) inputs

-- what a run of a compiled stylesheet asked for
pub sheet_asked_for : (files : Option Files) (job : Job) (modules : List ModuleData) (source : List ℕ) (a b f g : List (List ℕ))
    → job.source ≡ Some source → IsFirstFault modules None → Grew (AsksSource (GoesTo source) files job) a b f g
    → Grew (AsksSource (GoesOn job modules) files job) a b f g
sheet_asked_for files job modules source a b f g run none grew = record {
  names = grew.names;
  faults = grew.faults;
  asked = grew.asked;
  failed = grew.failed;
  asks = still_asks (GoesTo source) (GoesOn job modules) files job grew.names grew.faults
      (λ name. going_on job modules source name run none) grew.asks;
}
