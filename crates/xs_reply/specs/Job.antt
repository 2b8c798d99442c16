-- What a run is to do, by what its arguments ask for.
use Rattle.std.specs.Prelude.{ℕ, ◌&&◌, ◌||◌, Bool, true, false, not, List, [], ◌∷◌, map, Option, Some, None, is_none}
use Rattle.xs_words.specs.Choice.{Choice, Pair, Job as Work, files, check, load}
use Rattle.xs_words.specs.Options.{options_of}
use Rattle.xs_words.specs.Steps.{given, where_it_holds}
use Rattle.xs_reply.specs.Made.{made_sheet, made_source}

pub record Job : Type 0 where
  -- the name of its stylesheet
  pub sheet : List ℕ
  -- the name of its source, none where the stylesheet is only checked
  pub source : Option (List ℕ)
  -- the names of further documents, each with the name of its file
  pub documents : List Pair
  -- the names and texts that are given for parameters of the stylesheet (XSLT 1.0, 11.4)
  pub given : List Pair
  -- how many ticks it may take, and how many events it may put, where there is a limit
  pub budget : ℕ
  pub most_events : Option ℕ
  -- how many nodes of a loop make a piece, and whether the ticks and pieces are reported
  pub grain : ℕ
  pub stats : Bool

abbrev pub file_of : Pair → List ℕ
file_of input = input.1

-- the inputs of a run on a source, each with its file: the source, which has no name, and then the documents
abbrev pub inputs_on : Job → (source : List ℕ) → List Pair
inputs_on job source = ([], source) ∷ job.documents

-- their files
abbrev pub files_on : Job → (source : List ℕ) → List (List ℕ)
files_on job source = map file_of (inputs_on job source)

-- What arguments ask for: a job, where its files come from, and how its result is written.
pub record Request : Type 0 where
  pub job : Job
  -- how many elements the source has that the run makes, with a stylesheet; none where the files are those of the library
  pub made : Option ℕ
  -- whether the result is written while the evaluation goes on
  pub stream : Bool
  -- how many workers run its pieces, of which the answer knows nothing
  pub workers : ℕ

-- a job over the files of the library by so many workers, whose result is written once the evaluation has ended
abbrev pub plain : (workers : ℕ) → Job → Request
plain workers job = record { job = job; made = None; stream = false; workers = workers }

-- Refused arguments stream nothing.
abbrev pub is_streamed : Option Request → Bool
is_streamed None = false
is_streamed (Some request) = request.stream

-- and need no worker.
abbrev pub workers_of : Option Request → ℕ
workers_of None = 0
workers_of (Some request) = request.workers

abbrev pub has_none : List Pair → Bool
has_none [] = true
has_none (pair ∷ pairs) = false

-- Nothing is asked for that is not supported: no profile and no place of a tick, the result is not streamed, and there are no
-- further documents.
abbrev pub is_supported : Choice → Bool
is_supported choice =
    not (choice.profile || choice.stream)
    && (is_none choice.at && has_none choice.documents)

-- a stylesheet on a source
abbrev pub source_job : Choice → (sheet source : List ℕ) → List Pair → Job
source_job choice sheet source texts = record {
  sheet = sheet;
  source = Some source;
  documents = [];
  given = texts;
  budget = choice.budget;
  most_events = choice.max_events;
  grain = choice.grain;
  stats = choice.stats;
}

-- a stylesheet alone
abbrev pub check_job : Choice → (sheet : List ℕ) → Job
check_job choice sheet = record {
  sheet = sheet;
  source = None;
  documents = [];
  given = [];
  budget = choice.budget;
  most_events = choice.max_events;
  grain = choice.grain;
  stats = choice.stats;
}

-- a stylesheet on a source, both of which are made
abbrev pub made_job : (budget : ℕ) → (most_events : Option ℕ) → (grain : ℕ) → (stats : Bool) → Job
made_job budget most_events grain stats = record {
  sheet = made_sheet;
  source = Some made_source;
  documents = [];
  given = [];
  budget = budget;
  most_events = most_events;
  grain = grain;
  stats = stats;
}

abbrev pub work_request : Choice → Work → Request
work_request choice (files sheet source texts) = plain choice.workers (source_job choice sheet source texts)
work_request choice (check sheet) = plain choice.workers (check_job choice sheet)
work_request choice (load count) = record (plain choice.workers (made_job choice.budget choice.max_events choice.grain choice.stats)) { made = Some count }

abbrev pub supported_request : Choice → Option Request
supported_request choice = where_it_holds (is_supported choice) (Some (work_request choice choice.job))

-- What arguments ask for; none where they are refused, or ask for what is not supported.
abbrev pub request_of : List (List ℕ) → Option Request
request_of words = given (options_of words) supported_request
