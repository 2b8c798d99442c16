-- What the options and their parts represent.
use Rattle.std.specs.Prelude.{◌≡◌, Bool, true, false, List, [], ◌∷◌, ◌++◌, map, Option, Some, None, Result, Ok, Err, ⊤, String, string_bytes}
use Rattle.std.specs.Borrow.{Bor}
use Rattle.std.specs.declared.alloc.Global.{Global}
use Rattle.xs_words.specs.Choice.{Choice, Job, Pair, Text, files, check, load}
use Rattle.xs_words.specs.declared.choice.Job.TheVariants as code
use Rattle.xs_words.specs.declared.choice.Job.{Job as CodeJob}
use Rattle.xs_words.specs.declared.choice.Options.{Options}
use Rattle.xs_words.specs.declared.choice.WordsEnd.{WordsEnd}
use Rattle.xs_words.specs.declared.inputs.Work.{Work as CodeWork}
use Rattle.xs_words.specs.Inputs.{Work, is_among}
use Rattle.xs_words.specs.declared.choice.WordsEnd.TheVariants.{Usage, NoMemory}

-- words as their bytes
abbrev pub texts : List (String Global) → List Text
texts words = map string_bytes words

abbrev pub job_reported : CodeJob → Job
job_reported (code.Files sheet source pairs) = files sheet source pairs.items
job_reported (code.Check sheet) = check sheet
job_reported (code.Load n) = load n

abbrev pub reported : Options → Choice
reported options = record {
  budget = options.budget;
  max_events = options.max_events;
  workers = options.workers;
  grain = options.grain;
  stats = options.stats;
  profile = options.profile;
  at = options.at;
  stream = options.stream;
  job = job_reported options.job;
  documents = options.documents.items;
}

-- The answer has what is wanted, and `Usage` comes exactly where nothing is. Out of memory alone is free.
abbrev pub Gives : {X Y : Type 0} → (X → Y) → Option Y → Result X WordsEnd → Type 0
Gives view wanted (Ok x) = wanted ≡ Some (view x)
Gives view wanted (Err Usage) = wanted ≡ None
Gives view wanted (Err NoMemory) = ⊤

abbrev pub work_reported : CodeWork → Work
work_reported work = record { job = job_reported work.job; documents = work.documents.items }

-- a name and a text, as the code has them
abbrev pub pair_reported : Bor Text × Bor Text → Pair
pair_reported pair = (pair.0.now, pair.1.now)

-- words that are borrowed, as their bytes
abbrev pub borrowed : List (Bor Text) → List Text
borrowed words = map (λ word. word.now) words

-- a name was added behind others, where it is none of them
abbrev pub HasAdded : Bool → Text → List Text → List Text → Type 0
HasAdded true name before after = (is_among name before ≡ false) × (after ≡ before ++ name ∷ [])
HasAdded false name before after = is_among name before ≡ true
