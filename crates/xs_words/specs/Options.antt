-- The options that words represent, and which words represent none.
use Rattle.std.specs.Prelude.{ℕ, ◌≤◌, ◌^◌, ◌&&◌, ◌||◌, Bool, false, not, List, []}
use Rattle.std.specs.Prelude.{Option, Some, None, is_some, option_map, unwrap_or, codes}
use Rattle.std.specs.Str.{bytes_eq}
use Rattle.clap.specs.Words.{Row, all_of, first_of}
use Rattle.xs_words.specs.Choice.{Choice, Text}
use Rattle.xs_words.specs.Command.{rows_of_words}
use Rattle.xs_words.specs.Inputs.{work_of}
use Rattle.xs_words.specs.Numbers.{number_up_to}
use Rattle.xs_words.specs.Steps.{given, where_it_holds}

abbrev pub number_or_none : ℕ → Option Text → Option (Option ℕ)
number_or_none most None = Some None
number_or_none most (Some word) = option_map (λ n. Some n) (number_up_to most word)

-- the number of an option, which need not be given; refused where its value is no such number
unfoldable pub number_of : List Row → Text → ℕ → Option (Option ℕ)
number_of rows name most = number_or_none most (first_of name rows)

-- 2 ^ 40
abbrev pub most_budget : ℕ
most_budget = 1099511627776

pub record Limits : Type 0 where
  pub budget : ℕ
  pub max_events : Option ℕ
  pub at : Option ℕ

unfoldable pub limits_of : List Row → Option Limits
limits_of rows =
    given (number_of rows (codes "budget") most_budget) (λ budget.
    given (number_of rows (codes "max-events") most_budget) (λ max_events.
    given (number_of rows (codes "at") most_budget) (λ at.
    Some (record { budget = unwrap_or budget 100000000; max_events = max_events; at = at }))))

pub record Sizes : Type 0 where
  pub workers : ℕ
  pub grain : ℕ
  pub load : Option ℕ

unfoldable pub sizes_of : List Row → Option Sizes
sizes_of rows =
    given (number_of rows (codes "workers") 64) (λ workers.
    given (number_of rows (codes "grain") 65536) (λ grain.
    given (number_of rows (codes "load") 1000000) (λ load.
    Some (record { workers = unwrap_or workers 4; grain = unwrap_or grain 16; load = load }))))

abbrev pub is_true : Option Text → Bool
is_true None = false
is_true (Some word) = bytes_eq word (codes "true")

-- whether the flag is given: `clap` puts down `true` for one that is, and else `false`
unfoldable pub has_flag : List Row → Text → Bool
has_flag rows name = is_true (first_of name rows)

-- the words that are no options
unfoldable pub inputs_of : List Row → List Text
inputs_of rows = unwrap_or (all_of (codes "inputs") rows) []

-- what is only checked is not profiled, asked for the place of a tick, or streamed
abbrev pub may_stand : Bool → Bool → Bool → Option ℕ → Bool
may_stand is_check is_profile is_stream at = not (is_check && (is_profile || (is_stream || is_some at)))

unfoldable pub choice_of_rows : List Row → Option Choice
choice_of_rows rows =
    given (limits_of rows) (λ limits.
    given (sizes_of rows) (λ sizes.
    where_it_holds (may_stand (has_flag rows (codes "check")) (has_flag rows (codes "profile")) (has_flag rows (codes "stream")) limits.at)
    (given (work_of sizes.load (has_flag rows (codes "check")) (inputs_of rows)) (λ work.
    Some (record {
      budget = limits.budget;
      max_events = limits.max_events;
      workers = sizes.workers;
      grain = sizes.grain;
      stats = has_flag rows (codes "stats");
      profile = has_flag rows (codes "profile");
      at = limits.at;
      stream = has_flag rows (codes "stream");
      job = work.job;
      documents = work.documents;
    })))))

-- What the words after the program's name ask for; none where they are refused.
unfoldable pub options_of : List Text → Option Choice
options_of words = given (rows_of_words words) choice_of_rows

-- Whatever the words, the numbers of their options are within limits.
pub record AreWithin (choice : Choice) : Type 0 where
  pub budget : (1 ≤ choice.budget) × (choice.budget ≤ 2 ^ 40)
  pub workers : (1 ≤ choice.workers) × (choice.workers ≤ 64)
  pub grain : (1 ≤ choice.grain) × (choice.grain ≤ 65536)
