-- What the inputs of a command line ask for.
use Rattle.std.specs.Prelude.{ℕ, ◌==◌, ◌&&◌, Bool, true, false, not, List, [], ◌∷◌, ◌++◌, map, drop, length}
use Rattle.std.specs.Prelude.{Option, Some, None, if◌then◌else◌, nat_le}
use Rattle.std.specs.List.{list_any, before_first, after_first, flat_map}
use Rattle.std.specs.Str.{bytes_eq}
use Rattle.xs_text.specs.Names.{is_ncname}
use Rattle.xs_words.specs.Choice.{Job, Pair, Text, files, check, load}
use Rattle.xs_words.specs.Steps.{given, where_it_holds}

abbrev pub is_equals : ℕ → Bool
is_equals b = b == 61

abbrev pub named : Text → Text → Option Pair
named name text = if is_ncname name then Some (name, text) else None

-- the name and the text of `name=text`: what stands before the first `=` (61), an NCName, and what stands behind it
unfoldable pub pair_of : Text → Option Pair
pair_of word = if list_any is_equals word then named (before_first is_equals word) (after_first is_equals word) else None

-- each word as a pair
unfoldable pub all_pairs : List Text → Option (List Pair)
all_pairs [] = Some []
all_pairs (word ∷ words) = given (pair_of word) (λ pair. given (all_pairs words) (λ pairs. Some (pair ∷ pairs)))

abbrev pub names_of : List Pair → List Text
names_of pairs = map (λ pair. pair.0) pairs

abbrev pub is_among : Text → List Text → Bool
is_among name names = list_any (bytes_eq name) names

-- no name is among those before it
unfoldable pub are_new : List Text → List Text → Bool
are_new before [] = true
are_new before (name ∷ names) = not (is_among name before) && are_new (before ++ name ∷ []) names

-- no two pairs have one name
unfoldable pub has_distinct_names : List Pair → Bool
has_distinct_names pairs = are_new [] (names_of pairs)

-- the pairs that words write, no two of one name
unfoldable pub pairs_of : List Text → Option (List Pair)
pairs_of words = given (all_pairs words) (λ pairs. where_it_holds (has_distinct_names pairs) (Some pairs))

-- the word begins with `@` (64): it is `@name=path`
abbrev pub is_document : Text → Bool
is_document [] = false
is_document (b ∷ bs) = b == 64

-- the word, where it is a parameter, `name=text`
abbrev pub parameter_in : Text → List Text
parameter_in word = if is_document word then [] else word ∷ []

-- what stands behind the `@` of a document
abbrev pub document_in : Text → List Text
document_in word = if is_document word then drop 1 word ∷ [] else []

unfoldable pub parameters_in : List Text → List Text
parameters_in words = flat_map parameter_in words

unfoldable pub documents_in : List Text → List Text
documents_in words = flat_map document_in words

abbrev pub most_documents : ℕ
most_documents = 255

pub record Work : Type 0 where
  pub job : Job
  pub documents : List Pair

-- From the third input on each is a parameter or a document. No two parameters have one name, and no two documents do.
unfoldable pub files_work : Text → Text → List Text → Option Work
files_work sheet source rest =
    given (pairs_of (parameters_in rest)) (λ parameters.
    given (pairs_of (documents_in rest)) (λ documents.
    where_it_holds (nat_le (length documents) most_documents)
    (Some (record { job = files sheet source parameters; documents = documents }))))

-- with `--load` there is no input and no `--check`
abbrev pub load_work : ℕ → Bool → List Text → Option Work
load_work rows false [] = Some (record { job = load rows; documents = [] })
load_work rows false (word ∷ words) = None
load_work rows true words = None

-- with `--check` there is one input, the stylesheet
abbrev pub check_work : List Text → Option Work
check_work [] = None
check_work (sheet ∷ []) = Some (record { job = check sheet; documents = [] })
check_work (sheet ∷ word ∷ words) = None

-- otherwise there are at least two inputs, the stylesheet and the source
abbrev pub run_work : List Text → Option Work
run_work [] = None
run_work (sheet ∷ []) = None
run_work (sheet ∷ source ∷ rest) = files_work sheet source rest

unfoldable pub work_of : Option ℕ → Bool → List Text → Option Work
work_of (Some rows) is_check words = load_work rows is_check words
work_of None true words = check_work words
work_of None false words = run_work words
