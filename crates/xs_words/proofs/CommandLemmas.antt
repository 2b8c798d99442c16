-- What the clauses of a parse say of the program's command.
use Rattle.std.proofs.Common.{◌≡◌, ◌≢◌, ◌∙◌, List, [], ◌∷◌, true, refl, sym, ap, inl, inr, Result, Ok, Err, Some, None, subst}
use Rattle.clap.specs.Words.{App, Row, Text, Kinds, FailsBy, HasMatchesOf, IsAmong, fault_of, kind_of, is_simple, is_simple_and_free, matches_of}
use Rattle.clap.specs.declared.error.Error.{Error}
use Rattle.clap.specs.declared.error.kind.ErrorKind.{ErrorKind}
use Rattle.clap.specs.declared.error.kind.ErrorKind.TheVariants as kind
use Rattle.clap.specs.declared.parser.matches.ArgMatches.{ArgMatches}
use Rattle.clap.proofs.OnLiterals.{clap_on_literals}
use Rattle.xs_words.specs.Command.{command_line, rows_of_words, without_fault}
use Rattle.xs_words.specs.Rows.{rows_in}

simple : is_simple command_line ≡ true
unfolding clap_on_literals
simple = refl

free : is_simple_and_free command_line ≡ true
unfolding clap_on_literals
free = refl

-- where there is no fault, the rows are the matches
rows_taken : (words : List Text) → fault_of command_line words ≡ [] → rows_of_words words ≡ Some (matches_of command_line words)
unfolding rows_of_words
rows_taken words f = ap (λ (k : Kinds). without_fault k (matches_of command_line words)) f

-- where there is one, there are none
rows_refused : (words : List Text) (k : ErrorKind) (kinds : Kinds) → fault_of command_line words ≡ k ∷ kinds → rows_of_words words ≡ None
unfolding rows_of_words
rows_refused words k kinds f = ap (λ (k : Kinds). without_fault k (matches_of command_line words)) f

-- a kind is among some
among : (k : ErrorKind) (kinds : Kinds) → IsAmong k kinds → (first : ErrorKind) × (rest : Kinds) × (kinds ≡ first ∷ rest)
among k [] h = absurd h
among k (x ∷ xs) h = (x, xs, refl)

abbrev pub Answers : App → List Text → Result ArgMatches Error → Type 0
Answers app words r = is_simple_and_free app ≡ true → FailsBy (fault_of app words) r

own_taken : (words : List Text) (m : ArgMatches) → HasMatchesOf command_line words m → Answers command_line words (Ok m)
    → rows_of_words words ≡ Some (rows_in m)
own_taken words m h f = rows_taken words (f free) ∙ ap (λ (rows : List Row). Some rows) (sym (h simple).0)

own_refused : (words : List Text) (e : Error) → kind_of e ≢ kind.OutOfMemory → Answers command_line words (Err e) → rows_of_words words ≡ None
own_refused words e k f = elim (f free) [
  | inl h ↦ absurd (k h)
  | inr h ↦ let s = among (kind_of e) (fault_of command_line words) h in rows_refused words s.0 s.1 s.2
]

-- a parse that answers matches answers those of the words
pub taken_rows : (app : App) (words : List Text) (m : ArgMatches) → app ≡ command_line → HasMatchesOf app words m → Answers app words (Ok m)
    → rows_of_words words ≡ Some (rows_in m)
taken_rows app words m e =
    subst (λ (a : App). HasMatchesOf a words m → Answers a words (Ok m) → rows_of_words words ≡ Some (rows_in m)) (sym e) (own_taken words m)

-- and one that answers an error, other than out of memory, refuses them
pub refused_rows : (app : App) (words : List Text) (e : Error) → app ≡ command_line → kind_of e ≢ kind.OutOfMemory → Answers app words (Err e)
    → rows_of_words words ≡ None
refused_rows app words e s k =
    subst (λ (a : App). Answers a words (Err e) → rows_of_words words ≡ None) (sym s) (own_refused words e k)
