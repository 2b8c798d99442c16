-- The numbers of options are within their limits.
use Rattle.std.proofs.Common.{◌≡◌, ◌≤◌, ◌^◌, ◌&&◌, ℕ, Bool, true, false, List, Result, Ok, Err, Option, Some, None, arith, refl, ap, subst}
use Rattle.std.specs.Prelude.{codes, if◌then◌else◌, nat_le, option_map, unwrap_or, IfOk}
use Rattle.std.proofs.lemmas.Bool.Decides.{nat_tests}
use Rattle.clap.specs.Words.{Row}
use Rattle.xs_words.specs.Choice.{Choice, Text}
use Rattle.xs_words.specs.Inputs.{work_of}
use Rattle.xs_words.specs.Options.{AreWithin, Limits, Sizes, choice_of_rows, has_flag, inputs_of, limits_of, may_stand, number_of, number_or_none, sizes_of}
use Rattle.xs_words.specs.Numbers.{is_number, number_up_to, up_to, value_from}
use Rattle.xs_words.specs.Results.{Gives, reported}
use Rattle.xs_words.specs.Steps.{given, where_it_holds}
use Rattle.xs_words.specs.declared.choice.Options.{Options}
use Rattle.xs_words.specs.declared.choice.WordsEnd.{WordsEnd}

-- where something follows, there is what it follows from
given-is : {X Y : Type 0} → (o : Option X) (f : X → Option Y) (y : Y) → given o f ≡ Some y → (x : X) × (o ≡ Some x) × (f x ≡ Some y)
given-is None f y e = absurd (cc)
given-is (Some x) f y e = (x, refl, e)

held-is : {Y : Type 0} → (b : Bool) (o : Option Y) (y : Y) → where_it_holds b o ≡ Some y → o ≡ Some y
held-is true o y e = e
held-is false o y e = absurd (cc)

both-true : (a b : Bool) → (a && b) ≡ true → (a ≡ true) × (b ≡ true)
both-true true b e = (refl, e)
both-true false b e = absurd (cc)

abbrev Within : (most n : ℕ) → Type 0
Within most n = (1 ≤ n) × (n ≤ most)

by-up : (most n m : ℕ) (b : Bool) → (nat_le 1 n && nat_le n most) ≡ b → (if b then Some n else None) ≡ Some m → Within most m
by-up most n m true e h =
    let both = both-true (nat_le 1 n) (nat_le n most) e in
    let low : 1 ≤ n = grind (arith, nat_tests, both.0) in
    let high : n ≤ most = grind (arith, nat_tests, both.1) in
    let same : n ≡ m = cc in
    subst (Within most) same (low, high)
by-up most n m false e h = absurd (cc)

by-word : (most m v : ℕ) (b : Bool) → (if b then up_to most v else None) ≡ Some m → Within most m
by-word most m v true h = by-up most v m (nat_le 1 v && nat_le v most) refl h
by-word most m v false h = absurd (cc)

word-within : (most m : ℕ) (word : Text) → number_up_to most word ≡ Some m → Within most m
unfolding number_up_to
word-within most m word h = by-word most m (value_from 0 word) (is_number word) h

-- a number that is given, or is not
abbrev Fits : (most : ℕ) → Option ℕ → Type 0
Fits most None = Unit {0}
Fits most (Some n) = Within most n

by-number : (most : ℕ) (word : Text) (n : Option ℕ) (o : Option ℕ) → number_up_to most word ≡ n → option_map (λ m. Some m) n ≡ Some o → Fits most o
by-number most word None o e h = absurd (cc)
by-number most word (Some m) o e h = let same : Some m ≡ o = cc in subst (Fits most) same (word-within most m word e)

by-first : (most : ℕ) (o : Option ℕ) (word : Option Text) → number_or_none most word ≡ Some o → Fits most o
by-first most o None h = let same : None ≡ o = cc in subst (Fits most) same tt
by-first most o (Some word) h = by-number most word (number_up_to most word) o refl h

number-fits : (rows : List Row) (name : Text) (most : ℕ) (o : Option ℕ) → number_of rows name most ≡ Some o → Fits most o
unfolding number_of
number-fits rows name most o h = by-first most o _ h

or-within : (most d : ℕ) (o : Option ℕ) → Fits most o → Within most d → Within most (unwrap_or o d)
or-within most d None f w = w
or-within most d (Some n) f w = f

abbrev budget_in : Option Limits → ℕ
budget_in None = 0
budget_in (Some l) = l.budget

abbrev grain_in : Option Sizes → ℕ
grain_in None = 0
grain_in (Some s) = s.grain

abbrev workers_in : Option Sizes → ℕ
workers_in None = 0
workers_in (Some s) = s.workers

abbrev chosen_budget : Option Choice → ℕ
chosen_budget None = 0
chosen_budget (Some choice) = choice.budget

abbrev chosen_grain : Option Choice → ℕ
chosen_grain None = 0
chosen_grain (Some choice) = choice.grain

abbrev chosen_workers : Option Choice → ℕ
chosen_workers None = 0
chosen_workers (Some choice) = choice.workers

limits-within : (rows : List Row) (l : Limits) → limits_of rows ≡ Some l → Within 1099511627776 l.budget
unfolding limits_of
limits-within rows l e =
    let budget = given-is (number_of rows (codes "budget") 1099511627776) _ l e in
    let events = given-is (number_of rows (codes "max-events") 1099511627776) _ l budget.2 in
    let at = given-is (number_of rows (codes "at") 1099511627776) _ l events.2 in
    let same : unwrap_or budget.0 100000000 ≡ l.budget = ap budget_in at.2 in
    subst (Within 1099511627776) same
    (or-within 1099511627776 100000000 budget.0 (number-fits rows (codes "budget") 1099511627776 budget.0 budget.1) (omega arith, omega arith))

sizes-within : (rows : List Row) (s : Sizes) → sizes_of rows ≡ Some s → (Within 64 s.workers) × (Within 65536 s.grain)
unfolding sizes_of
sizes-within rows s e =
    let workers = given-is (number_of rows (codes "workers") 64) _ s e in
    let grain = given-is (number_of rows (codes "grain") 65536) _ s workers.2 in
    let load = given-is (number_of rows (codes "load") 1000000) _ s grain.2 in
    let crew : unwrap_or workers.0 4 ≡ s.workers = ap workers_in load.2 in
    let size : unwrap_or grain.0 16 ≡ s.grain = ap grain_in load.2 in (
      subst (Within 64) crew (or-within 64 4 workers.0 (number-fits rows (codes "workers") 64 workers.0 workers.1) (omega arith, omega arith)),
      subst (Within 65536) size (or-within 65536 16 grain.0 (number-fits rows (codes "grain") 65536 grain.0 grain.1) (omega arith, omega arith)),
    )

rows-fit : (rows : List Row) (choice : Choice) → choice_of_rows rows ≡ Some choice → AreWithin choice
unfolding choice_of_rows
rows-fit rows choice e =
    let limits = given-is (limits_of rows) _ choice e in
    let sizes = given-is (sizes_of rows) _ choice limits.2 in
    let stands = may_stand (has_flag rows (codes "check")) (has_flag rows (codes "profile")) (has_flag rows (codes "stream")) limits.0.at in
    let held = held-is stands _ choice sizes.2 in
    let work = given-is (work_of sizes.0.load (has_flag rows (codes "check")) (inputs_of rows)) _ choice held in
    let budget : limits.0.budget ≡ choice.budget = ap chosen_budget work.2 in
    let workers : sizes.0.workers ≡ choice.workers = ap chosen_workers work.2 in
    let grain : sizes.0.grain ≡ choice.grain = ap chosen_grain work.2 in
    let x = limits-within rows limits.0 limits.1 in
    let y = sizes-within rows sizes.0 sizes.1 in
    record {
      budget = (omega (arith, budget, x.0), omega (arith, budget, x.1));
      workers = (omega (arith, workers, y.0.0), omega (arith, workers, y.0.1));
      grain = (omega (arith, grain, y.1.0), omega (arith, grain, y.1.1));
    }

-- so are those of the options that were read
pub options_fit : (rows : List Row) (r : Result Options WordsEnd) → Gives reported (choice_of_rows rows) r → IfOk r (λ options. AreWithin (reported options))
options_fit rows (Ok options) is = rows-fit rows (reported options) is
options_fit rows (Err end) is = tt
