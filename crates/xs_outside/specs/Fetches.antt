-- The fetches that a library has answered, each with its name.
use Rattle.std.specs.Prelude.{ℕ, List, [], ◌∷◌, ◌++◌, map, true, false, Result, Ok, Err}
use Rattle.std.specs.List.{filter}
use Rattle.xs_outside.specs.declared.edge.FetchEnd.{FetchEnd}
use Rattle.xs_outside.specs.declared.edge.FetchEnd.TheVariants.{Failed, NoMemory}
use Rattle.xs_outside.specs.declared.fetches.Fetch.{Fetch}

-- all of them
abbrev pub names : List Fetch → List (List ℕ)
names fetches = map (λ f. f.name) fetches

-- those that failed
abbrev pub failed_names : List Fetch → List (List ℕ)
failed_names fetches = map (λ f. f.name) (filter (λ f. f.failed) fetches)

-- after one more answer; one that was out of memory is none
abbrev pub fetches_after : {A : Type 0} → Result A FetchEnd → List ℕ → List Fetch → List Fetch
fetches_after (Ok bytes) name fetches = fetches ++ record { name = name; failed = false } ∷ []
fetches_after (Err Failed) name fetches = fetches ++ record { name = name; failed = true } ∷ []
fetches_after (Err NoMemory) name fetches = fetches
