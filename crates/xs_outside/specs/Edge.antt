-- What code learns of files that it fetches, of bytes that it writes, and of the faults of both.
use Rattle.std.specs.Prelude.{◌≡◌, ℕ, ◌+◌, List, [], ◌∷◌, ◌++◌, min, Option, Result, Ok, Err}
use Rattle.xs_outside.specs.declared.edge.FetchEnd.{FetchEnd}
use Rattle.xs_outside.specs.declared.edge.FetchEnd.TheVariants.{Failed, NoMemory}

-- the end of a count in 64 bits
abbrev pub most_count : ℕ
most_count = 18446744073709551615

-- a count in 64 bits, one higher; it stays where it is at its end
abbrev pub raised : ℕ → ℕ
raised count = min (count + 1) most_count

-- what a library has: the bytes of each name, or none
abbrev pub Files : Type 0
Files = List ℕ → Option (List ℕ)

-- the names that were asked for, after one more answer: bytes and Failed add the name, at the end
abbrev pub asked_after : {A : Type 0} → Result A FetchEnd → List ℕ → List (List ℕ) → List (List ℕ)
asked_after (Ok bytes) name names = names ++ name ∷ []
asked_after (Err Failed) name names = names ++ name ∷ []
asked_after (Err NoMemory) name names = names

-- the names whose fetch failed, after one more answer: only Failed adds its name, at the end
abbrev pub failed_after : {A : Type 0} → Result A FetchEnd → List ℕ → List (List ℕ) → List (List ℕ)
failed_after (Ok bytes) name names = names
failed_after (Err Failed) name names = names ++ name ∷ []
failed_after (Err NoMemory) name names = names

-- ys goes on from xs
abbrev pub IsBeginning : List ℕ → List ℕ → Type 0
IsBeginning xs ys = (rest : List ℕ) × (ys ≡ xs ++ rest)
