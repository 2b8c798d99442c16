-- Indexes of strings.
use Rattle.std.specs.Prelude.{◌≡◌, ℕ, Bool, List}
use Rattle.std.specs.Cow.{cow_str_bytes}
use Rattle.std.specs.declared.borrow.CowStr.{CowStr}
use Rattle.std.specs.List.{list_any}
use Rattle.std.specs.Str.{bytes_eq}

-- whether a string is one of an index
abbrev pub is_indexed : {Z : Type 0} → List (CowStr Z) → List ℕ → Bool
is_indexed keys text = list_any (λ k. bytes_eq text (cow_str_bytes k)) keys

-- an index has the strings of a list
abbrev pub IsIndexOf : {Z : Type 0} → List (CowStr Z) → List (List ℕ) → Type 0
IsIndexOf keys strings = (q : List ℕ) → is_indexed keys q ≡ list_any (bytes_eq q) strings
