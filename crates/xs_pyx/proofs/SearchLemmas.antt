-- What a search for the first byte that passes a test says.
use Rattle.std.proofs.Common.{◌≡◌, ℕ, ◌<◌, Bool, true, false, List, Option, Some, None, get_or, is_some, length, sym, ◌∙◌, arith}
use Rattle.std.proofs.lemmas.Bool.{false≢true}
use Rattle.std.specs.List.{list_any, position_or_len}
use Rattle.memchr.specs.Find.{IsFirstByte}
use Rattle.xs_text.proofs.FirstByteLemmas.{any-nowhere, any-found, position-found}

-- what the answer of a search says
pub is_some-searched : (p : ℕ → Bool) (xs : List ℕ) (r : Option ℕ) → IsFirstByte p xs r → is_some r ≡ list_any p xs
is_some-searched p xs None none = sym (any-nowhere p xs (λ j h. none j (omega arith) h))
is_some-searched p xs (Some k) found = sym (any-found p xs k found.0.high found.1)

pub position-searched : (p : ℕ → Bool) (xs : List ℕ) (k : ℕ) → IsFirstByte p xs (Some k) → position_or_len p xs ≡ k
position-searched p xs k found = position-found p xs k found.0.high found.1 (λ j h is. found.0.before j (omega arith) h is)

-- what a search byte by byte says
pub first_at : (p : ℕ → Bool) (xs : List ℕ) (k : ℕ) → k < length xs → ((j : ℕ) → j < k → p (get_or xs j 0) ≡ false) → p (get_or xs k 0) ≡ true
    → IsFirstByte p xs (Some k)
first_at p xs k within before at = (
  record {
    low = omega arith;
    high = within;
    before = λ j low high is. false≢true (sym (before j high) ∙ is);
  },
  at,
)

pub first_nowhere : (p : ℕ → Bool) (xs : List ℕ) → ((j : ℕ) → j < length xs → p (get_or xs j 0) ≡ false) → IsFirstByte p xs None
first_nowhere p xs none = λ j low high is. false≢true (sym (none j high) ∙ is)
