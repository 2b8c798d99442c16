-- Where a text may be cut, and texts that are empty.
use Rattle.std.proofs.Common.{◌≡◌, ℕ, ◌<◌, ◌≤◌, Bool, false, List, [], ◌∷◌, inl, inr, length, get_or, refl, sym, subst, arith}
use Rattle.std.specs.Prelude.{◌==◌}
use Rattle.std.specs.List.{prefix_len}
use Rattle.std.specs.Str.{IsCharBoundary}
use Rattle.std.proofs.lemmas.Str.{IsCharBoundary-end, IsCharBoundary-before_ascii}
use Rattle.std.proofs.lemmas.List.Sums.{prefix_len-le-length, prefix_len_stops}
use Rattle.std.proofs.lemmas.Bool.{cases_lt}
use Rattle.std.proofs.lemmas.Bool.Decides.{nat_tests}
use Rattle.xs_xpath.specs.Names.{is_nil}

-- a run that only an ASCII byte ends does so where a character begins
pub before-ascii : (p : ℕ → Bool) (bs : List ℕ) → ((b : ℕ) → p b ≡ false → b < 128) → IsCharBoundary bs (prefix_len p bs)
before-ascii p bs ascii = go (prefix_len p bs) refl (prefix_len-le-length p bs)
  where
    go : (n : ℕ) → prefix_len p bs ≡ n → n ≤ length bs → IsCharBoundary bs n
    go n is le =
        elim (cases_lt n (length bs)) [
          | inl lt ↦ IsCharBoundary-before_ascii bs n lt (subst (λ k. get_or bs k 0 < 128) is
              (ascii (get_or bs (prefix_len p bs) 0) (prefix_len_stops p bs 0 (subst (λ k. k < length bs) (sym is) lt))))
          | inr ge ↦ let e : length bs ≡ n = omega arith in subst (IsCharBoundary bs) e (IsCharBoundary-end bs)
        ]

pub nil_by_length : (bytes : List ℕ) → (length bytes == 0) ≡ is_nil bytes
nil_by_length [] = refl
nil_by_length (b ∷ bs) = grind (arith, nat_tests)
