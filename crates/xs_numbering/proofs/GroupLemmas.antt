-- Digits in groups.
use Rattle.std.proofs.Common.{◌≡◌, ℕ, zero, suc, ◌-◌, ◌^◌, ◌<◌, Bool, List, [], ◌∷◌, ◌++◌, length, get_or, replicate, refl, sym, ap, ◌∙◌, append_assoc, decimal, lit<, arith}
use Rattle.std.specs.Str.{IsAscii}
use Rattle.std.proofs.lemmas.Fmt.{IsAscii-decimal}
use Rattle.std.proofs.lemmas.Str.{IsAscii-append}
use Rattle.xs_numbering.specs.Numerals.{digit_text, ends_group, grouped, padded}

-- one digit more
pub grouped-step : (separator : List ℕ) (size : ℕ) (ends : Bool) (d : ℕ) (ds out new whole : List ℕ) → ends ≡ ends_group size (length ds)
    → new ≡ out ++ digit_text separator ends d → out ++ grouped separator size (d ∷ ds) ≡ whole → new ++ grouped separator size ds ≡ whole
unfolding grouped
grouped-step separator size ends d ds out new whole tested pushed so_far =
    ap (λ xs. xs ++ grouped separator size ds) (pushed ∙ ap (λ b. out ++ digit_text separator b d) tested)
    ∙ append_assoc out (digit_text separator (ends_group size (length ds)) d) (grouped separator size ds) ∙ so_far

pub grouped-none : (separator : List ℕ) (size : ℕ) (ds : List ℕ) → length ds ≡ 0 → grouped separator size ds ≡ []
unfolding grouped
grouped-none separator size [] none = refl
grouped-none separator size (d ∷ ds) none = absurd (omega arith)

zeros-ascii : (n i : ℕ) → get_or (replicate n 48) i 0 < 128
zeros-ascii zero i = lit< tt
zeros-ascii (suc n) zero = lit< tt
zeros-ascii (suc n) (suc i) = zeros-ascii n i

pub padded-ascii : (width n : ℕ) → n < 2 ^ 64 → IsAscii (padded width n)
padded-ascii width n small =
    IsAscii-append (replicate (width - length (decimal n)) 48) (decimal n) (zeros-ascii (width - length (decimal n))) (IsAscii-decimal n small)
