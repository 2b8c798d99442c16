-- The search for a stylesheet's rank.
use Rattle.std.proofs.Common.{◌≡◌, ◌∙◌, ℕ, suc, ◌+◌, ◌<◌, ◌≤◌, List, drop, length, get_or, refl, sym, ap, arith}
use Rattle.std.proofs.lemmas.Bool.{eq-eqb, ne_eqb}
use Rattle.std.proofs.lemmas.List.{drop_all}
use Rattle.std.proofs.Math.Seq.{drop-cons}
use Rattle.xs_modules.specs.declared.precedence.Sheet.{Sheet}
use Rattle.xs_modules.specs.Precedence.{rank_among, rank_at}
use Rattle.xs_modules.specs.steps.Views.{sheet_data, sheets_data}

module _ (number place : ℕ) (sheets : List Sheet) where
  pub rank_found : (d : Sheet) → place < length sheets → (get_or sheets place d).number ≡ number
      → rank_among number place (sheets_data (drop place sheets)) ≡ rank_at place (sheet_data (get_or sheets place d))
  unfolding rank_among
  rank_found d inside e =
      ap (λ xs. rank_among number place (sheets_data xs)) (drop-cons sheets place d inside)
      ∙ rw (eq-eqb (get_or sheets place d).number number e) refl

  pub rank_passed : (d : Sheet) → place < length sheets → ((get_or sheets place d).number ≡ number → ⊥)
      → rank_among number (place + 1) (sheets_data (drop (place + 1) sheets)) ≡ rank_among number place (sheets_data (drop place sheets))
  unfolding rank_among
  rank_passed d inside e =
      let next : place + 1 ≡ suc place = omega arith in
      ap (λ k. rank_among number (place + 1) (sheets_data (drop k sheets))) next
      ∙ sym (ap (λ xs. rank_among number place (sheets_data xs)) (drop-cons sheets place d inside)
      ∙ rw (ne_eqb (get_or sheets place d).number number e) refl)

  pub rank_nowhere : length sheets ≤ place → rank_among number place (sheets_data (drop place sheets)) ≡ record { precedence = 0; imports_from = 0 }
  unfolding rank_among
  rank_nowhere past = ap (λ xs. rank_among number place (sheets_data xs)) (drop_all place sheets past)
