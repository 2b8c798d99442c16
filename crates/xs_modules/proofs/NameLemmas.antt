-- Where a name's last slash stands.
use Rattle.std.proofs.Common.{◌≡◌, ◌≢◌, ◌∙◌, ℕ, zero, suc, ◌+◌, ◌<◌, ◌≤◌, List, [], ◌∷◌, Bool, true, false, refl, sym, ap, arith, length, take, get_or, Option, None, Some}
use Rattle.std.specs.Prelude.{◌||◌, ◌==◌, MatchOption}
use Rattle.std.proofs.lemmas.Bool.{cond-true, cond-false, eq-eqb, ne_eqb, true≢false}
use Rattle.std.specs.Str.{IsCharBoundary}
use Rattle.std.specs.Str.Pattern.{RFindsChar}
use Rattle.std.proofs.lemmas.Str.Pattern.{rfind_char}
use Rattle.xs_modules.specs.Names.{slash, has_slash, directory}

either : (a b : Bool) → b ≡ true → (a || b) ≡ true
either true b e = refl
either false b e = e

neither : (a b : Bool) → a ≡ false → b ≡ false → (a || b) ≡ false
neither true b e f = e
neither false b e f = f

first_is : (a b : Bool) → a ≡ true → (a || b) ≡ true
first_is true b e = refl
first_is false b e = absurd (true≢false (sym e))

has_at : (name : List ℕ) (k : ℕ) → k < length name → get_or name k 0 ≡ slash → has_slash name ≡ true
has_at [] k inside here = absurd (omega (arith, inside))
has_at (b ∷ bs) zero inside here = first_is (b == slash) (has_slash bs) (eq-eqb b slash here)
has_at (b ∷ bs) (suc k) inside here = either (b == slash) (has_slash bs) (has_at bs k (omega arith) here)

has_none : (name : List ℕ) → ((i : ℕ) → i < length name → get_or name i 0 ≢ slash) → has_slash name ≡ false
has_none [] none = refl
has_none (b ∷ bs) none = neither (b == slash) (has_slash bs) (ne_eqb b slash (none 0 (omega arith))) (has_none bs (λ i inside. none (suc i) (omega arith)))

directory_none : (name : List ℕ) → ((i : ℕ) → i < length name → get_or name i 0 ≢ slash) → directory name ≡ []
unfolding directory
directory_none [] none = refl
directory_none (b ∷ bs) none = cond-false _ _ _ (has_none (b ∷ bs) none)

directory_at : (name : List ℕ) (k : ℕ) → k < length name → get_or name k 0 ≡ slash → ((i : ℕ) → k < i → i < length name → get_or name i 0 ≢ slash)
    → directory name ≡ take (k + 1) name
unfolding directory
directory_at [] k inside here none = absurd (omega (arith, inside))
directory_at (b ∷ bs) zero inside here none =
    cond-true _ _ _ (has_at (b ∷ bs) zero inside here) ∙ ap (λ xs. b ∷ xs) (directory_none bs (λ i within. none (suc i) (omega arith) (omega arith)))
directory_at (b ∷ bs) (suc k) inside here none =
    cond-true _ _ _ (has_at (b ∷ bs) (suc k) inside here)
    ∙ ap (λ xs. b ∷ xs) (directory_at bs k (omega arith) here (λ i after within. none (suc i) (omega arith) (omega arith)))
    ∙ sym (ap (λ n. take n (b ∷ bs)) (suc_more k))
  where
    suc_more : (k : ℕ) → suc k + 1 ≡ suc (k + 1)
    suc_more k = omega arith

-- what the search for the last slash says of a name's directory
pub found_directory : (name : List ℕ) (r : Option ℕ)
    → MatchOption r (RFindsChar slash name None) (λ i. (j : ℕ) × RFindsChar slash name (Some (i, j)) × (i ≤ j) × IsCharBoundary name i × IsCharBoundary name j)
    → MatchOption r (directory name ≡ []) (λ k. directory name ≡ take (k + 1) name)
found_directory name None h = directory_none name (rfind_char slash name None h (omega arith))
found_directory name (Some k) h = let f = rfind_char slash name (Some k) h (omega arith) in directory_at name k f.0 f.1 f.2
