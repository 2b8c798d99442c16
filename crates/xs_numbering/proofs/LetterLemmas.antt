-- The letters of a number, by its quotient and its remainder over the size of the alphabet.
use Rattle.std.proofs.Common.{◌≡◌, ℕ, zero, suc, ◌+◌, ◌-◌, ◌*◌, ◌/◌, ◌%◌, ◌<◌, ◌==◌, true, false, List, [], ◌∷◌, ◌++◌, reverse, Result, Ok, Err, OnOk, append_assoc, refl, sym, ap, ◌∙◌, lit<, arith}
use Rattle.std.proofs.Math.Nat.{mod-lt}
use Rattle.std.proofs.lemmas.Nat.{div-add-mod'}
use Rattle.std.proofs.lemmas.Bool.{eq-eqb, ne_eqb}
use Rattle.std.proofs.lemmas.Grind.{reverse_onto}
use Rattle.xs_numbering.specs.declared.numerals.Case.{Case}
use Rattle.xs_numbering.specs.Numerals.{alphabetic, first_letter, next, sequence}

next-last : (first : ℕ) (cs : List ℕ) → next first ((first + 25) ∷ cs) ≡ first ∷ next first cs
next-last first cs = rw (eq-eqb (first + 25) (first + 25) refl) refl

next-below : (first c : ℕ) (cs : List ℕ) → (c == first + 25) ≡ false → next first (c ∷ cs) ≡ (c + 1) ∷ cs
next-below first c cs h = rw h refl

-- the letters that follow the first one in one turn of the alphabet
in_turn : (first q : ℕ) → sequence first (suc (q * 26)) ≡ first ∷ sequence first q → (r : ℕ) → r < 26
    → sequence first (suc (q * 26 + r)) ≡ (first + r) ∷ sequence first q
unfolding sequence
in_turn first q h zero lt =
    let same : q * 26 + zero ≡ q * 26 = omega arith in
    let here : first ≡ first + zero = omega arith in
    ap (λ k. sequence first (suc k)) same ∙ h ∙ ap (λ c. c ∷ sequence first q) here
in_turn first q h (suc r) lt =
    let more : q * 26 + suc r ≡ suc (q * 26 + r) = omega arith in
    let below : first + r ≡ first + 25 → ⊥ = λ e. omega arith in
    let here : first + r + 1 ≡ first + suc r = omega arith in
    ap (λ k. sequence first (suc k)) more ∙ ap (next first) (in_turn first q h r (omega arith))
    ∙ next-below first (first + r) (sequence first q) (ne_eqb (first + r) (first + 25) below)
    ∙ ap (λ c. c ∷ sequence first q) here

-- a turn begins with the first letter
turn : (first q : ℕ) → sequence first (suc (q * 26)) ≡ first ∷ sequence first q
unfolding sequence
turn first zero = refl
turn first (suc q) =
    let more : suc q * 26 ≡ suc (q * 26 + 25) = omega arith in
    ap (λ k. sequence first (suc k)) more ∙ ap (next first) (in_turn first q (turn first q) 25 (lit< tt)) ∙ next-last first (sequence first q)

sequence-step : (first n : ℕ) → 0 < n → sequence first n ≡ (first + (n - 1) % 26) ∷ sequence first ((n - 1) / 26)
sequence-step first n some =
    let parts : (n - 1) / 26 * 26 + (n - 1) % 26 ≡ n - 1 = div-add-mod' (n - 1) 26 in
    let whole : n ≡ suc ((n - 1) / 26 * 26 + (n - 1) % 26) = omega arith in
    ap (sequence first) whole
    ∙ in_turn first ((n - 1) / 26) (turn first ((n - 1) / 26)) ((n - 1) % 26) (mod-lt (n - 1) (lit< tt))

alphabetic_step : (case : Case) (n : ℕ) → 0 < n
    → alphabetic case n ≡ alphabetic case ((n - 1) / 26) ++ (first_letter case + (n - 1) % 26) ∷ []
alphabetic_step case n some =
    ap reverse (sequence-step (first_letter case) n some)
    ∙ reverse_onto (sequence (first_letter case) ((n - 1) / 26)) (first_letter case + (n - 1) % 26) []

pub alphabetic_none : (case : Case) → alphabetic case 0 ≡ []
unfolding sequence
alphabetic_none case = refl

-- the letters of the quotient, and then the one of the remainder
pub letters-onto : {E : Type 0} (r : Result (Unit {0}) E) (case : Case) (n : ℕ) (was between now : List ℕ) → 0 < n
    → between ≡ was ++ alphabetic case ((n - 1) / 26) → OnOk r (now ≡ between ++ (first_letter case + (n - 1) % 26) ∷ [])
    → OnOk r (now ≡ was ++ alphabetic case n)
letters-onto (Err e) case n was between now some front pushed = tt
letters-onto (Ok u) case n was between now some front pushed =
    pushed ∙ ap (λ xs. xs ++ (first_letter case + (n - 1) % 26) ∷ []) front
    ∙ append_assoc was (alphabetic case ((n - 1) / 26)) ((first_letter case + (n - 1) % 26) ∷ [])
    ∙ ap (λ xs. was ++ xs) (sym (alphabetic_step case n some))
