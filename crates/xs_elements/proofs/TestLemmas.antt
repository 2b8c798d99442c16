-- Name tests that end in `:*`, and numbers behind a sign.
use Rattle.std.proofs.Common.{◌≡◌, ◌≢◌, ℕ, ◌-◌, ◌≤◌, List, [], ◌∷◌, true, false, nat_eq, length, take, Option, None, Some, option_map, MatchOption, Bor, codes, refl, sym, ap, ◌∙◌, arith, inl, inr}
use Rattle.std.proofs.lemmas.Bool.Decides.{eqb_tells}
use Rattle.std.proofs.lemmas.Str.Pattern.{ends_text}
use Rattle.std.specs.List.{ends_with}
use Rattle.std.specs.Str.{IsCharBoundary}
use Rattle.std.specs.Str.Pattern.{FindsTextSuffix, StripsSuffix}
use Rattle.xs_elements.specs.Values.{prefix_of_test, unsigned}

-- what `strip_suffix` says of `:*`
pub prefix-stripped : (text : List ℕ) (r : Option (Bor (List ℕ))) → MatchOption r (FindsTextSuffix (codes ":*") text None)
    (λ x. StripsSuffix (FindsTextSuffix (codes ":*")) text x.now) → option_map (λ prefix. prefix.now) r ≡ prefix_of_test text
prefix-stripped text None h =
    let e : false ≡ ends_with nat_eq text (codes ":*") = ends_text false (codes ":*") text h in
    rw (sym e) refl
prefix-stripped text (Some x) h =
    let two : h.0 ≡ 2 = h.1.0 in
    let long : h.0 ≤ length text = omega (arith, h.3) in
    let edge : IsCharBoundary text (length text - h.0) = rw two h.1.2 in
    let e : true ≡ ends_with nat_eq text (codes ":*") = ends_text true (codes ":*") text (h.0, h.1, long, edge) in
    rw (sym e) (ap Some (h.2 ∙ ap (λ n. take (length text - n) text) two))

-- what `strip_prefix` says of a text without a sign
pub unsigned-same : (text : List ℕ) → ((rest : List ℕ) → text ≢ 45 ∷ rest) → text ≡ unsigned text
unsigned-same [] none = refl
unsigned-same (b ∷ bs) none = elim (eqb_tells b 45) [
  | inl h ↦ absurd (none bs (ap (λ c. c ∷ bs) h.1))
  | inr h ↦ rw h.0 refl
]
