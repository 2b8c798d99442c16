-- A name that comes into force.
use Rattle.std.proofs.Common.{◌≡◌, ◌∙◌, ◌<◌, ◌≤◌, ℕ, ap, refl, arith, Bool, true, false, List, Option, None, Some, ◌⊎◌, inl, inr}
use Rattle.std.proofs.lemmas.Bool.{and_parts, ltb-true, ltb-false, lt-ltb, or_cases}
use Rattle.std.proofs.lemmas.Slice.Eq.{bytes_eq-Decides}
use Rattle.std.specs.Option.{option_map_or}
use Rattle.std.specs.Prelude.{◌&&◌, ◌||◌, nat_lt, max, if◌then◌else◌}
use Rattle.std.specs.Str.{bytes_eq}
use Rattle.xs_elements.specs.Nodes.{is_same_name}
use Rattle.xs_structure.proofs.NameLemmas.{bool_same, name-sym}

abbrev before_end : ℕ → Option ℕ → Bool
before_end place o = option_map_or (λ end. nat_lt place end) o false

before_max : (place a b : ℕ) → nat_lt place (max a b) ≡ (nat_lt place a || nat_lt place b)
before_max place a b = bool_same (nat_lt place (max a b)) (nat_lt place a || nat_lt place b) there back
  where
    by_first : (t : Bool) → nat_lt place a ≡ t → place < max a b → (t || nat_lt place b) ≡ true
    by_first true e h = refl
    by_first false e h = lt-ltb place b (omega (arith, h, ltb-false place a e))

    there : nat_lt place (max a b) ≡ true → (nat_lt place a || nat_lt place b) ≡ true
    there h = by_first (nat_lt place a) refl (ltb-true place (max a b) h)

    back : (nat_lt place a || nat_lt place b) ≡ true → nat_lt place (max a b) ≡ true
    back h =
        elim (or_cases (nat_lt place a) (nat_lt place b) h) [
          | inl e ↦ lt-ltb place (max a b) (omega (arith, ltb-true place a e))
          | inr e ↦ lt-ltb place (max a b) (omega (arith, ltb-true place b e))
        ]

or-false : (a : Bool) → a ≡ (a || false)
or-false true = refl
or-false false = refl

later : (place end : ℕ) (old : Option ℕ) → before_end place (Some (option_map_or (λ o. max end o) old end)) ≡ (nat_lt place end || before_end place old)
later place end None = or-false (nat_lt place end)
later place end (Some o) = before_max place end o

by_name : (find : List ℕ → List ℕ → Option ℕ) (a b uri local : List ℕ) (end place : ℕ) (t : Bool) → is_same_name (a, b) (uri, local) ≡ t
    → before_end place (if t then Some (option_map_or (λ o. max end o) (find a b) end) else find uri local)
    ≡ (t && nat_lt place end || before_end place (find uri local))
by_name find a b uri local end place false e = refl
by_name find a b uri local end place true e =
    let parts = and_parts (bytes_eq a uri) (bytes_eq b local) e in
    let first : a ≡ uri = (bytes_eq-Decides a uri).0 parts.0 in
    let second : b ≡ local = (bytes_eq-Decides b local).0 parts.1 in
    ap (λ o. before_end place (Some (option_map_or (λ o. max end o) o end))) (ap (λ x. find x b) first ∙ ap (λ x. find uri x) second)
    ∙ later place end (find uri local)

-- what was found of each name, and is found now
pub entered : (find : List ℕ → List ℕ → Option ℕ) (a b uri local : List ℕ) (end place : ℕ) (now : Option ℕ)
    → now ≡ (if bytes_eq a uri && bytes_eq b local then Some (option_map_or (λ o. max end o) (find a b) end) else find uri local)
    → before_end place now ≡ (is_same_name (uri, local) (a, b) && nat_lt place end || before_end place (find uri local))
entered find a b uri local end place now e =
    ap (before_end place) e ∙ by_name find a b uri local end place (is_same_name (a, b) (uri, local)) refl
    ∙ ap (λ t. t && nat_lt place end || before_end place (find uri local)) (name-sym (a, b) (uri, local))
