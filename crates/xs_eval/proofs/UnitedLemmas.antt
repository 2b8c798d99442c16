-- Nodes that are found for strings: for each string once is enough.
use Rattle.std.proofs.Common.{◌≡◌, ℕ, Bool, true, false, ◌||◌, List, [], ◌∷◌, ◌++◌, map, refl, sym, ap, ◌∙◌, inl, inr, subst}
use Rattle.std.proofs.lemmas.List.Elements.{Contains-append_cases, Contains-append_left, Contains-append_right}
use Rattle.std.specs.Cmp.Lexicographic.{bytes_decides}
use Rattle.std.specs.Cow.{cow_str_bytes}
use Rattle.std.specs.declared.borrow.CowStr.{CowStr}
use Rattle.std.specs.List.{Contains, flat_map, list_any}
use Rattle.std.specs.Str.{bytes_eq}
use Rattle.xs_value.specs.NodeSet.{in_order}
use Rattle.xs_value.specs.TextIndexes.{IsIndexOf, is_indexed}
use Rattle.xs_value.proofs.NodeSetLemmas.{nil-contains, same_nodes}

or-true : (a b : Bool) → b ≡ true → (a || b) ≡ true
or-true true b h = refl
or-true false b h = h

-- what is found for a string is found for a list that has it
found-first : (f : List ℕ → List ℕ) (q y : List ℕ) (z : ℕ) (ys : List (List ℕ))
    → (list_any (bytes_eq q) ys ≡ true → Contains (f q) z → Contains (flat_map f ys) z)
    → (b : Bool) → bytes_eq q y ≡ b → (b || list_any (bytes_eq q) ys) ≡ true → Contains (f q) z → Contains (f y ++ flat_map f ys) z
found-first f q y z ys ih true e h c = Contains-append_left (f y) (flat_map f ys) z (subst (λ (t : List ℕ). Contains (f t) z) ((bytes_decides q y).0 e) c)
found-first f q y z ys ih false e h c = Contains-append_right (f y) (flat_map f ys) z (ih h c)

found-within : (f : List ℕ → List ℕ) (q : List ℕ) (z : ℕ) (ys : List (List ℕ)) → list_any (bytes_eq q) ys ≡ true → Contains (f q) z
    → Contains (flat_map f ys) z
found-within f q z [] h c = absurd (cc)
found-within f q z (y ∷ ys) h c = found-first f q y z ys (found-within f q z ys) (bytes_eq q y) refl h c

found-each : (f : List ℕ → List ℕ) (z : ℕ) (xs ys : List (List ℕ))
    → ((q : List ℕ) → list_any (bytes_eq q) xs ≡ true → list_any (bytes_eq q) ys ≡ true) → Contains (flat_map f xs) z → Contains (flat_map f ys) z
found-each f z [] ys h c = absurd (nil-contains z c)
found-each f z (x ∷ xs) ys h c =
    elim (Contains-append_cases (f x) (flat_map f xs) z c) as (λ _. Contains (flat_map f ys) z) [
      | inl a ↦ found-within f x z ys (h x (ap (λ b. b || list_any (bytes_eq x) xs) ((bytes_decides x x).1 refl))) a
      | inr b ↦ found-each f z xs ys (λ q t. h q (or-true (bytes_eq q x) (list_any (bytes_eq q) xs) t)) b
    ]

-- lists with the same strings
united-same : (f : List ℕ → List ℕ) (xs ys : List (List ℕ)) → ((q : List ℕ) → list_any (bytes_eq q) xs ≡ list_any (bytes_eq q) ys)
    → in_order (flat_map f xs) ≡ in_order (flat_map f ys)
united-same f xs ys h =
    same_nodes (flat_map f xs) (flat_map f ys)
    (λ z. found-each f z xs ys (λ q t. sym (h q) ∙ t))
    (λ z. found-each f z ys xs (λ q t. h q ∙ t))

any-map : {Z : Type 0} (q : List ℕ) (ks : List (CowStr Z)) → list_any (bytes_eq q) (map cow_str_bytes ks) ≡ is_indexed ks q
any-map q [] = refl
any-map q (k ∷ ks) = ap (λ b. bytes_eq q (cow_str_bytes k) || b) (any-map q ks)

-- an index of the strings of a list
pub united-index : {Z : Type 0} (f : List ℕ → List ℕ) (ks : List (CowStr Z)) (ys : List (List ℕ)) → IsIndexOf ks ys
    → in_order (flat_map f (map cow_str_bytes ks)) ≡ in_order (flat_map f ys)
united-index f ks ys h = united-same f (map cow_str_bytes ks) ys (λ q. any-map q ks ∙ h q)
