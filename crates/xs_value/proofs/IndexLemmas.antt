-- An index of strings, and two lists of them in either order.
use Rattle.std.proofs.Common.{◌≡◌, ℕ, zero, suc, ◌+◌, ◌<◌, Bool, true, false, ◌||◌, List, [], ◌∷◌, ◌++◌, length, take, get_or, refl, sym, ◌∙◌, ap, arith, cond}
use Rattle.std.proofs.lemmas.List.{map-append}
use Rattle.std.specs.List.{list_any}
use Rattle.std.specs.Str.{bytes_eq}
use Rattle.xs_tree.specs.Record.{Record, string_value}
use Rattle.xs_value.specs.steps.Operands.{node_texts, some_equal}
use Rattle.xs_value.proofs.TextLemmas.{any-same, bytes-sym}

any-append : (p : List ℕ → Bool) (xs : List (List ℕ)) (t : List ℕ) → list_any p (xs ++ t ∷ []) ≡ (p t || list_any p xs)
any-append p [] t = refl
any-append p (x ∷ xs) t = ap (λ b. p x || b) (any-append p xs t) ∙ swap (p x) (p t) (list_any p xs)
  where
    swap : (a b c : Bool) → (a || (b || c)) ≡ (b || (a || c))
    swap true true c = refl
    swap true false c = refl
    swap false b c = refl

-- one string more in an index
pub index-more : (q t : List ℕ) (done : List (List ℕ)) (old new : Bool) → new ≡ cond (bytes_eq t q) true old → old ≡ list_any (bytes_eq q) done
    → new ≡ list_any (bytes_eq q) (done ++ t ∷ [])
index-more q t done old new up so_far =
    up ∙ ap (λ b. cond b true old) (bytes-sym t q) ∙ either (bytes_eq q t) old ∙ ap (λ b. bytes_eq q t || b) so_far ∙ sym (any-append (bytes_eq q) done t)
  where
    either : (a b : Bool) → cond a true b ≡ (a || b)
    either true b = refl
    either false b = refl

any-or : (p q : List ℕ → Bool) (xs : List (List ℕ)) → list_any (λ x. p x || q x) xs ≡ (list_any p xs || list_any q xs)
any-or p q [] = refl
any-or p q (x ∷ xs) = ap (λ b. (p x || q x) || b) (any-or p q xs) ∙ mix (p x) (q x) (list_any p xs) (list_any q xs)
  where
    mix : (a b c d : Bool) → ((a || b) || (c || d)) ≡ ((a || c) || (b || d))
    mix true b c d = refl
    mix false true true d = refl
    mix false true false d = refl
    mix false false c d = refl

-- some string of the one list is in the other, in either order
pub equal-swap : (xs ys : List (List ℕ)) → some_equal xs ys ≡ some_equal ys xs
equal-swap [] ys = none ys
  where
    none : (zs : List (List ℕ)) → false ≡ list_any (λ z. list_any (bytes_eq z) []) zs
    none [] = refl
    none (z ∷ zs) = none zs
equal-swap (x ∷ xs) ys =
    ap (λ b. list_any (bytes_eq x) ys || b) (equal-swap xs ys)
    ∙ ap (λ b. b || some_equal ys xs) (any-same (bytes_eq x) (λ y. bytes_eq y x) ys (λ y. bytes-sym x y))
    ∙ sym (any-or (λ y. bytes_eq y x) (λ y. list_any (bytes_eq y) xs) ys)

-- a test by an index of the strings of the first list
pub by_index : (test : List ℕ → Bool) (xs ys : List (List ℕ)) → ((q : List ℕ) → test q ≡ list_any (bytes_eq q) xs) → list_any test ys ≡ some_equal xs ys
by_index test xs ys h = any-same test (λ y. list_any (bytes_eq y) xs) ys h ∙ equal-swap ys xs

take-next : (xs : List ℕ) (i x : ℕ) → i < length xs → x ≡ get_or xs i x → take (i + 1) xs ≡ take i xs ++ x ∷ []
take-next [] i x l e = absurd (omega arith)
take-next (k ∷ ks) zero x l e = ap (λ j. j ∷ []) (sym e)
take-next (k ∷ ks) (suc i) x l e = let f : suc i + 1 ≡ suc (i + 1) = omega arith in rw f (ap (λ l. k ∷ l) (take-next ks i x (omega (arith, l)) e))

-- the strings of one node more
pub texts-more : (rs : List Record) (nodes : List ℕ) (i n : ℕ) → i < length nodes → n ≡ get_or nodes i n
    → node_texts rs (take i nodes) ++ string_value rs n ∷ [] ≡ node_texts rs (take (i + 1) nodes)
texts-more rs nodes i n l e =
    sym (ap (node_texts rs) (take-next nodes i n l e) ∙ map-append (string_value rs) (take i nodes) (n ∷ []))
