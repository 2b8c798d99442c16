-- What stands before a child in the content of an element.
use Rattle.std.proofs.Common.{◌≡◌, ◌∙◌, ℕ, suc, zero, ◌+◌, ◌≤◌, ap, refl, sym, subst, arith, List, [], ◌∷◌, ◌++◌, filter, map, cond, length, Bool, true, false}
use Rattle.std.proofs.lemmas.Bool.{le-ltb, lt-ltb}
use Rattle.std.specs.List.{range_with_len}
use Rattle.std.specs.Prelude.{◌&&◌, nat_lt}
use Rattle.xs_elements.specs.Tags.{tag_of}
use Rattle.xs_static.specs.Placing.{content_before}
use Rattle.xs_structure.specs.Parts.{is_content}
use Rattle.xs_static.specs.steps.Misplaced.{tags_among}
use Rattle.xs_tree.specs.Record.{Record, children, is_child}

-- ---- places that rise
Rises : ℕ → List ℕ → Type 0
Rises b [] = Unit {0}
Rises b (x ∷ xs) = (b ≤ x) × Rises (x + 1) xs

rises-from : (a b : ℕ) (xs : List ℕ) → a ≤ b → Rises b xs → Rises a xs
unfolding Rises
rises-from a b [] h r = tt
rises-from a b (x ∷ xs) h r = (omega (arith, r.0), r.1)

rises-if : (p : Bool) (a : ℕ) (xs : List ℕ) → Rises (a + 1) xs → Rises a (cond p (a ∷ xs) xs)
unfolding Rises
rises-if true a xs r = (omega arith, r)
rises-if false a xs r = rises-from a (a + 1) xs (omega arith) r

passing-rises : (p : ℕ → Bool) (a n : ℕ) → Rises a (filter p (range_with_len a n))
unfolding Rises
passing-rises p a zero = tt
passing-rises p a (suc n) = rises-if (p a) a (filter p (range_with_len (a + 1) n)) (passing-rises p (a + 1) n)

above : (b k : ℕ) (done rest : List ℕ) → Rises b (done ++ k ∷ rest) → b ≤ k
unfolding Rises
above b k [] rest r = r.0
above b k (d ∷ ds) rest r = omega (arith, r.0, above (d + 1) k ds rest r.1)

-- ---- of places that rise those before one of them
none-behind : (p : ℕ → Bool) (k b : ℕ) (xs : List ℕ) → k ≤ b → Rises b xs → filter (λ j. nat_lt j k && p j) xs ≡ []
unfolding Rises
none-behind p k b [] h r = refl
none-behind p k b (x ∷ xs) h r =
    ap (λ (t : Bool). cond (t && p x) (x ∷ filter (λ j. nat_lt j k && p j) xs) (filter (λ j. nat_lt j k && p j) xs))
    (le-ltb x k (omega (arith, h, r.0)))
    ∙ none-behind p k (x + 1) xs (omega (arith, h, r.0)) r.1

before-one : (p : ℕ → Bool) (k b : ℕ) (done rest : List ℕ) → Rises b (done ++ k ∷ rest)
    → filter (λ j. nat_lt j k && p j) (done ++ k ∷ rest) ≡ filter p done
unfolding Rises
before-one p k b [] rest r =
    ap (λ (t : Bool). cond (t && p k) (k ∷ filter (λ j. nat_lt j k && p j) rest) (filter (λ j. nat_lt j k && p j) rest))
    (le-ltb k k (omega arith))
    ∙ none-behind p k (k + 1) rest (omega arith) r.1
before-one p k b (d ∷ ds) rest r =
    ap (λ (t : Bool). cond (t && p d) (d ∷ filter (λ j. nat_lt j k && p j) (ds ++ k ∷ rest)) (filter (λ j. nat_lt j k && p j) (ds ++ k ∷ rest)))
    (lt-ltb d k (omega (arith, above (d + 1) k ds rest r.1)))
    ∙ ap (λ (xs : List ℕ). cond (p d) (d ∷ xs) xs) (before-one p k (d + 1) ds rest r.1)

-- what stands before a child is what was passed
pub before_is_done : (rs : List Record) (n : ℕ) (done rest : List ℕ) (k : ℕ) → children rs n ≡ done ++ k ∷ rest
    → tags_among rs n done ≡ content_before rs n k
before_is_done rs n done rest k e =
    sym (ap (λ (xs : List ℕ). map (tag_of rs) (filter (λ j. nat_lt j k && is_content rs n j) xs)) e
    ∙ ap (map (tag_of rs)) (before-one (is_content rs n) k 0 done rest (subst (Rises 0) e (passing-rises (is_child rs n) 0 (length rs)))))
