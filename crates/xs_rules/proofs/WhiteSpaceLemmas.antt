-- White space that `xml:space` preserves, from a node to its parent.
use Rattle.std.proofs.Common.{◌≡◌, ℕ, ◌+◌, ◌<◌, ◌≤◌, ◌==◌, ◌&&◌, ◌||◌, not, Bool, true, false, List, [], ◌∷◌, length, map, get_or, None, Some, nat_lt}
use Rattle.std.proofs.Common.{refl, sym, ap, subst, ◌∙◌, arith, ◌⊎◌, inl, inr}
use Rattle.std.proofs.lemmas.Bool.{and_from, and_parts, cases_eq, eqb-true, le-ltb, lt-ltb, or_cases, true≢false, false_from_ne_true}
use Rattle.std.proofs.lemmas.List.{get_or-map, length-map}
use Rattle.std.proofs.lemmas.List.FromFn.{get_or-range_with_len, length-range_with_len}
use Rattle.std.specs.List.{list_any, range_with_len}
use Rattle.std.specs.Option.{option_map_or}
use Rattle.xs_tree.specs.declared.axes.Axis.TheVariants.{AncestorOrSelf}
use Rattle.xs_tree.specs.Axis.{axis_list, is_ancestor, is_on}
use Rattle.xs_tree.specs.Record.{Record, at}
use Rattle.xs_tree.specs.Shape.{IsTree}
use Rattle.xs_tree.proofs.WalkLemmas.{climbs-within}
use Rattle.xs_pattern.proofs.AncestorLemmas.{any-beyond, any-parent, any-self, any-there, same}
use Rattle.xs_rules.specs.WhiteSpace.{any_above, preserves, said_by, says_default, says_preserve}

-- whether a node nearer than another says `default`
abbrev Nearer : List Record → ℕ → ℕ → Bool
Nearer rs n k = any_above (λ j. nat_lt k j && says_default rs j) rs n

-- whether a node says `preserve`, and none nearer says `default`
abbrev Kept : List Record → ℕ → ℕ → Bool
Kept rs n k = says_preserve rs k && not (Nearer rs n k)

above-before : (rs : List Record) (n k : ℕ) → IsTree rs → n < length rs → is_on AncestorOrSelf rs n k ≡ true → k ≤ n
above-before rs n k t h on =
    elim (or_cases (k == n) (is_ancestor rs n k) on) [
      | inl e ↦ (let s : k ≡ n = eqb-true k n e in omega (arith, s))
      | inr e ↦ (let lt : k < n = (climbs-within rs t n k n h e).0 in omega (arith, lt))
    ]

not-nearer : (rs : List Record) (n : ℕ) → IsTree rs → n < length rs → Nearer rs n n ≡ false
not-nearer rs n t h =
    false_from_ne_true (Nearer rs n n) (λ e.
    let w : (k : ℕ) × (k < length rs) × ((is_on AncestorOrSelf rs n k && (nat_lt n k && says_default rs k)) ≡ true) =
    any-there (λ j. nat_lt n j && says_default rs j) rs n e in
    let p : (is_on AncestorOrSelf rs n w.0 ≡ true) × ((nat_lt n w.0 && says_default rs w.0) ≡ true) =
    and_parts (is_on AncestorOrSelf rs n w.0) (nat_lt n w.0 && says_default rs w.0) w.2 in
    let q : nat_lt n w.0 ≡ true = (and_parts (nat_lt n w.0) (says_default rs w.0) p.1).0 in
    true≢false (sym q ∙ le-ltb n w.0 (above-before rs n w.0 t h p.0)))

not-true : (b : Bool) → b ≡ false → not b ≡ true
not-true b e = ap not e

true-not : (b : Bool) → not b ≡ true → b ≡ false
true-not true e = absurd (true≢false (sym e))
true-not false e = refl

-- what the node itself says
pub said-preserve : (rs : List Record) (n : ℕ) (b : Bool) → IsTree rs → n < length rs → said_by rs n ≡ Some b → b ≡ preserves rs n
unfolding preserves
said-preserve rs n true t h e =
    sym (any-self (Kept rs n) rs n h
    (and_from (says_preserve rs n) (not (Nearer rs n n)) (ap (λ o. option_map_or (λ b. b) o false) e) (not-true (Nearer rs n n) (not-nearer rs n t h))))
said-preserve rs n false t h e =
    sym (false_from_ne_true (any_above (Kept rs n) rs n) (λ up.
    let w : (k : ℕ) × (k < length rs) × ((is_on AncestorOrSelf rs n k && Kept rs n k) ≡ true) = any-there (Kept rs n) rs n up in
    let p : (is_on AncestorOrSelf rs n w.0 ≡ true) × (Kept rs n w.0 ≡ true) = and_parts (is_on AncestorOrSelf rs n w.0) (Kept rs n w.0) w.2 in
    let q : (says_preserve rs w.0 ≡ true) × (not (Nearer rs n w.0) ≡ true) = and_parts (says_preserve rs w.0) (not (Nearer rs n w.0)) p.1 in
    by_place w.0 (above-before rs n w.0 t h p.0) q.0 (true-not (Nearer rs n w.0) q.1) (cases_eq w.0 n)))
  where
    default : says_default rs n ≡ true
    default = ap (λ o. option_map_or not o false) e

    by_place : (k : ℕ) → k ≤ n → says_preserve rs k ≡ true → Nearer rs n k ≡ false → (k ≡ n) ⊎ (k ≡ n → ⊥) → ⊥
    by_place k le s f (inl i) =
        let none : says_preserve rs n ≡ false = ap (λ o. option_map_or (λ b. b) o false) e in
        true≢false (sym (subst (λ (j : ℕ). says_preserve rs j ≡ true) i s) ∙ none)
    by_place k le s f (inr ne) =
        let lt : k < n = omega (arith, le, ne) in
        true≢false (sym (any-self (λ j. nat_lt k j && says_default rs j) rs n h (and_from (nat_lt k n) (says_default rs n) (lt-ltb k n lt) default)) ∙ f)

-- a node that says nothing: what its parent says counts
any-same : (f g : ℕ → Bool) (xs : List ℕ) → ((x : ℕ) → f x ≡ g x) → list_any f xs ≡ list_any g xs
any-same f g [] e = refl
any-same f g (x ∷ xs) e = ap (λ b. b || list_any f xs) (e x) ∙ ap (λ b. g x || b) (any-same f g xs e)

nearer-parent : (rs : List Record) (n p k : ℕ) → IsTree rs → n < length rs → (at rs n).parent ≡ Some p → says_default rs n ≡ false
    → Nearer rs n k ≡ Nearer rs p k
nearer-parent rs n p k t h e f =
    same (Nearer rs n k) (Nearer rs p k)
    (λ up. elim (any-beyond (λ j. nat_lt k j && says_default rs j) rs n t h up) [
      | inl q ↦ absurd (true≢false (sym (and_parts (nat_lt k n) (says_default rs n) q).1 ∙ f))
      | inr w ↦ (let i : Some w.0 ≡ Some p = sym w.1 ∙ e in let j : w.0 ≡ p = cc in subst (λ (x : ℕ). Nearer rs x k ≡ true) j w.2)
    ])
    (any-parent (λ j. nat_lt k j && says_default rs j) rs n p t h e)

pub unsaid-parent : (rs : List Record) (n p : ℕ) → IsTree rs → n < length rs → said_by rs n ≡ None → (at rs n).parent ≡ Some p
    → preserves rs p ≡ preserves rs n
unfolding preserves
unsaid-parent rs n p t h s e =
    sym (same (any_above (Kept rs n) rs n) (any_above (Kept rs n) rs p)
    (λ up. elim (any-beyond (Kept rs n) rs n t h up) [
      | inl q ↦ absurd (true≢false (sym (and_parts (says_preserve rs n) (not (Nearer rs n n)) q).0 ∙ unsaid))
      | inr w ↦ (let i : Some w.0 ≡ Some p = sym w.1 ∙ e in let j : w.0 ≡ p = cc in subst (λ (x : ℕ). any_above (Kept rs n) rs x ≡ true) j w.2)
    ])
    (any-parent (Kept rs n) rs n p t h e)
    ∙ any-same (Kept rs n) (Kept rs p) (axis_list AncestorOrSelf rs p)
    (λ k. ap (λ b. says_preserve rs k && not b) (nearer-parent rs n p k t h e (ap (λ o. option_map_or not o false) s))))
  where
    unsaid : says_preserve rs n ≡ false
    unsaid = ap (λ o. option_map_or (λ b. b) o false) s

pub unsaid-root : (rs : List Record) (n : ℕ) → IsTree rs → n < length rs → said_by rs n ≡ None → (at rs n).parent ≡ None → false ≡ preserves rs n
unfolding preserves
unsaid-root rs n t h s e =
    sym (false_from_ne_true (any_above (Kept rs n) rs n) (λ up. elim (any-beyond (Kept rs n) rs n t h up) [
      | inl q ↦ true≢false (sym (and_parts (says_preserve rs n) (not (Nearer rs n n)) q).0 ∙ ap (λ o. option_map_or (λ b. b) o false) s)
      | inr w ↦ (let i : Some w.0 ≡ None = sym w.1 ∙ e in cc)
    ]))

-- ---- what is known of the nodes before one

pub known-at : (f : ℕ → Bool) (kept : List Bool) (n p : ℕ) → kept ≡ map f (range_with_len 0 n) → p < n → get_or kept p false ≡ f p
known-at f kept n p e h =
    let zero_more : 0 + p ≡ p = omega arith in
    let within : p < length (range_with_len 0 n) = subst (λ (k : ℕ). p < k) (sym (length-range_with_len 0 n)) h in
    ap (λ (l : List Bool). get_or l p false) e
    ∙ get_or-map f (range_with_len 0 n) p 0 false within
    ∙ ap f (get_or-range_with_len 0 n p 0 h ∙ zero_more)

pub known-within : (f : ℕ → Bool) (kept : List Bool) (n p : ℕ) → kept ≡ map f (range_with_len 0 n) → p < n → p < length kept
known-within f kept n p e h =
    subst (λ (k : ℕ). p < k) (sym (ap (λ (l : List Bool). length l) e ∙ length-map (range_with_len 0 n) f ∙ length-range_with_len 0 n)) h
