-- What one of the nodes around a node has.
use Rattle.std.proofs.Common.{◌≡◌, ◌∙◌, ◌<◌, ◌≤◌, ◌+◌, ◌==◌, ℕ, zero, suc, ap, refl, sym, subst, arith, Bool, true, false, List, [], ◌∷◌, length, Option, None, Some, ◌⊎◌, inl, inr, eq-eqb, eqb-true}
use Rattle.std.proofs.lemmas.Bool.{and_from, and_parts, or_cases, or_left, or_right, lt-ltb, ltb-true, false≢true}
use Rattle.std.specs.List.{list_any}
use Rattle.std.specs.Option.{option_map_or}
use Rattle.std.specs.Prelude.{◌&&◌, ◌||◌, nat_lt}
use Rattle.xs_structure.proofs.NameLemmas.{bool_same}
use Rattle.xs_elements.specs.Nodes.{ancestors_or_self, chain}
use Rattle.xs_structure.specs.steps.Around.{any_around, is_within}
use Rattle.xs_tree.proofs.WalkLemmas.{IsPlaced-at, climbs-within, is_inside-within, le_or_gt}
use Rattle.xs_tree.specs.Record.{Record, at, climbs, is_inside}
use Rattle.xs_tree.specs.Shape.{EndsAt, IsTree}

-- ---- a node is within another where that has not ended
pub within-end : (rs : List Record) (n e k : ℕ) → IsTree rs → EndsAt rs n e → n ≤ k → k < length rs → is_within rs n k ≡ nat_lt k e
within-end rs n e k tree ends from inside = bool_same (is_within rs n k) (nat_lt k e) there back
  where
    inner : is_inside rs n k ≡ true → nat_lt k e ≡ true
    inner h =
        lt-ltb k e (elim (le_or_gt e k) [
          | inl past ↦ absurd (ends.outside (omega (arith, past, inside)) ((climbs-within rs tree k n k inside h).1 e ends.after past))
          | inr before ↦ before
        ])

    there : is_within rs n k ≡ true → nat_lt k e ≡ true
    there h =
        elim (or_cases (k == n) (is_inside rs n k) h) [
          | inl own ↦ lt-ltb k e (omega (arith, eqb-true k n own, ends.after))
          | inr up ↦ inner up
        ]

    by_place : k < e → (k ≤ n) ⊎ (n < k) → is_within rs n k ≡ true
    by_place lt (inl le) = or_left (k == n) (is_inside rs n k) (eq-eqb k n (omega (arith, le, from)))
    by_place lt (inr after) =
        or_right (k == n) (is_inside rs n k)
        ((is_inside-within rs n k tree inside).1 (after, λ j a b. ends.inside j a (omega (arith, b, lt))))

    back : nat_lt k e ≡ true → is_within rs n k ≡ true
    back h = by_place (ltb-true k e h) (le_or_gt k n)

-- ---- one of the first so many
pub record Around (test : ℕ → Bool) (rs : List Record) (k : ℕ) : Type 0 where
  pub node : ℕ
  pub passes : test node ≡ true
  pub within : is_within rs node k ≡ true

module _ (test : ℕ → Bool) (rs : List Record) where
  around-from : (k count : ℕ) → any_around test rs k count ≡ true → Around test rs k
  unfolding any_around
  around-from k zero h = absurd (false≢true h)
  around-from k (suc n) h =
      elim (or_cases (test n && is_within rs n k) (any_around test rs k n) h) [
        | inl own ↦ (let p = and_parts (test n) (is_within rs n k) own in record { node = n; passes = p.0; within = p.1 })
        | inr more ↦ around-from k n more
      ]

  around-to : (k count : ℕ) (b : ℕ) → b < count → test b ≡ true → is_within rs b k ≡ true → any_around test rs k count ≡ true
  unfolding any_around
  around-to k zero b lt h w = absurd (omega (arith, lt))
  around-to k (suc n) b lt h w =
      elim (le_or_gt n b) [
        | inl same ↦ (let e : b ≡ n = omega (arith, same, lt) in
            or_left (test n && is_within rs n k) (any_around test rs k n)
            (and_from (test n) (is_within rs n k) (subst (λ x. test x ≡ true) e h) (subst (λ x. is_within rs x k ≡ true) e w)))
        | inr before ↦ or_right (test n && is_within rs n k) (any_around test rs k n) (around-to k n b before h w)
      ]

  -- a node of the chain of parents is around its first
  chain-from : (f k : ℕ) → list_any test (chain (suc f) rs k) ≡ true → (b : ℕ) × (test b ≡ true) × ((k == b || climbs f rs b k) ≡ true)
  unfolding chain
  chain-from zero k h =
      elim (or_cases (test k) (list_any test (option_map_or (chain zero rs) (at rs k).parent [])) h) [
        | inl own ↦ (k, own, or_left (k == k) _ (eq-eqb k k refl))
        | inr up ↦ absurd (none-up (at rs k).parent up)
      ]
    where
      none-up : (o : Option ℕ) → list_any test (option_map_or (chain zero rs) o []) ≡ true → ⊥
      none-up None g = false≢true g
      none-up (Some p) g = false≢true g
  chain-from (suc f) k h =
      elim (or_cases (test k) (list_any test (option_map_or (chain (suc f) rs) (at rs k).parent [])) h) [
        | inl own ↦ (k, own, or_left (k == k) _ (eq-eqb k k refl))
        | inr up ↦ by_parent (at rs k).parent refl up (λ p g. chain-from f p g)
      ]
    where
      by_parent : (o : Option ℕ) → (at rs k).parent ≡ o → list_any test (option_map_or (chain (suc f) rs) o []) ≡ true
          → ((p : ℕ) → list_any test (chain (suc f) rs p) ≡ true → (b : ℕ) × (test b ≡ true) × ((p == b || climbs f rs b p) ≡ true))
          → (b : ℕ) × (test b ≡ true) × ((k == b || option_map_or (λ p. p == b || climbs f rs b p) (at rs k).parent false) ≡ true)
      by_parent None e g again = absurd (false≢true g)
      by_parent (Some p) e g again =
          let found = again p g in
          (found.0, found.1, or_right (k == found.0) _ (rw e found.2))

  chain-to : (f k b : ℕ) → test b ≡ true → climbs f rs b k ≡ true → list_any test (chain (suc f) rs k) ≡ true
  unfolding chain
  chain-to zero k b h up = absurd (false≢true up)
  chain-to (suc f) k b h up =
      or_right (test k) _ (by_parent (at rs k).parent up (λ p g. chain-to f p b h g))
    where
      by_parent : (o : Option ℕ) → option_map_or (λ p. p == b || climbs f rs b p) o false ≡ true
          → ((p : ℕ) → climbs f rs b p ≡ true → list_any test (chain (suc f) rs p) ≡ true)
          → list_any test (option_map_or (chain (suc f) rs) o []) ≡ true
      by_parent None g again = absurd (false≢true g)
      by_parent (Some p) g again =
          elim (or_cases (p == b) (climbs f rs b p) g) [
            | inl own ↦ or_left (test p) _ (subst (λ x. test x ≡ true) (sym (eqb-true p b own)) h)
            | inr more ↦ again p more
          ]

  -- among the first nodes up to one, those within which it is are those of its chain
  pub around-is : (n : ℕ) → IsTree rs → n < length rs → any_around test rs n (n + 1) ≡ list_any test (ancestors_or_self rs n)
  unfolding chain
  around-is n tree inside =
      bool_same (any_around test rs n (n + 1)) (list_any test (chain (n + 1) rs n)) there back
    where
      n_is : suc n ≡ n + 1
      n_is = omega arith

      there : any_around test rs n (n + 1) ≡ true → list_any test (chain (n + 1) rs n) ≡ true
      there h =
          let a = around-from n (n + 1) h in
          subst (λ k. list_any test (chain k rs n) ≡ true) n_is
          (elim (or_cases (n == a.node) (is_inside rs a.node n) a.within) [
            | inl own ↦ or_left (test n) _ (subst (λ x. test x ≡ true) (sym (eqb-true n a.node own)) a.passes)
            | inr up ↦ chain-to n n a.node a.passes up
          ])

      before : (b : ℕ) → (n == b || climbs n rs b n) ≡ true → b < n + 1
      before b h =
          elim (or_cases (n == b) (climbs n rs b n) h) [
            | inl own ↦ omega (arith, eqb-true n b own)
            | inr up ↦ omega (arith, (climbs-within rs tree n b n inside up).0)
          ]

      back : list_any test (chain (n + 1) rs n) ≡ true → any_around test rs n (n + 1) ≡ true
      back h =
          let a = chain-from n n (subst (λ k. list_any test (chain k rs n) ≡ true) (sym n_is) h) in
          around-to n (n + 1) a.0 (before a.0 a.2) a.1 a.2

-- ---- one node more
pub around-more : (test : ℕ → Bool) (rs : List Record) (k n : ℕ) → any_around test rs k (n + 1) ≡ ((test n && is_within rs n k) || any_around test rs k n)
unfolding any_around
around-more test rs k n = let n_is : n + 1 ≡ suc n = omega arith in ap (any_around test rs k) n_is

-- ---- the nodes around a node
module _ (rs : List Record) (tree : IsTree rs) where
  pub parent-before : (n p : ℕ) → n < length rs → (at rs n).parent ≡ Some p → p < n
  parent-before n p inside e = (IsPlaced-at rs n p tree inside e).before

  pub chain-enough : (f g n : ℕ) → n < length rs → n < f → n < g → chain f rs n ≡ chain g rs n
  unfolding chain
  chain-enough zero g n inside lt other = absurd (omega (arith, lt))
  chain-enough (suc f) zero n inside lt other = absurd (omega (arith, other))
  chain-enough (suc f) (suc g) n inside lt other =
      ap (λ ns. n ∷ ns) (behind (at rs n).parent refl (λ p h l m. chain-enough f g p h l m))
    where
      behind : (o : Option ℕ) → (at rs n).parent ≡ o
          → ((p : ℕ) → p < length rs → p < f → p < g → chain f rs p ≡ chain g rs p)
          → option_map_or (chain f rs) o [] ≡ option_map_or (chain g rs) o []
      behind None e again = refl
      behind (Some p) e again =
          let before : p < n = parent-before n p inside e in
          again p (omega (arith, before, inside)) (omega (arith, before, lt)) (omega (arith, before, other))

  pub around-some : (n p : ℕ) → n < length rs → (at rs n).parent ≡ Some p → ancestors_or_self rs n ≡ n ∷ ancestors_or_self rs p
  unfolding chain
  around-some n p inside e =
      let before : p < n = parent-before n p inside e in
      let n_is : n + 1 ≡ suc n = omega arith in
      ap (λ k. chain k rs n) n_is ∙ ap (λ o. n ∷ option_map_or (chain n rs) o []) e
      ∙ ap (λ ns. n ∷ ns) (chain-enough n (p + 1) p (omega (arith, before, inside)) before (omega arith))

pub around-none : (rs : List Record) (n : ℕ) → (at rs n).parent ≡ None → ancestors_or_self rs n ≡ n ∷ []
unfolding chain
around-none rs n e =
    let n_is : n + 1 ≡ suc n = omega arith in
    ap (λ k. chain k rs n) n_is ∙ ap (λ o. n ∷ option_map_or (chain n rs) o []) e

-- ---- one word more
pub word-more : (means more lt old now : Bool) → now ≡ (means && lt || old) → (more && lt || now) ≡ ((means || more) && lt || old)
word-more true true true old now e = refl
word-more true false true old now e = e
word-more false true true old now e = refl
word-more false false true old now e = e
word-more true true false old now e = e
word-more true false false old now e = e
word-more false true false old now e = e
word-more false false false old now e = e
