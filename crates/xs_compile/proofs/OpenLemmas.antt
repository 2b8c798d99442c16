-- How many bindings are visible at a node, and to what comes inside it.
use Rattle.std.proofs.Common.{◌≡◌, ◌∙◌, ◌<◌, ◌≤◌, ◌+◌, ◌==◌, ℕ, zero, suc, ap, refl, sym, arith, Bool, true, false, List, [], ◌∷◌, ◌++◌, length, length-append, Option, None, Some, inl, inr, filter}
use Rattle.std.proofs.lemmas.Bool.{and_from, and_parts, or_cases, or_left, or_right, le-ltb, false≢true, true≢false}
use Rattle.std.proofs.lemmas.List.{append-nil}
use Rattle.std.proofs.lemmas.List.Elements.{filter-append}
use Rattle.std.specs.List.{range_with_len}
use Rattle.std.specs.Option.{option_map_or}
use Rattle.std.specs.Prelude.{◌&&◌, ◌||◌, ◌-◌, nat_lt, not, if◌then◌else◌}
use Rattle.xs_tree.proofs.PlaceLemmas.{range-more}
use Rattle.xs_tree.proofs.WalkLemmas.{le_or_gt}
use Rattle.xs_tree.specs.Record.{Record, at, climbs, is_inside, is_place}
use Rattle.xs_tree.specs.Shape.{IsTree}
use Rattle.xs_structure.specs.Bindings.{is_local, reaches}
use Rattle.xs_compile.specs.Slots.{is_visible, slot_of, visible_at}
use Rattle.xs_compile.specs.steps.Locals.{is_open, opened}
use Rattle.xs_compile.proofs.ReachLemmas.{child-reaches, parent-before, place-is, reaches-inner, reaches-of, reaches-on, reaches-outer, reaches-to}
use Rattle.xs_structure.proofs.TopLemmas.{is_place-true}

same : (a b : Bool) → (a ≡ true → b ≡ true) → (b ≡ true → a ≡ true) → a ≡ b
same true b f g = sym (f refl)
same false true f g = g refl
same false false f g = refl

abbrev pub one_if : Bool → ℕ
one_if true = 1
one_if false = 0

-- ---- filters of the first so many places
pub passing-same : (p q : ℕ → Bool) (n : ℕ) → ((k : ℕ) → k < n → p k ≡ q k) → filter p (range_with_len 0 n) ≡ filter q (range_with_len 0 n)
passing-same p q zero h = refl
passing-same p q (suc n) h =
    let n_is : suc n ≡ n + 1 = omega arith in
    split p ∙ ap (λ xs. xs ++ filter p (n ∷ [])) (passing-same p q n (λ k lt. h k (omega (arith, lt))))
    ∙ ap (λ (b : Bool). filter q (range_with_len 0 n) ++ (if b then n ∷ [] else [])) (h n (omega arith)) ∙ sym (split q)
  where
    split : (p : ℕ → Bool) → filter p (range_with_len 0 (suc n)) ≡ filter p (range_with_len 0 n) ++ filter p (n ∷ [])
    split p =
        let n_is : suc n ≡ n + 1 = omega arith in
        ap (λ m. filter p (range_with_len 0 m)) n_is ∙ ap (filter p) (range-more n) ∙ filter-append p (range_with_len 0 n) (n ∷ [])

-- one place more
pub passing-more : (p : ℕ → Bool) (n : ℕ) (b : Bool) → p n ≡ b → length (filter p (range_with_len 0 (n + 1)))
    ≡ length (filter p (range_with_len 0 n)) + one_if b
passing-more p n b e =
    ap (λ xs. length (filter p xs)) (range-more n) ∙ ap length (filter-append p (range_with_len 0 n) (n ∷ []))
    ∙ length-append (filter p (range_with_len 0 n)) (filter p (n ∷ [])) ∙ ap (λ k. length (filter p (range_with_len 0 n)) + k) (one (p n) b e)
  where
    one : (c b : Bool) → c ≡ b → length (if c then n ∷ [] else []) ≡ one_if b
    one true true e = refl
    one false false e = refl
    one true false e = absurd (true≢false e)
    one false true e = absurd (false≢true e)

-- what does not pass behind a place may be left out
pub passing-front : (p : ℕ → Bool) (n more : ℕ) → ((k : ℕ) → n ≤ k → p k ≡ false)
    → filter p (range_with_len 0 (more + n)) ≡ filter p (range_with_len 0 n)
passing-front p n zero h = let e : 0 + n ≡ n = omega arith in ap (λ m. filter p (range_with_len 0 m)) e
passing-front p n (suc more) h =
    let e : suc more + n ≡ (more + n) + 1 = omega arith in
    ap (λ m. filter p (range_with_len 0 m)) e ∙ ap (filter p) (range-more (more + n))
    ∙ filter-append p (range_with_len 0 (more + n)) ((more + n) ∷ [])
    ∙ ap (λ (b : Bool). filter p (range_with_len 0 (more + n)) ++ (if b then (more + n) ∷ [] else [])) (h (more + n) (omega arith))
    ∙ append-nil (filter p (range_with_len 0 (more + n))) ∙ passing-front p n more h

-- no more pass a test than another one that each of them passes
pub passing-fewer : (p q : ℕ → Bool) (n : ℕ) → ((k : ℕ) → k < n → p k ≡ true → q k ≡ true)
    → length (filter p (range_with_len 0 n)) ≤ length (filter q (range_with_len 0 n))
passing-fewer p q zero h = omega arith
passing-fewer p q (suc n) h =
    let n_is : suc n ≡ n + 1 = omega arith in
    let rest = passing-fewer p q n (λ k lt. h k (omega (arith, lt))) in
    let here : one_if (p n) ≤ one_if (q n) = one (p n) (q n) (h n (omega arith)) in
    let a = ap (λ m. length (filter p (range_with_len 0 m))) n_is ∙ passing-more p n (p n) refl in
    let b = ap (λ m. length (filter q (range_with_len 0 m))) n_is ∙ passing-more q n (q n) refl in
    omega (arith, rest, here, a, b)
  where
    one : (a b : Bool) → (a ≡ true → b ≡ true) → one_if a ≤ one_if b
    one true true h = omega arith
    one true false h = absurd (false≢true (h refl))
    one false b h = omega arith

pub passing-few : (p : ℕ → Bool) (n : ℕ) → length (filter p (range_with_len 0 n)) ≤ n
passing-few p zero = omega arith
passing-few p (suc n) =
    let n_is : suc n ≡ n + 1 = omega arith in
    let a = ap (λ m. length (filter p (range_with_len 0 m))) n_is ∙ passing-more p n (p n) refl in
    let one : one_if (p n) ≤ 1 = at_most (p n) in
    omega (arith, passing-few p n, a, one)
  where
    at_most : (b : Bool) → one_if b ≤ 1
    at_most true = omega arith
    at_most false = omega arith

-- and fewer, where one of them does not pass the first
pub passing-grows : (p q : ℕ → Bool) (n b : ℕ) → b < n → ((k : ℕ) → k < n → p k ≡ true → q k ≡ true) → p b ≡ false → q b ≡ true
    → length (filter p (range_with_len 0 n)) < length (filter q (range_with_len 0 n))
passing-grows p q zero b lt h fails passes = absurd (omega (arith, lt))
passing-grows p q (suc n) b lt h fails passes =
    let n_is : suc n ≡ n + 1 = omega arith in
    let a = ap (λ m. length (filter p (range_with_len 0 m))) n_is ∙ passing-more p n (p n) refl in
    let c = ap (λ m. length (filter q (range_with_len 0 m))) n_is ∙ passing-more q n (q n) refl in
    elim (le_or_gt n b) [
      | inl here ↦ (let b_is : b ≡ n = omega (arith, here, lt) in
          let none : one_if (p n) ≡ 0 = ap (λ (b : Bool). one_if b) (ap p (sym b_is) ∙ fails) in
          let some : one_if (q n) ≡ 1 = ap (λ (b : Bool). one_if b) (ap q (sym b_is) ∙ passes) in
          omega (arith, passing-fewer p q n (λ k l. h k (omega (arith, l))), a, c, none, some))
      | inr before ↦ (let here : one_if (p n) ≤ one_if (q n) = one (p n) (q n) (h n (omega arith)) in
          omega (arith, passing-grows p q n b before (λ k l. h k (omega (arith, l))) fails passes, a, c, here))
    ]
  where
    one : (a b : Bool) → (a ≡ true → b ≡ true) → one_if a ≤ one_if b
    one true true h = omega arith
    one true false h = absurd (false≢true (h refl))
    one false b h = omega arith

-- ---- the visible bindings of a node
and-false : (b : Bool) → (b && false) ≡ false
and-false true = refl
and-false false = refl

pub not-visible : (rs : List Record) (n k : ℕ) → n ≤ k → is_visible rs n k ≡ false
not-visible rs n k le =
    ap (λ (b : Bool). is_local rs k && (b && not (is_inside rs k n) && option_map_or (λ p. is_inside rs p n) (at rs k).parent false)) (le-ltb k n le)
    ∙ and-false (is_local rs k)

-- they come before it
pub visible-before : (rs : List Record) (n : ℕ) → n ≤ length rs → visible_at rs n ≡ filter (is_visible rs n) (range_with_len 0 n)
visible-before rs n le =
    let size : length rs ≡ (length rs - n) + n = omega (arith, le) in
    ap (λ m. filter (is_visible rs n) (range_with_len 0 m)) size
    ∙ passing-front (is_visible rs n) n (length rs - n) (λ k. not-visible rs n k)

module _ (rs : List Record) (tree : IsTree rs) where
  pub open-visible : (n p b : ℕ) → n < length rs → (at rs n).parent ≡ Some p → b < n → is_open rs p b ≡ is_visible rs n b
  open-visible n p b w e lt = ap (λ (x : Bool). is_local rs b && x) (same (is_place p (at rs b).parent || reaches rs b p) (reaches rs b n) there back)
    where
      before : p < n
      before = parent-before rs tree n p w e

      there : (is_place p (at rs b).parent || reaches rs b p) ≡ true → reaches rs b n ≡ true
      there h =
          elim (or_cases (is_place p (at rs b).parent) (reaches rs b p) h) [
            | inl own ↦ reaches-to rs tree b n w (child-reaches rs tree b n p w e lt (is_place-true p (at rs b).parent own))
            | inr outer ↦ reaches-to rs tree b n w (reaches-outer rs tree b n p w e (reaches-of rs tree b p (omega (arith, before, w)) outer))
          ]

      back : reaches rs b n ≡ true → (is_place p (at rs b).parent || reaches rs b p) ≡ true
      back h =
          elim (reaches-inner rs tree b n p w e (reaches-of rs tree b n w h)) [
            | inl own ↦ or_left (is_place p (at rs b).parent) (reaches rs b p) (place-is p (at rs b).parent own)
            | inr outer ↦ or_right (is_place p (at rs b).parent) (reaches rs b p) (reaches-to rs tree b p (omega (arith, before, w)) outer)
          ]

  -- to the next child of its parent as many are visible as are open there
  pub opened-visible : (n p : ℕ) → n < length rs → (at rs n).parent ≡ Some p → opened rs p n ≡ length (visible_at rs n)
  opened-visible n p w e =
      let le : n ≤ length rs = omega (arith, w) in
      ap length (passing-same (is_open rs p) (is_visible rs n) n (λ b lt. open-visible n p b w e lt)) ∙ sym (ap length (visible-before rs n le))

  -- inside a node that has no child yet those are open that are visible at it
  pub opened-own : (n : ℕ) → n < length rs → opened rs n (n + 1) ≡ length (visible_at rs n)
  opened-own n w =
      let le : n ≤ length rs = omega (arith, w) in
      let none : is_open rs n n ≡ false = ap (λ (x : Bool). is_local rs n && x) (closed n (omega arith) (omega (arith, w))) ∙ and-false (is_local rs n) in
      let more = passing-more (is_open rs n) n false none in
      let all : length (filter (is_open rs n) (range_with_len 0 n)) ≡ length (visible_at rs n)
      = ap length (passing-same (is_open rs n) (is_visible rs n) n (λ b lt. ap (λ (x : Bool). is_local rs b && x) (alone b lt)))
      ∙ sym (ap length (visible-before rs n le)) in
      omega (arith, more, all)
    where
      no-child : (b : ℕ) → b ≤ n → (is_place n (at rs b).parent) ≡ false
      no-child b le = refuted (is_place n (at rs b).parent) (λ h. omega (
        arith,
        le,
        parent-before rs tree b n (omega (
          arith,
          le,
          w,
        )) (is_place-true n (at rs b).parent h),
      ))
        where
          refuted : (b : Bool) → (b ≡ true → ⊥) → b ≡ false
          refuted true h = absurd (h refl)
          refuted false h = refl

      alone : (b : ℕ) → b < n → (is_place n (at rs b).parent || reaches rs b n) ≡ reaches rs b n
      alone b lt = let le : b ≤ n = omega (arith, lt) in ap (λ (x : Bool). x || reaches rs b n) (no-child b le)

      closed : (b : ℕ) → n ≤ b → b ≤ n → (is_place n (at rs b).parent || reaches rs b n) ≡ false
      closed b from upto =
          ap (λ (x : Bool). x || reaches rs b n) (no-child b upto)
          ∙ ap (λ (x : Bool). x && not (is_inside rs b n) && option_map_or (λ p. is_inside rs p n) (at rs b).parent false) (le-ltb b n from)

  -- the next node is open to what comes inside its parent alone
  pub opened-more : (n a : ℕ) → a ≤ n → (b : Bool) → is_local rs n ≡ b → (c : Bool) → is_place a (at rs n).parent ≡ c
      → opened rs a (n + 1) ≡ opened rs a n + one_if (b && c)
  opened-more n a le b e c f =
      passing-more (is_open rs a) n (b && c) (ap (λ (x : Bool). x && (is_place a (at rs n).parent || reaches rs n a)) e
      ∙ ap (λ (x : Bool). b && (x || reaches rs n a)) f
      ∙ ap (λ (x : Bool). b && (c || (x && not (is_inside rs n a) && option_map_or (λ p. is_inside rs p a) (at rs n).parent false))) (le-ltb n a le)
      ∙ or-false b c)
    where
      or-false : (b c : Bool) → (b && (c || false)) ≡ (b && c)
      or-false b true = refl
      or-false b false = refl

  -- a binding that is visible somewhere has a slot below the number of those that are
  pub slot-below : (n b : ℕ) → n < length rs → is_visible rs n b ≡ true → slot_of rs b < length (visible_at rs n)
  slot-below n b w seen =
      let parts = and_parts (is_local rs b) (reaches rs b n) seen in
      let r = reaches-of rs tree b n w parts.1 in
      passing-grows (is_visible rs b) (is_visible rs n) (length rs) b (omega (arith, r.before, w))
      (λ k lt h. (let q = and_parts (is_local rs k) (reaches rs k b) h in
      and_from (is_local rs k) (reaches rs k n) q.0
      (reaches-to rs tree k n w (reaches-on rs tree k b n w (reaches-of rs tree k b (omega (arith, r.before, w)) q.1) r))))
      (not-visible rs b b (omega arith)) seen

-- a root has none
pub none-visible : (rs : List Record) (n : ℕ) → n < length rs → (at rs n).parent ≡ None → length (visible_at rs n) ≡ 0
none-visible rs n w e =
    let le : n ≤ length rs = omega (arith, w) in
    let few : length (filter (is_visible rs n) (range_with_len 0 n)) ≤ length (filter (λ k. false) (range_with_len 0 n))
    = passing-fewer (is_visible rs n) (λ k. false) n (λ k lt h. sym (none k) ∙ h) in
    let nothing : length (filter (λ k. false) (range_with_len 0 n)) ≡ 0 = empty n in
    omega (arith, ap length (visible-before rs n le), few, nothing)
  where
    stuck : (n p : ℕ) → (at rs n).parent ≡ None → is_inside rs p n ≡ false
    stuck zero p e = refl
    stuck (suc m) p e = ap (λ (o : Option ℕ). option_map_or (λ q. q == p || climbs m rs p q) o false) e

    empty : (n : ℕ) → length (filter (λ k. false) (range_with_len 0 n)) ≡ 0
    empty n = omega (arith, passing-none n)
      where
        passing-none : (n : ℕ) → length (filter (λ k. false) (range_with_len 0 n)) ≤ 0
        passing-none zero = omega arith
        passing-none (suc n) =
            let n_is : suc n ≡ n + 1 = omega arith in
            let a = ap (λ m. length (filter (λ k. false) (range_with_len 0 m))) n_is ∙ passing-more (λ k. false) n false refl in
            omega (arith, a, passing-none n)

    none : (k : ℕ) → is_visible rs n k ≡ false
    none k = refuted (is_visible rs n k)
        (λ h. out (at rs k).parent (and_parts (nat_lt k n && not (is_inside rs k n)) (option_map_or (λ p. is_inside rs p n) (at rs k).parent false)
        (and_parts (is_local rs k) (reaches rs k n) h).1).1)
      where
        refuted : (b : Bool) → (b ≡ true → ⊥) → b ≡ false
        refuted true h = absurd (h refl)
        refuted false h = refl

        out : (o : Option ℕ) → option_map_or (λ p. is_inside rs p n) o false ≡ true → ⊥
        out None h = false≢true h
        out (Some p) h = false≢true (sym (stuck n p e) ∙ h)
