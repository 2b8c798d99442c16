-- The last block of a list of blocks.
use Rattle.std.proofs.Common.{◌≡◌, ℕ, zero, suc, ◌+◌, ◌-◌, ◌<◌, ◌==◌, Bool, true, false, if◌then◌else◌, List, [], ◌∷◌, ◌++◌, length, get_or, set, map, take, drop, refl, sym, ap, subst, ◌∙◌, arith, append_assoc, length-append}
use Rattle.std.specs.List.{All}
use Rattle.std.specs.Prelude.{Result, Ok, Err, OnOk, OnErr}
use Rattle.std.proofs.lemmas.Bool.{eq-eqb, eqb-true, true≢false}
use Rattle.std.proofs.lemmas.List.{append-nil}
use Rattle.std.proofs.lemmas.List.Concat.{flat_map-append}
use Rattle.std.proofs.lemmas.List.Elements.{All-nil, All-cons, All-head, All-tail}
use Rattle.xs_block.specs.Chain.{Block, block_slots, blocks_of, front, items_of, unsealed, sealed, sealed_block, slots_of}
use Rattle.xs_block.specs.steps.Blocks.{with_item, with_last}

slots-more : (n m : ℕ) (t : Bool) → m ≡ n + 1 → 0 < (if t then 0 else 64 - n) → (if t then 0 else 64 - m) + 1 ≡ (if t then 0 else 64 - n)
slots-more n m true e some = absurd (omega (arith, some))
slots-more n m false e some = omega (arith, e, some)

module _ {X : Type 0} where
  -- a write to the last place, of what was there and one more item
  pub set-last : (x : X) (bs : List (Block X)) (i : ℕ) (w d : Block X) → i + 1 ≡ length bs → w ≡ with_item x (get_or bs i d) → set bs i w ≡ with_last x bs
  set-last x [] i w d at is = absurd (omega (arith, at))
  set-last x (b ∷ []) zero w d at is = ap (λ v. v ∷ []) is
  set-last x (b ∷ []) (suc i) w d at is = absurd (omega (arith, at))
  set-last x (b ∷ c ∷ r) zero w d at is = absurd (omega (arith, at))
  set-last x (b ∷ c ∷ r) (suc i) w d at is = ap (λ v. b ∷ v) (set-last x (c ∷ r) i w d (omega (arith, at)) is)

  -- the slots of the last place
  pub slots-last : (bs : List (Block X)) (i : ℕ) (d : Block X) → i + 1 ≡ length bs → slots_of bs ≡ slots_of (get_or bs i d ∷ [])
  slots-last [] i d at = absurd (omega (arith, at))
  slots-last (b ∷ []) zero d at = refl
  slots-last (b ∷ []) (suc i) d at = absurd (omega (arith, at))
  slots-last (b ∷ c ∷ r) zero d at = absurd (omega (arith, at))
  slots-last (b ∷ c ∷ r) (suc i) d at = slots-last (c ∷ r) i d (omega (arith, at))

  pub items-with_last : (x : X) (bs : List (Block X)) → 0 < length bs → items_of (with_last x bs) ≡ items_of bs ++ x ∷ []
  items-with_last x [] some = absurd (omega (arith, some))
  items-with_last x (b ∷ []) some = append-nil (b.items ++ x ∷ []) ∙ ap (λ v. v ++ x ∷ []) (sym (append-nil b.items))
  items-with_last x (b ∷ c ∷ r) some =
      ap (λ v. b.items ++ v) (items-with_last x (c ∷ r) (omega arith)) ∙ sym (append_assoc b.items (items_of (c ∷ r)) (x ∷ []))

  pub length-with_last : (x : X) (bs : List (Block X)) → length (with_last x bs) ≡ length bs
  length-with_last x [] = refl
  length-with_last x (b ∷ []) = refl
  length-with_last x (b ∷ c ∷ r) = ap (λ n. suc n) (length-with_last x (c ∷ r))

  -- a block in front changes no slots
  pub slots-cons : (b : Block X) (bs : List (Block X)) → 0 < length bs → slots_of (b ∷ bs) ≡ slots_of bs
  slots-cons b [] some = absurd (omega (arith, some))
  slots-cons b (c ∷ r) some = refl

  pub slots-with_last : (x : X) (bs : List (Block X)) → 0 < slots_of bs → slots_of (with_last x bs) + 1 ≡ slots_of bs
  slots-with_last x [] some = absurd (omega (arith, some))
  slots-with_last x (b ∷ []) some = slots-more (length b.items) (length (b.items ++ x ∷ [])) b.is_sealed (length-append b.items (x ∷ [])) some
  slots-with_last x (b ∷ c ∷ r) some =
      ap (λ n. n + 1) (slots-cons b (with_last x (c ∷ r)) (omega (arith, length-with_last x (c ∷ r)))) ∙ slots-with_last x (c ∷ r) some

  -- where there are slots there is a block
  pub slots-some : (bs : List (Block X)) → 0 < slots_of bs → 0 < length bs
  slots-some [] some = absurd (omega (arith, some))
  slots-some (b ∷ r) some = omega arith

  pub used-with_last : (x : X) (bs : List (Block X)) → All (λ b. 0 < length b.items) bs → All (λ b. 0 < length b.items) (with_last x bs)
  used-with_last x [] all = all
  used-with_last x (b ∷ []) all =
      All-cons (λ b. 0 < length b.items) (with_item x b) [] (omega (arith, length-append b.items (x ∷ []))) (All-nil (λ b. 0 < length b.items))
  used-with_last x (b ∷ c ∷ r) all =
      All-cons (λ b. 0 < length b.items) b (with_last x (c ∷ r)) (All-head (λ b. 0 < length b.items) b (c ∷ r) all)
      (used-with_last x (c ∷ r) (All-tail (λ b. 0 < length b.items) b (c ∷ r) all))

  pub slots-append : (bs : List (Block X)) (b : Block X) → slots_of (bs ++ b ∷ []) ≡ slots_of (b ∷ [])
  slots-append [] b = refl
  slots-append (a ∷ []) b = refl
  slots-append (a ∷ c ∷ r) b = slots-append (c ∷ r) b

  pub items-append : (bs cs : List (Block X)) → items_of (bs ++ cs) ≡ items_of bs ++ items_of cs
  items-append bs cs = flat_map-append (λ (b : Block X). b.items) bs cs

  pub earlier-with_last : (x : X) (bs : List (Block X)) (i : ℕ) → i + 1 ≡ length bs → take i (with_last x bs) ≡ take i bs
  earlier-with_last x [] i at = absurd (omega (arith, at))
  earlier-with_last x (b ∷ []) zero at = refl
  earlier-with_last x (b ∷ []) (suc i) at = absurd (omega (arith, at))
  earlier-with_last x (b ∷ c ∷ r) zero at = absurd (omega (arith, at))
  earlier-with_last x (b ∷ c ∷ r) (suc i) at = ap (λ v. b ∷ v) (earlier-with_last x (c ∷ r) i (omega (arith, at)))

  -- ---- the blocks of a pool

  pub blocks-append : (bs cs : List (Block X)) → blocks_of (bs ++ cs) ≡ blocks_of bs + blocks_of cs
  blocks-append [] cs = omega arith
  blocks-append (b ∷ r) cs = omega (arith, blocks-append r cs)

  pub blocks-with_last : (x : X) (bs : List (Block X)) → blocks_of (with_last x bs) ≡ blocks_of bs
  blocks-with_last x [] = refl
  blocks-with_last x (b ∷ []) = refl
  blocks-with_last x (b ∷ c ∷ r) = omega (arith, blocks-with_last x (c ∷ r))

  -- ---- a chain that is sealed

  -- a write to the last place, of the block there as it is sealed
  pub set-sealed : (bs : List (Block X)) (i : ℕ) (w d : Block X) → i + 1 ≡ length bs → w ≡ sealed_block (get_or bs i d) → set bs i w ≡ sealed bs
  set-sealed [] i w d at is = absurd (omega (arith, at))
  set-sealed (b ∷ []) zero w d at is = ap (λ v. v ∷ []) is
  set-sealed (b ∷ []) (suc i) w d at is = absurd (omega (arith, at))
  set-sealed (b ∷ c ∷ r) zero w d at is = absurd (omega (arith, at))
  set-sealed (b ∷ c ∷ r) (suc i) w d at is = ap (λ v. b ∷ v) (set-sealed (c ∷ r) i w d (omega (arith, at)) is)

  same-items : (b : Block X) (t : Bool) → (if t then b else record { items = b.items; is_sealed = true }).items ≡ b.items
  same-items b true = refl
  same-items b false = refl

  pub items-sealed : (bs : List (Block X)) → items_of (sealed bs) ≡ items_of bs
  items-sealed [] = refl
  items-sealed (b ∷ []) = ap (λ v. v ++ []) (same-items b (slots_of (b ∷ []) == 0))
  items-sealed (b ∷ c ∷ r) = ap (λ v. b.items ++ v) (items-sealed (c ∷ r))

  pub used-sealed : (bs : List (Block X)) → All (λ b. 0 < length b.items) bs → All (λ b. 0 < length b.items) (sealed bs)
  used-sealed [] all = all
  used-sealed (b ∷ []) all =
      let h : 0 < length b.items = All-head (λ b. 0 < length b.items) b [] all in
      All-cons (λ b. 0 < length b.items) (sealed_block b) []
      (omega (arith, h, ap (λ v. length v) (same-items b (slots_of (b ∷ []) == 0)))) (All-nil (λ b. 0 < length b.items))
  used-sealed (b ∷ c ∷ r) all =
      All-cons (λ b. 0 < length b.items) b (sealed (c ∷ r)) (All-head (λ b. 0 < length b.items) b (c ∷ r) all)
      (used-sealed (c ∷ r) (All-tail (λ b. 0 < length b.items) b (c ∷ r) all))

  pub length-sealed : (bs : List (Block X)) → length (sealed bs) ≡ length bs
  length-sealed [] = refl
  length-sealed (b ∷ []) = refl
  length-sealed (b ∷ c ∷ r) = ap (λ n. suc n) (length-sealed (c ∷ r))

  -- ---- the first block

  pub blocks-first : (bs : List (Block X)) → blocks_of (take 1 bs) + blocks_of (drop 1 bs) ≡ blocks_of bs
  blocks-first [] = refl
  blocks-first (b ∷ r) = omega arith

  pub blocks-front : (n : ℕ) (bs : List (Block X)) → blocks_of (map (front n) bs) ≡ blocks_of bs
  blocks-front n [] = refl
  blocks-front n (b ∷ r) = omega (arith, blocks-front n r)

  pub emptied : (bs : List (Block X)) → length bs ≡ 1 → blocks_of bs ≡ 1 → map (front 0) bs ≡ unsealed [] ∷ []
  emptied [] one some = absurd (omega (arith, one))
  emptied (b ∷ []) one some = not-sealed b b.is_sealed refl some
    where
      not-sealed : (b : Block X) (t : Bool) → b.is_sealed ≡ t → (if t then 0 else 1) + 0 ≡ 1 → front 0 b ∷ [] ≡ unsealed [] ∷ []
      not-sealed b true e h = absurd (omega (arith, h))
      not-sealed b false e h = ap (λ (t : Bool). record { items = []; is_sealed = t } ∷ []) e
  emptied (b ∷ c ∷ r) one some = absurd (omega (arith, one))

  none-free : (b c : Block X) (n : ℕ) (t : Bool) → (n == 0) ≡ t → n ≡ 0 → (if t then b else c) ≡ b
  none-free b c n true e z = refl
  none-free b c n false e z = absurd (true≢false (sym (eq-eqb n 0 z) ∙ e))

  -- without free slots it is as it was
  pub sealed-none : (bs : List (Block X)) → slots_of bs ≡ 0 → sealed bs ≡ bs
  sealed-none [] z = refl
  sealed-none (b ∷ []) z =
      ap (λ v. v ∷ []) (none-free b (record { items = b.items; is_sealed = true }) (slots_of (b ∷ [])) (slots_of (b ∷ []) == 0) refl z)
  sealed-none (b ∷ c ∷ r) z = ap (λ v. b ∷ v) (sealed-none (c ∷ r) z)

  -- a block less, where it has free slots
  pub blocks-sealed : (bs : List (Block X)) → 0 < slots_of bs → 1 + blocks_of (sealed bs) ≡ blocks_of bs
  blocks-sealed [] some = absurd (omega (arith, some))
  blocks-sealed (b ∷ []) some =
      omega (arith, fewer b (block_slots b) (block_slots b == 0) refl some, counted (64 - length b.items) b.is_sealed some)
    where
      fewer : (b : Block X) (n : ℕ) (t : Bool) → (n == 0) ≡ t → 0 < n → blocks_of ((if t then b else record { items = b.items; is_sealed = true }) ∷ []) ≡ 0
      fewer b n true e h = let z = eqb-true n 0 e in absurd (omega (arith, z, h))
      fewer b n false e h = refl

      counted : (n : ℕ) (t : Bool) → 0 < (if t then 0 else n) → ◌≡◌ {A = ℕ} (if t then 0 else 1) 1
      counted n true h = absurd (omega (arith, h))
      counted n false h = refl
  blocks-sealed (b ∷ c ∷ r) some = omega (arith, blocks-sealed (c ∷ r) some)

  -- sealed, or as it was: no block is without items
  pub used-either : {Y E : Type 0} (r : Result Y E) (new old : List (Block X)) → OnOk r (new ≡ sealed old) → OnErr r (new ≡ old) →
      All (λ b. 0 < length b.items) old → All (λ b. 0 < length b.items) new
  used-either (Ok y) new old ok err all = subst (λ bs. All (λ b. 0 < length b.items) bs) (sym ok) (used-sealed old all)
  used-either (Err e) new old ok err all = subst (λ bs. All (λ b. 0 < length b.items) bs) (sym err) all

  -- the block that its items were in is free
  pub all-emptied : (free : List (Block X)) → free ≡ unsealed [] ∷ [] → All (λ b. b ≡ unsealed []) free
  all-emptied free e =
      subst (λ bs. All (λ b. b ≡ unsealed []) bs) (sym e)
      (All-cons (λ (b : Block X). b ≡ unsealed []) (unsealed []) [] refl (All-nil (λ (b : Block X). b ≡ unsealed [])))

  pub one-less : (free new old : List (Block X)) → free ≡ unsealed [] ∷ [] → new ≡ sealed old → 0 < slots_of old → length free + blocks_of new ≡ blocks_of old
  one-less free new old e s some = omega (arith, ap length e, ap (λ bs. blocks_of bs) s, blocks-sealed old some)
