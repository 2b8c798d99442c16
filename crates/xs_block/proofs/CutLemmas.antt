-- What is left of a chain that is cut.
use Rattle.std.proofs.Common.{◌≡◌, ℕ, zero, suc, ◌+◌, ◌-◌, ◌<◌, List, [], ◌∷◌, ◌++◌, length, map, take, drop, append_assoc, refl, subst, sym, ap, ◌∙◌, arith, length-take, length-append}
use Rattle.std.proofs.lemmas.Bool.{eqb-true}
use Rattle.std.specs.Prelude.{IsTrue, nat_eq}
use Rattle.std.specs.List.{All}
use Rattle.std.proofs.lemmas.List.Elements.{All-nil, All-cons, All-head, All-tail}
use Rattle.std.proofs.lemmas.List.{append-nil}
use Rattle.xs_block.specs.Chain.{Block, blocks_of, items_of, cut, front}
use Rattle.xs_block.proofs.ChainLemmas.{blocks-append}

module _ {X : Type 0} where
  -- nothing is left of no block
  pub cut_nil : (n : ℕ) → cut {X = X} n [] ≡ []
  cut_nil zero = refl
  cut_nil (suc n) = refl

  pub cut_some : (n : ℕ) (b : Block X) (bs : List (Block X)) → 0 < n → cut n (b ∷ bs) ≡ front n b ∷ cut (n - length b.items) bs
  cut_some zero b bs some = absurd (omega (arith, some))
  cut_some (suc n) b bs some = refl

  take-join : (n : ℕ) (xs ys : List X) → take n (xs ++ ys) ≡ take n xs ++ take (n - length xs) ys
  take-join zero [] ys = refl
  take-join zero (x ∷ xs) ys = let none : zero - suc (length xs) ≡ zero = omega arith in rw none refl
  take-join (suc n) [] ys = let same : suc n - 0 ≡ suc n = omega arith in rw same refl
  take-join (suc n) (x ∷ xs) ys =
      let less : suc n - suc (length xs) ≡ n - length xs = omega arith in rw less (ap (λ v. x ∷ v) (take-join n xs ys))

  pub items-cut : (n : ℕ) (bs : List (Block X)) → items_of (cut n bs) ≡ take n (items_of bs)
  items-cut zero bs = refl
  items-cut (suc n) [] = refl
  items-cut (suc n) (b ∷ r) = ap (λ v. take (suc n) b.items ++ v) (items-cut (suc n - length b.items) r) ∙ sym (take-join (suc n) b.items (items_of r))

  pub used-cut : (n : ℕ) (bs : List (Block X)) → All (λ b. 0 < length b.items) bs → All (λ b. 0 < length b.items) (cut n bs)
  used-cut zero bs all = All-nil (λ b. 0 < length b.items)
  used-cut (suc n) [] all = all
  used-cut (suc n) (b ∷ r) all =
      let head : 0 < length b.items = All-head (λ b. 0 < length b.items) b r all in
      All-cons (λ b. 0 < length b.items) (front (suc n) b) (cut (suc n - length b.items) r) (omega (arith, head, length-take (suc n) b.items))
      (used-cut (suc n - length b.items) r (All-tail (λ b. 0 < length b.items) b r all))

  -- a chain without items has no block
  pub no-items : (bs : List (Block X)) → All (λ b. 0 < length b.items) bs → items_of bs ≡ [] → bs ≡ []
  no-items [] all none = refl
  no-items (b ∷ r) all none =
      let head : 0 < length b.items = All-head (λ b. 0 < length b.items) b r all in
      absurd (omega (arith, head, ap length none, length-append b.items (items_of r)))

  pub is-none : (n : ℕ) (bs cs : List (Block X)) → n ≡ length bs → bs ≡ cs → IsTrue (nat_eq n 0) → items_of cs ≡ []
  is-none n [] cs e v h = ap (λ b. items_of b) (sym v)
  is-none n (b ∷ r) cs e v h = let z = eqb-true n 0 h in absurd (omega (arith, e, z))

  pub no-is : (n : ℕ) (bs cs : List (Block X)) → n ≡ length bs → bs ≡ cs → All (λ b. 0 < length b.items) bs → items_of cs ≡ [] → IsTrue (nat_eq n 0)
  no-is n bs cs e v all h =
      let k : bs ≡ [] = no-items bs all (ap (λ b. items_of b) v ∙ h) in
      let z : n ≡ 0 = omega (arith, e, ap (λ b. length b) k) in
      subst (λ m. IsTrue (nat_eq m 0)) (sym z) refl

  cut-next : (left m : ℕ) (kept self kept2 first block rest : List (Block X)) → 0 < left → 0 < length self → first ≡ take 1 self → rest ≡ drop 1 self →
      block ≡ map (front left) first → m ≡ left - length (items_of first) → kept2 ≡ kept ++ block → kept2 ++ cut m rest ≡ kept ++ cut left self
  cut-next left m kept [] kept2 first block rest pos some f d k e j = absurd (omega (arith, some))
  cut-next left m kept (b ∷ r) kept2 first block rest pos some f d k e j =
      let n : m ≡ left - length b.items = e ∙ ap (λ v. left - length (items_of v)) f ∙ ap (λ v. left - length v) (append-nil b.items) in
      ap (λ v. v ++ cut m rest) (j ∙ ap (λ v. kept ++ v) (k ∙ ap (λ v. map (front left) v) f))
      ∙ append_assoc kept (front left b ∷ []) (cut m rest)
      ∙ ap (λ v. kept ++ v)
      (ap (λ v. front left b ∷ cut v rest) n ∙ ap (λ v. front left b ∷ cut (left - length b.items) v) d ∙ sym (cut_some left b r pos))

  count-next : (left : ℕ) (kept self kept2 first block rest : List (Block X)) → 0 < length self → first ≡ take 1 self → rest ≡ drop 1 self →
      block ≡ map (front left) first → kept2 ≡ kept ++ block → length kept2 + length rest ≡ length kept + length self
  count-next left kept [] kept2 first block rest some f d k j = absurd (omega (arith, some))
  count-next left kept (b ∷ r) kept2 first block rest some f d k j =
      let e : kept2 ≡ kept ++ front left b ∷ [] = j ∙ ap (λ v. kept ++ v) (k ∙ ap (λ v. map (front left) v) f) in
      omega (arith, ap (λ v. length v) e, length-append kept (front left b ∷ []), ap (λ v. length v) d)

  blocks-next : (left : ℕ) (kept self kept2 first block rest : List (Block X)) → 0 < length self → first ≡ take 1 self → rest ≡ drop 1 self →
      block ≡ map (front left) first → kept2 ≡ kept ++ block → blocks_of kept2 + blocks_of rest ≡ blocks_of kept + blocks_of self
  blocks-next left kept [] kept2 first block rest some f d k j = absurd (omega (arith, some))
  blocks-next left kept (b ∷ r) kept2 first block rest some f d k j =
      let e : kept2 ≡ kept ++ front left b ∷ [] = j ∙ ap (λ v. kept ++ v) (k ∙ ap (λ v. map (front left) v) f) in
      omega (arith, ap (λ v. blocks_of v) e, blocks-append kept (front left b ∷ []), ap (λ v. blocks_of v) d)

  -- the first block that is left was cut, and kept
  pub cuts-next : (left m : ℕ) (kept self kept2 first block rest all : List (Block X)) (n : ℕ) → 0 < left → 0 < length self → first ≡ take 1 self →
      rest ≡ drop 1 self → block ≡ map (front left) first → m ≡ left - length (items_of first) → kept2 ≡ kept ++ block →
      (kept ++ cut left self ≡ cut n all) × ((length kept + length self ≡ length all) × (blocks_of kept + blocks_of self ≡ blocks_of all)) →
      (kept2 ++ cut m rest ≡ cut n all) × ((length kept2 + length rest ≡ length all) × (blocks_of kept2 + blocks_of rest ≡ blocks_of all))
  cuts-next left m kept self kept2 first block rest all n pos some f d k e j i = (
    cut-next left m kept self kept2 first block rest pos some f d k e j ∙ i.0,
    (count-next left kept self kept2 first block rest some f d k j ∙ i.1.0, blocks-next left kept self kept2 first block rest some f d k j ∙ i.1.1),
  )
