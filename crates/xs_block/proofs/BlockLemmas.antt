-- The last vector of a list of vectors, as the last block of what they hold.
use Rattle.std.proofs.Common.{◌≡◌, ℕ, zero, suc, ◌+◌, ◌-◌, ◌<◌, ◌==◌, Bool, true, false, not, List, [], ◌∷◌, ◌++◌, length, get_or, map}
use Rattle.std.proofs.Common.{if◌then◌else◌, refl, sym, ap, subst, ◌∙◌, arith}
use Rattle.std.specs.Prelude.{Vec, slice_index_or, slice_set, Result, Ok, Err, OnErr}
use Rattle.std.specs.Vec.{vec_items, vec_len, vec_capacity}
use Rattle.std.proofs.lemmas.Bool.{eqb-true}
use Rattle.std.proofs.Math.Seq.{map-set_same}
use Rattle.std.proofs.lemmas.List.{length-map, map-set}
use Rattle.xs_block.specs.Chain.{Block, block_slots, sealed, sealed_block, slots_of, unsealed}
use Rattle.xs_block.specs.steps.Blocks.{block_of, with_item, with_last}
use Rattle.xs_block.proofs.ChainLemmas.{set-last, set-sealed, slots-last}

module _ {X : Type 0} where
  abbrev block : List X → Bool → Block X
  block xs b = record { items = xs; is_sealed = b }

  -- a block by its items and its room
  held : (xs ys : List X) (m n : ℕ) → xs ≡ ys → m ≡ n → block xs (not (m == 64)) ≡ block ys (not (n == 64))
  held xs ys m n e h = ap (λ v. block v (not (m == 64))) e ∙ ap (λ k. block ys (not (k == 64))) h

room-in : (room len : ℕ) (b : Bool) → (room == 64) ≡ b → 0 < (if not b then 0 else 64 - len) → (room ≡ 64) × (len < 64)
room-in room len true e h = (eqb-true room 64 e, omega (arith, h))
room-in room len false e h = absurd (omega (arith, h))

module _ {X A : Type 0} where
  at-map : (vs : List (Vec X A)) (i : ℕ) (v : Vec X A) → get_or (map block_of vs) i (block_of v) ≡ block_of (get_or vs i v)
  at-map [] i v = refl
  at-map (w ∷ vs) zero v = refl
  at-map (w ∷ vs) (suc i) v = at-map vs i v

  at-last : (vs : List (Vec X A)) → 0 < length vs → (length vs - 1) + 1 ≡ length (map (block_of {X = X} {A = A}) vs)
  at-last vs some = omega (arith, some, length-map vs (block_of {X = X} {A = A}))

  last-is : (vs : List (Vec X A)) (v : Vec X A) → v ≡ slice_index_or vs (length vs - 1) v →
      get_or (map block_of vs) (length vs - 1) (block_of v) ≡ block_of v
  last-is vs v is = at-map vs (length vs - 1) v ∙ ap (λ u. block_of u) (sym is)

  pub slots_vec : (vs : List (Vec X A)) (v : Vec X A) → 0 < length vs → v ≡ slice_index_or vs (length vs - 1) v →
      slots_of (map block_of vs) ≡ slots_of (block_of v ∷ [])
  slots_vec vs v some is =
      slots-last (map block_of vs) (length vs - 1) (block_of v) (at-last vs some) ∙ ap (λ b. slots_of (b ∷ [])) (last-is vs v is)

  pub slots_block : (vs : List (Vec X A)) (v : Vec X A) → 0 < slots_of (map block_of vs) → 0 < length vs → v ≡ slice_index_or vs (length vs - 1) v →
      0 < block_slots (block_of v)
  slots_block vs v slots some is = subst (λ n. 0 < n) (slots_vec vs v some is) slots

  pub room_vec : (vs : List (Vec X A)) (v : Vec X A) → 0 < slots_of (map block_of vs) → 0 < length vs → v ≡ slice_index_or vs (length vs - 1) v →
      vec_len v < vec_capacity v
  room_vec vs v slots some is =
      let r = room-in (vec_capacity v) (length (vec_items v)) (vec_capacity v == 64) refl (slots_block vs v slots some is) in
      omega (arith, r.0, r.1, v.ok.0)

  pub push_vec : (x : X) (vs : List (Vec X A)) (v w : Vec X A) → 0 < length vs → v ≡ slice_index_or vs (length vs - 1) v →
      vec_items w ≡ vec_items v ++ x ∷ [] → vec_capacity w ≡ vec_capacity v →
      map block_of (slice_set vs (length vs - 1) w) ≡ with_last x (map block_of vs)
  push_vec x vs v w some is more room =
      map-set block_of vs (length vs - 1) w
      ∙ set-last x (map block_of vs) (length vs - 1) (block_of w) (block_of v) (at-last vs some)
      (held (vec_items w) (vec_items v ++ x ∷ []) (vec_capacity w) (vec_capacity v) more room ∙ ap (λ b. with_item x b) (sym (last-is vs v is)))

  pub seal_last : (vs : List (Vec X A)) (v w : Vec X A) → 0 < length vs → v ≡ slice_index_or vs (length vs - 1) v →
      block_of w ≡ sealed_block (block_of v) → map block_of (slice_set vs (length vs - 1) w) ≡ sealed (map block_of vs)
  seal_last vs v w some is e =
      map-set block_of vs (length vs - 1) w
      ∙ set-sealed (map block_of vs) (length vs - 1) (block_of w) (block_of v) (at-last vs some) (e ∙ ap (λ b. sealed_block b) (sym (last-is vs v is)))

  pub keep_last : (vs : List (Vec X A)) (v w : Vec X A) → v ≡ slice_index_or vs (length vs - 1) v → block_of w ≡ block_of v →
      map block_of (slice_set vs (length vs - 1) w) ≡ map block_of vs
  keep_last vs v w is e = map-set_same block_of vs (length vs - 1) w v (e ∙ ap (λ u. block_of u) is)

  pub one_vec : (us : List (Vec X A)) (w : Vec X A) → us ≡ [] → block_of w ≡ unsealed [] → map block_of (us ++ w ∷ []) ≡ unsealed [] ∷ []
  one_vec us w none e = ap (λ ts. map block_of (ts ++ w ∷ [])) none ∙ ap (λ b. b ∷ []) e

pub on-err : {Y E P : Type 0} (r : Result Y E) → P → OnErr r P
on-err (Ok y) p = tt
on-err (Err e) p = p
