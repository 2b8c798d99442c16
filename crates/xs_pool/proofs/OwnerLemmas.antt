-- Owners of deques, from which rights are split off, and to which they come back.
use Rattle.std.proofs.Common.{◌≡◌, ◌<◌, ◌+◌, ◌-◌, ℕ, List, [], ◌∷◌, ◌++◌, length, get_or, set, map, sym, ap, ◌∙◌, arith}
use Rattle.crossbeam_deque.specs.Handles.{IsPassOf, SameWorker, worker_deque}
use Rattle.std.specs.declared.alloc.Global.{Global}
use Rattle.atomic_blocks.specs.Lent.{RowsId}
use Rattle.xs_core.specs.Good.{total}
use Rattle.xs_core.proofs.PartsLemmas.{there}
use Rattle.xs_core.proofs.SumLemmas.{total-push, total-set}
use Rattle.xs_pool.specs.declared.rule.Moves.{Moves}
use Rattle.xs_pool.specs.Rule.{joined, moves}
use Rattle.xs_pool.specs.Rights.{deque_of_right, moves_by, stolen_by, AreRights, DequeId, IsRight, RightOf}
use Rattle.xs_pool.specs.Owners.{all_given, all_taken, given_of, moves_of, parts_of, taken_of, IsOpen, OwnerOf}
use Rattle.xs_pool.proofs.ListLemmas.{each-last, image-at, image-set}
use Rattle.xs_pool.proofs.RightLemmas.{of-deque}
use Rattle.xs_pool.proofs.RunLemmas.{total-join}

pair-same : (a c : RowsId) (b d : Global) → a ≡ c → b ≡ d → ◌≡◌ {A = DequeId} (a, b) (c, d)
pair-same a c b d e f =
    let p : ◌≡◌ {A = DequeId} (a, b) (c, b) = ap {B = DequeId} (λ (x : RowsId). (x, b)) e in
    let q : ◌≡◌ {A = DequeId} (c, b) (c, d) = ap {B = DequeId} (λ (y : Global). (c, y)) f in
    p ∙ q

module _ {T : Type 0} where
  pub new-right : (r : RightOf T) → moves_by r ≡ moves 1 [] [] → (d : DequeId) → IsPassOf d r → IsRight r
  new-right r e d p = record { hand = p.2; spare = p.3; part = ap (λ (v : Moves T). v.parts) e; given = ap (λ (v : Moves T). v.given) e }

  last-right : (ids : List DequeId) (rs : List (RightOf T)) (r : RightOf T) → AreRights ids (rs ++ r ∷ []) → IsRight r
  last-right ids rs r rights = each-last (λ j x. IsRight x) rs r rights.each

  last-deque : (ids : List DequeId) (rs : List (RightOf T)) (r : RightOf T) → AreRights ids (rs ++ r ∷ []) → (d : DequeId) →
      deque_of_right r ≡ get_or ids (length rs) d
  last-deque ids rs r rights = each-last (λ j x. (d : DequeId) → deque_of_right x ≡ get_or ids j d) rs r rights.deque

module _ {T K : Type 0} where
  pub open-after : (rights : ℕ) (o n : OwnerOf T K) → rights < 64 → IsOpen rights o → SameWorker o n →
      moves_of n ≡ moves (parts_of o - 1) (given_of o) (taken_of o) → IsOpen (rights + 1) n
  open-after rights o n few i s e = record {
    last_in = s.1 ∙ i.last_in;
    parts = let a = ap (λ (v : Moves T). v.parts) e in let p = i.parts in omega arith;
    given = ap (λ (v : Moves T). v.given) e ∙ i.given;
    taken = ap (λ (v : Moves T). v.taken) e ∙ i.taken;
  }

  pub deques-stay : (os : List (OwnerOf T K)) (k : ℕ) (o n : OwnerOf T K) → k < length os → o ≡ get_or os k o → SameWorker o n →
      map worker_deque (set os k n) ≡ map worker_deque os
  deques-stay os k o n l e s = image-set worker_deque os k n o l (s.0 ∙ ap worker_deque e)

  pub of-owner : (os : List (OwnerOf T K)) (ids : List DequeId) (k : ℕ) (o : OwnerOf T K) (r : RightOf T) → map worker_deque os ≡ ids →
      k < length os → o ≡ get_or os k o → IsPassOf (worker_deque o) r → (d : DequeId) → deque_of_right r ≡ get_or ids k d
  of-owner os ids k o r e l at p d =
      pair-same _ _ _ _ p.0 p.1 ∙ ap worker_deque at ∙ sym (image-at worker_deque os k o d l) ∙ ap (λ (x : List DequeId). get_or x k d) e

  -- the last right comes back
  module _ (ids : List DequeId) (rs : List (RightOf T)) (r : RightOf T) (rights : AreRights ids (rs ++ r ∷ [])) where
    pub may-absorb : (os : List (OwnerOf T K)) (o : OwnerOf T K) → map worker_deque os ≡ ids → length rs < length os →
        o ≡ get_or os (length rs) o → IsPassOf (worker_deque o) r
    may-absorb os o e l at = of-deque (worker_deque o) r (last-right ids rs r rights)
        (last-deque ids rs r rights (worker_deque o) ∙ sym (ap (λ (x : List DequeId). get_or x (length rs) (worker_deque o)) e)
        ∙ image-at worker_deque os (length rs) o (worker_deque o) l ∙ sym (ap worker_deque at))

    pub parts-back : (o n : OwnerOf T K) → moves_of n ≡ joined (moves_of o) (moves_by r) → parts_of n ≡ parts_of o + 1
    parts-back o n e =
        let a = ap (λ (v : Moves T). v.parts) e in
        let i = last-right ids rs r rights in
        let p = i.part in
        omega arith

    pub given-back : (h : T → ℕ) (os : List (OwnerOf T K)) (k : ℕ) (o n : OwnerOf T K) → k < length os → o ≡ get_or os k o →
        moves_of n ≡ joined (moves_of o) (moves_by r) → all_given h (set os k n) ≡ all_given h os
    given-back h os k o n l at e =
        let a = total-set (λ (x : OwnerOf T K). total h (given_of x)) os k o n (there os k o l at) in
        let c = ap (λ (v : Moves T). total h v.given) e in
        let d = total-join h (given_of o) (moves_by r).given in
        let i = last-right ids rs r rights in
        let p = ap (λ (l : List T). total h l) i.given in
        omega arith

    pub taken-back : (h : T → ℕ) (os : List (OwnerOf T K)) (k : ℕ) (o n : OwnerOf T K) → k < length os → o ≡ get_or os k o →
        moves_of n ≡ joined (moves_of o) (moves_by r) → all_taken h (set os k n) + stolen_by h rs ≡ all_taken h os + stolen_by h (rs ++ r ∷ [])
    taken-back h os k o n l at e =
        let a = total-set (λ (x : OwnerOf T K). total h (taken_of x)) os k o n (there os k o l at) in
        let c = ap (λ (v : Moves T). total h v.taken) e in
        let d = total-join h (taken_of o) (moves_by r).taken in
        let p = total-push (λ (x : RightOf T). total h (moves_by x).taken) rs r in
        omega arith
