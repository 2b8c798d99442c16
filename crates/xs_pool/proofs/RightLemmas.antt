-- Rights to take from deques, before and after a task was taken.
use Rattle.std.proofs.Common.{◌≡◌, ◌<◌, ◌≤◌, ◌+◌, ◌⊎◌, ⊎_elim, ℕ, List, [], ◌∷◌, ◌++◌, length, get_or, set, map, sym, ap, ◌∙◌, subst, arith}
use Rattle.std.proofs.lemmas.Bool.{true≢false}
use Rattle.crossbeam_deque.specs.Steals.{MatchSteal, is_success}
use Rattle.crossbeam_deque.specs.declared.steal.Steal.{Steal}
use Rattle.crossbeam_deque.specs.declared.steal.Steal.TheVariants.{Empty, Success, Retry}
use Rattle.crossbeam_deque.specs.declared.handles.Stealer.{Stealer}
use Rattle.crossbeam_deque.specs.Handles.{IsPassOf, SamePass, stealer_deque}
use Rattle.std.specs.declared.alloc.Global.{Global}
use Rattle.xs_core.specs.Good.{total}
use Rattle.xs_core.proofs.PartsLemmas.{there}
use Rattle.xs_core.proofs.SumLemmas.{total-set}
use Rattle.xs_pool.specs.declared.rule.Moves.{Moves}
use Rattle.xs_pool.specs.declared.rule.Balance.{Balance}
use Rattle.xs_pool.specs.Rights.{deque_of_right, moves_by, stolen_by, AreRights, DequeId, IsRight, RightOf}
use Rattle.xs_pool.proofs.ListLemmas.{each-before, each-push, each-set, image-at}

module _ {T : Type 0} where
  pub of-deque : (d : DequeId) (r : RightOf T) → IsRight r → deque_of_right r ≡ d → IsPassOf d r
  of-deque d r i e = (ap (λ (x : DequeId). x.0) e, ap (λ (x : DequeId). x.1) e, i.hand, i.spare)

  same-deque : (r s : RightOf T) → SamePass r s → deque_of_right s ≡ deque_of_right r
  same-deque r s p = let a = p.0 in let b = p.1 in cc

  -- one right is another one of the same deque
  rights-set : (ids : List DequeId) (rs : List (RightOf T)) (k : ℕ) (s : RightOf T) → AreRights ids rs → IsRight s →
      ((d : DequeId) → deque_of_right s ≡ get_or ids k d) → AreRights ids (set rs k s)
  rights-set ids rs k s a i e = record {
    each = each-set (λ j r. IsRight r) rs k s (λ j d l n. a.each j d l) i;
    deque = each-set (λ j r. (d : DequeId) → deque_of_right r ≡ get_or ids j d) rs k s (λ j d l n. a.deque j d l) e;
  }

  pub rights-more : (ids : List DequeId) (rs : List (RightOf T)) (s : RightOf T) → AreRights ids rs → IsRight s →
      ((d : DequeId) → deque_of_right s ≡ get_or ids (length rs) d) → AreRights ids (rs ++ s ∷ [])
  rights-more ids rs s a i e = record {
    each = each-push (λ j r. IsRight r) rs s a.each i;
    deque = each-push (λ j r. (d : DequeId) → deque_of_right r ≡ get_or ids j d) rs s a.deque e;
  }

  pub rights-before : (ids : List DequeId) (rs : List (RightOf T)) (s : RightOf T) → AreRights ids (rs ++ s ∷ []) → AreRights ids rs
  rights-before ids rs s a = record {
    each = each-before (λ j r. IsRight r) rs s a.each;
    deque = each-before (λ j r. (d : DequeId) → deque_of_right r ≡ get_or ids j d) rs s a.deque;
  }

-- a thief takes from the deque of an index with the right of that index
module _ {T K : Type 0} (thieves : List (Stealer T Global (Moves T) (Balance K))) (rs : List (RightOf T)) (k : ℕ) (r : RightOf T)
    (rights : AreRights (map stealer_deque thieves) rs) (lt : k < length rs) (at : r ≡ get_or rs k r) where
  is-right : IsRight r
  is-right = subst IsRight (sym at) (rights.each k r lt)

  in-deque : (d : DequeId) → deque_of_right r ≡ get_or (map stealer_deque thieves) k d
  in-deque d = ap deque_of_right at ∙ rights.deque k r lt d

  pub of-thief : (t : Stealer T Global (Moves T) (Balance K)) → length rs ≤ length thieves → t ≡ get_or thieves k t → IsPassOf (stealer_deque t) r
  of-thief t few e = of-deque (stealer_deque t) r is-right
      (in-deque (stealer_deque t) ∙ image-at stealer_deque thieves k t (stealer_deque t) (omega (arith, lt, few)) ∙ sym (ap stealer_deque e))

  pub has-part : 0 < (moves_by r).parts
  has-part = let p = is-right.part in omega arith

  pub rights-after : (s : RightOf T) → SamePass r s → (moves_by s).parts ≡ (moves_by r).parts → (moves_by s).given ≡ (moves_by r).given →
      AreRights (map stealer_deque thieves) (set rs k s)
  rights-after s p e f = rights-set (map stealer_deque thieves) rs k s rights
      (record { hand = p.3; spare = p.4; part = e ∙ is-right.part; given = f ∙ is-right.given }) (λ d. same-deque r s p ∙ in-deque d)

pub stolen-set : {T : Type 0} → (h : T → ℕ) (rs : List (RightOf T)) (k : ℕ) (r s : RightOf T) → k < length rs → r ≡ get_or rs k r →
    stolen_by h (set rs k s) + total h (moves_by r).taken ≡ stolen_by h rs + total h (moves_by s).taken
stolen-set {T} h rs k r s lt at = total-set (λ (x : RightOf T). total h (moves_by x).taken) rs k r s (there rs k r lt at)

-- a try that gave no task moved nothing
none-by : {T : Type 0} → (X : Type 0) (r : Steal T) (A B : Type 0) (C : T → Type 0) → MatchSteal r A B C → (r ≡ Empty) ⊎ (r ≡ Retry) → (A → X) → (B → X) → X
none-by X Empty A B C m w f g = f m
none-by X Retry A B C m w f g = g m
none-by {T} X (Success x) A B C m w f g =
    ⊎_elim (λ (e : Success x ≡ Empty). absurd (true≢false (ap is_success e))) (λ (e : Success x ≡ Retry). absurd (true≢false (ap is_success e))) w

pub none-stolen : {T : Type 0} → (r : Steal T) (v w : Moves T) (E F : Type 0) (C : T → Type 0) → MatchSteal r ((w ≡ v) × E) ((w ≡ v) × F) C →
    (r ≡ Empty) ⊎ (r ≡ Retry) → w ≡ v
none-stolen r v w E F C m e = none-by (w ≡ v) r ((w ≡ v) × E) ((w ≡ v) × F) C m e (λ x. x.0) (λ x. x.0)
