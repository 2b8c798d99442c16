-- Each move keeps the rule of a deque.
use Rattle.std.proofs.Common.{◌≡◌, ◌≢◌, ℕ, zero, suc, ◌+◌, ◌-◌, ◌<◌, List, [], ◌∷◌, ◌++◌, set, sym, refl, ap, subst, ⊎_elim, arith}
use Rattle.std.specs.List.{All}
use Rattle.std.proofs.lemmas.List.Elements.{All-nil, All-append}
use mathlib.Core.Option.{some, some-injective, some-ne-none}
use lib.ListN.{get_elem?}
use Rattle.crossbeam_deque.specs.Tasks.{Pushes, Takes, Pops, Finds, Forks, Merges}
use Rattle.crossbeam_deque.proofs.Lists.{at_set, at_snoc}
use Rattle.xs_core.specs.Good.{total}
use Rattle.xs_pool.specs.declared.rule.Moves.{Moves}
use Rattle.xs_pool.specs.Rule.{all_parts, joined, moves, IsBalanced, IsIdle, IsSpent, IsTaken}
use Rattle.xs_pool.proofs.ListLemmas.{all-back, all-front}
use Rattle.xs_pool.proofs.RunLemmas.{total-join}

-- a sum after a change at one place
total-there : {X : Type 0} → (f : X → ℕ) (xs : List X) (i : ℕ) (v w : X) → get_elem? xs i ≡ some v → total f (set xs i w) + f v ≡ total f xs + f w
total-there f [] i v w at = absurd (some-ne-none v (sym at))
total-there f (x ∷ xs) zero v w at = let a = ap f (some-injective x v at) in omega arith
total-there f (x ∷ xs) (suc i) v w at = let a = total-there f xs i v w at in omega arith

abbrev AreIdle : {T : Type 0} → List (Moves T) → Type 0
AreIdle {T = T} passes = (port : ℕ) (v : Moves T) → get_elem? passes port ≡ some v → IsIdle v

some-parts : {T : Type 0} → (v : Moves T) → 0 < v.parts → IsIdle v
some-parts v has h none = absurd (omega (arith, has, none))

no-moves : {T : Type 0} → (n : ℕ) → IsIdle {T = T} (moves n [] [])
no-moves n h none = (refl, refl)

idle-set : {T : Type 0} → (passes : List (Moves T)) (port : ℕ) (w : Moves T) → IsIdle w → AreIdle passes → AreIdle (set passes port w)
idle-set {T} passes port w mine others p v at =
    ⊎_elim (λ (x : (p ≡ port) × (w ≡ v)). subst IsIdle x.1 mine) (λ (x : (p ≢ port) × (get_elem? passes p ≡ some v)). others p v x.1)
    (at_set passes port p w v at)

only-idle : {T : Type 0} → (n p : ℕ) (v : Moves T) → get_elem? (moves n [] [] ∷ []) p ≡ some v → IsIdle v
only-idle {T} n zero v at = subst IsIdle (some-injective (moves n [] []) v at) (no-moves n)
only-idle n (suc p) v at = absurd (some-ne-none v (sym at))

module _ {T : Type 0} (Waits : T → Type 0) where
  pub balanced-first : IsBalanced Waits [] (moves all_parts [] [] ∷ [])
  balanced-first = record { parts = omega arith; even = λ h. omega arith; idle = only-idle all_parts; known = All-nil Waits }

  -- tasks are given
  pub may-give : (port : ℕ) (v : Moves T) (xs : List T) → 0 < v.parts → All Waits xs →
      Pushes (IsBalanced Waits) port v xs (λ w. w ≡ moves v.parts (v.given ++ xs) v.taken)
  may-give port v xs has wait held passes b at =
      let w : Moves T = moves v.parts (v.given ++ xs) v.taken in (
        w,
        record {
          parts = let a = total-there (λ (u : Moves T). u.parts) passes port v w at in let c = b.parts in omega arith;
          even = λ h.
              let a = b.even h in
              let c = total-there (λ (u : Moves T). total h u.given) passes port v w at in
              let d = total-there (λ (u : Moves T). total h u.taken) passes port v w at in
              let e = total-join h v.given xs in
              let f = total-join h held xs in
              omega arith;
          idle = idle-set passes port w (some-parts w has) b.idle;
          known = All-append Waits held xs b.known wait;
        },
        refl,
      )

  -- tasks are taken at either end
  leaves : (port : ℕ) (v : Moves T) → 0 < v.parts → (xs held left : List T) (passes : List (Moves T)) → IsBalanced Waits held passes →
      get_elem? passes port ≡ some v → ((h : T → ℕ) → total h held ≡ total h xs + total h left) → All Waits left →
      IsBalanced Waits left (set passes port (moves v.parts v.given (v.taken ++ xs)))
  leaves port v has xs held left passes b at counts known =
      let w : Moves T = moves v.parts v.given (v.taken ++ xs) in
      record {
        parts = let a = total-there (λ (u : Moves T). u.parts) passes port v w at in let c = b.parts in omega arith;
        even = λ h.
            let a = b.even h in
            let c = total-there (λ (u : Moves T). total h u.given) passes port v w at in
            let d = total-there (λ (u : Moves T). total h u.taken) passes port v w at in
            let e = total-join h v.taken xs in
            let f = counts h in
            omega arith;
        idle = idle-set passes port w (some-parts w has) b.idle;
        known = known;
      }

  -- the first, by a thief
  pub may-steal : (port : ℕ) (v : Moves T) → 0 < v.parts → Takes (IsBalanced Waits) port v 1 (IsTaken Waits v)
  may-steal port v has xs held passes _ _ b at = (
    moves v.parts v.given (v.taken ++ xs),
    leaves port v has xs (xs ++ held) held passes b at (λ h. total-join h xs held) (all-back Waits xs held b.known),
    (refl, all-front Waits xs held b.known),
  )

  -- the last, by the owner
  pub may-take : (port : ℕ) (v : Moves T) → 0 < v.parts → Pops (IsBalanced Waits) port v (IsTaken Waits v)
  may-take port v has x held passes b at = (
    moves v.parts v.given (v.taken ++ x ∷ []),
    leaves port v has (x ∷ []) (held ++ x ∷ []) held passes b at (λ h. let a = total-join h held (x ∷ []) in omega arith)
        (all-front Waits held (x ∷ []) b.known),
    (refl, all-back Waits held (x ∷ []) b.known),
  )

  -- a part is split off
  pub may-split : (port : ℕ) (v : Moves T) → 1 < v.parts → Forks (IsBalanced Waits) port v (moves (v.parts - 1) v.given v.taken) (moves 1 [] [])
  may-split port v many held passes b at =
      let l : Moves T = moves (v.parts - 1) v.given v.taken in
      let r : Moves T = moves 1 [] [] in
      let more : (f : Moves T → ℕ) → total f (set passes port l ++ r ∷ []) + f v ≡ total f passes + f l + f r =
      λ f. let a = total-join f (set passes port l) (r ∷ []) in let c = total-there f passes port v l at in omega arith in
      record {
        parts = let a = more (λ (u : Moves T). u.parts) in let c = b.parts in omega arith;
        even = λ h.
            let a = b.even h in
            let c = more (λ (u : Moves T). total h u.given) in
            let d = more (λ (u : Moves T). total h u.taken) in
            omega arith;
        idle = λ p u e. ⊎_elim (λ (x : get_elem? (set passes port l) p ≡ some u). idle-set passes port l (λ h none. absurd (omega arith)) b.idle p u x)
            (λ (x : r ≡ u). subst IsIdle x (no-moves 1)) (at_snoc (set passes port l) r u p e);
        known = b.known;
      }

  -- parts are joined
  pub may-join : (port : ℕ) (v : Moves T) (other : ℕ) (w : Moves T) → 0 < v.parts →
      Merges (IsBalanced Waits) port v other w (joined v w) (moves 0 [] [])
  may-join port v other w has held passes b at apart at' =
      let both : Moves T = joined v w in
      let none : Moves T = moves 0 [] [] in
      let once : List (Moves T) = set passes port both in
      let same : (f : Moves T → ℕ) → total f (set once other none) + f v + f w ≡ total f passes + f both + f none =
      λ f. let a = total-there f passes port v both at in let c = total-there f once other w none at' in omega arith in
      record {
        parts = let a = same (λ (u : Moves T). u.parts) in let c = b.parts in omega arith;
        even = λ h.
            let a = b.even h in
            let c = same (λ (u : Moves T). total h u.given) in
            let d = same (λ (u : Moves T). total h u.taken) in
            let e = total-join h v.given w.given in
            let f = total-join h v.taken w.taken in
            omega arith;
        idle = idle-set once other none (no-moves 0) (idle-set passes port both (λ h n. absurd (omega arith)) b.idle);
        known = b.known;
      }

  -- where no pass has a part, nothing was moved
  none-moved : (passes : List (Moves T)) → total (λ (v : Moves T). v.parts) passes ≡ 0 → AreIdle passes → (h : T → ℕ) →
      (total (λ (v : Moves T). total h v.given) passes ≡ 0) × (total (λ (v : Moves T). total h v.taken) passes ≡ 0)
  none-moved [] none idle h = (refl, refl)
  none-moved (v ∷ vs) none idle h =
      let i = idle 0 v refl h (omega (arith, none)) in
      let r = none-moved vs (omega (arith, none)) (λ p u e. idle (suc p) u e) h in
      (omega (arith, i.0, r.0), omega (arith, i.1, r.1))

  -- who has all parts finds the deque empty
  pub finds-none : (port : ℕ) (v : Moves T) → v.parts ≡ all_parts → Finds (IsBalanced Waits) port v (IsSpent v)
  finds-none port v every passes b at h =
      let none : Moves T = moves 0 [] [] in
      let others : List (Moves T) = set passes port none in
      let rest : (f : Moves T → ℕ) → total f others + f v ≡ total f passes + f none = λ f. total-there f passes port v none at in
      let a = rest (λ (u : Moves T). u.parts) in
      let p = b.parts in
      let n = none-moved others (omega arith) (idle-set passes port none (no-moves 0) b.idle) h in
      let n0 = n.0 in
      let n1 = n.1 in
      let c = rest (λ (u : Moves T). total h u.given) in
      let d = rest (λ (u : Moves T). total h u.taken) in
      let e = b.even h in
      omega arith
