-- The tasks of a tree, which a run knows.
use Rattle.std.proofs.Common.{◌≡◌, ◌+◌, ℕ, suc, List, [], ◌∷◌, Some, slice_get, sym, ap, ◌∙◌, arith, length}
use Rattle.xs_trace.specs.Mark.{Tick, Put, Say, Stop, Need, Hole, Trace}
use Rattle.xs_trace.specs.Fill.{tasks_of, HolesAre}
use Rattle.xs_pieces.specs.Tree.{task_at, ArePlaced, BeginsWithTick}
use Rattle.xs_pieces.specs.Ready.{IsReady}
use Rattle.xs_pool.specs.Known.{IsBelow, IsInTree, IsKnown}
use Rattle.xs_pool.proofs.ListLemmas.{length-more}
use Rattle.xs_pool.proofs.RunLemmas.{child-tasks}

-- what three facts of each hole lead to
holes-all : {H : Type 0} → (P Q R S : H → Type 0) → ((c : H) → P c → Q c → R c → S c) → (x : Trace H) → HolesAre P x → HolesAre Q x → HolesAre R x →
    HolesAre S x
holes-all P Q R S f [] p q r = tt
holes-all P Q R S f (Tick s ∷ x) p q r = holes-all P Q R S f x p q r
holes-all P Q R S f (Put e ∷ x) p q r = holes-all P Q R S f x p q r
holes-all P Q R S f (Say t ∷ x) p q r = holes-all P Q R S f x p q r
holes-all P Q R S f (Stop e s ∷ x) p q r = holes-all P Q R S f x p q r
holes-all P Q R S f (Need e s ∷ x) p q r = holes-all P Q R S f x p q r
holes-all P Q R S f (Hole c ∷ x) p q r = (f c p.0 q.0 r.0, holes-all P Q R S f x p.1 q.1 r.1)

-- what a piece leaves is not the root
not-roots : {H : Type 0} → (place : H → List ℕ) (p : List ℕ) (n : ℕ) (x : Trace H) → ArePlaced place p n x → HolesAre (λ c. place c ≡ [] → ⊥) x
not-roots place p n [] a = tt
not-roots place p n (Tick s ∷ x) a = not-roots place p n x a
not-roots place p n (Put e ∷ x) a = not-roots place p n x a
not-roots place p n (Say t ∷ x) a = not-roots place p n x a
not-roots place p n (Stop e s ∷ x) a = not-roots place p n x a
not-roots place p n (Need e s ∷ x) a = not-roots place p n x a
not-roots place p n (Hole c ∷ x) a =
    ((λ e. let z = ap length (sym a.0 ∙ e) in let m = length-more p n in absurd (omega (arith, z, m))), not-roots place p (suc n) x a.1)

module _ {H : Type 0} (IsOwn : H → Type 0) (place : H → List ℕ) (own whole : H → Trace H) (root : H) where
  pub tree-known : IsReady IsOwn place own whole → IsKnown IsOwn place own (IsInTree IsOwn place own root) (IsBelow IsOwn place own root)
  tree-known r = record {
    is_own = λ t f. f.0;
    begins = λ t f. f.1.1;
    children = λ t f.
        let p = r.placed t f.0 in
        let z : (k : ℕ) → slice_get (tasks_of (own t)) (0 + k) ≡ slice_get (tasks_of (own t)) k = λ k. ap (slice_get (tasks_of (own t))) (omega arith) in
        let At : H → Type 0 = λ c. task_at own (Some root) (place c) ≡ Some c in
        let Begins : H → Type 0 = λ c. BeginsWithTick (own c) in
        let In : H → Type 0 = λ c. IsInTree IsOwn place own root c in
        let IsNoRoot : H → Type 0 = λ c. place c ≡ [] → ⊥ in
        let inside : HolesAre In (own t) = holes-all IsOwn At Begins In (λ c a b d. (a, (b, d))) (own t) (r.inside t f.0)
        (child-tasks place own root t (place t) 0 (own t) f.1.0 z p) (r.begins t f.0) in
        let below = not-roots place (place t) 0 (own t) p in
        holes-all In IsNoRoot IsNoRoot (IsBelow IsOwn place own root) (λ c a b d. (a, b)) (own t) inside below below;
    fits = λ t w. w.0;
    below = λ t w e. w.1 e;
  }
