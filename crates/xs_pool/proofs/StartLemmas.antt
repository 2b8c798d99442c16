-- Workers that have run nothing.
use Rattle.std.proofs.Common.{◌≡◌, ℕ, suc, List, [], ◌∷◌, ◌++◌, map, reverse, append_assoc, refl, sym, ap, ◌∙◌, subst, arith}
use Rattle.std.specs.List.{All}
use Rattle.std.proofs.lemmas.List.{map-append, reverse-append}
use Rattle.std.proofs.lemmas.List.Elements.{All-nil}
use Rattle.atomic_table.specs.Seated.{TableId}
use Rattle.xs_trace.specs.Mark.{Trace}
use Rattle.xs_trace.specs.declared.item.Limits.{Limits}
use Rattle.xs_core.specs.declared.place.Claim.{Claim}
use Rattle.xs_core.specs.Good.{total}
use Rattle.xs_pool.specs.declared.member.Member.{Member}
use Rattle.xs_pool.specs.Logs.{all_left, run_in, spent_in, stopped_in}
use Rattle.xs_pool.specs.Rights.{DequeId}
use Rattle.xs_pool.specs.Starts.{IsNew}
use Rattle.xs_pool.specs.Workers.{came_to, held_by, IsWorking}
use Rattle.xs_pool.proofs.LogLemmas.{no-log}

-- the last of one list became the last of another
pub last-moved : {X Y Z : Type 0} → (f : X → Z) (g : Y → Z) (os rest : List X) (o : X) (ms new : List Y) (m : Y) (whole : List Z) →
    map f os ++ map g (reverse ms) ≡ whole → os ≡ rest ++ o ∷ [] → new ≡ ms ++ m ∷ [] → g m ≡ f o → map f rest ++ map g (reverse new) ≡ whole
last-moved {X} {Y} {Z} f g os rest o ms new m whole i e p q =
    ap (λ (l : List Y). map f rest ++ map g l) (ap reverse p ∙ reverse-append ms (m ∷ []))
    ∙ ap (λ (z : Z). map f rest ++ z ∷ map g (reverse ms)) q
    ∙ sym (append_assoc (map f rest) (f o ∷ []) (map g (reverse ms)))
    ∙ sym (ap (λ (l : List Z). l ++ map g (reverse ms)) (ap (map f) e ∙ map-append f rest (o ∷ []))) ∙ i

module _ {H K : Type 0} (place : H → List ℕ) (own : H → Trace H) (Fits Waits : H → Type 0) (l : Limits) (count : ℕ) (id : TableId) (deques : List DequeId) where
  pub new-works : (m : Member H K) → IsNew id l.ticks count deques m → IsWorking place own Fits Waits l count deques m
  new-works m n = record {
    number = n.number;
    last_in = n.last_in;
    parts = n.parts;
    rights = n.row.rights;
    full = n.row.full;
    kept = subst (All Waits) (sym n.kept) (All-nil Waits);
    bound = n.desk.bound;
    log = no-log place own Fits l count m.log.pieces.items m.log.claims.items n.pieces n.claims;
    mine = subst (All (λ (c : Claim). c.worker ≡ m.number)) (sym n.claims) (All-nil (λ (c : Claim). c.worker ≡ m.number));
    spent = ap spent_in n.pieces ∙ sym n.desk.added;
    stopped = λ i. ap stopped_in n.pieces;
    once = let a = ap stopped_in n.pieces in omega (arith, a);
  }

  pub nothing-held : (h : H → ℕ) (ms : List (Member H K)) → All (IsNew id l.ticks count deques) ms →
      (total (held_by h) ms ≡ 0) × (total (came_to h own l) ms ≡ 0)
  nothing-held h [] a = (refl, refl)
  nothing-held h (m ∷ ms) a =
      let i = nothing-held h ms (λ j e k. a (suc j) e (omega (arith, k))) in
      let n = a 0 m (omega arith) in
      let i0 = i.0 in
      let i1 = i.1 in
      let b = ap (run_in h) n.pieces in
      let c = ap (total h) n.given in
      let d = ap (total h) n.kept in
      let e = ap (total h) n.taken in
      let f = n.row.unused h in
      let g = ap (all_left h own l) n.pieces in
      (omega (arith, i0, b, c, d), omega (arith, i1, e, f, g))
