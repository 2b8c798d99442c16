-- The claims of a run in pieces are in the order of places.
use Rattle.std.proofs.Common.{◌≡◌, ◌<◌, ◌≤◌, inl, inr, ℕ, zero, suc, List, [], ◌∷◌, length, get_or, Bool, Option, Some, false}
use Rattle.std.proofs.Common.{refl, sym, ap, ◌∙◌, arith}
use Rattle.std.specs.Cmp.{IsStrictWeakOrder}
use Rattle.std.specs.Cmp.Lexicographic.{slice_cmp}
use Rattle.std.specs.List.{All, Contains}
use Rattle.std.specs.Ordering.{is_lt, nat_cmp}
use Rattle.std.proofs.lemmas.Cmp.{nat_list_cmp_total}
use Rattle.std.proofs.lemmas.List.Elements.{All-head, All-tail}
use Rattle.std.proofs.lemmas.List.Sorted.{ranks_by, sorted_far}
use Rattle.xs_assemble.specs.Claims.{AreOfTree}
use Rattle.xs_core.specs.Good.{total, is_place}
use Rattle.xs_pieces.specs.Tree.{task_at}
use Rattle.xs_pieces.proofs.CollectionLemmas.{place-same}
use Rattle.xs_trace.specs.Mark.{Trace}
use Rattle.xs_core.specs.declared.place.Claim.{Claim}
use Rattle.xs_reply.specs.Headline.{claimed_places}
use Rattle.xs_reply.proofs.PlaceLemmas.{Has, InOrder, before-by}

abbrev is_below : Claim → Claim → Bool
is_below c d = is_lt (slice_cmp nat_cmp c.place d.place)

weak : IsStrictWeakOrder is_below
weak = ranks_by nat_list_cmp_total (λ (c : Claim). c.place)

-- a place that is claimed, by its index
record IsAt (q : List ℕ) (cs : List Claim) : Type 0 where
  index : ℕ
  within : index < length cs
  is : (d : Claim) → (get_or cs index d).place ≡ q

is-at : (q : List ℕ) (cs : List Claim) → Has q (claimed_places cs) → IsAt q cs
is-at q [] h = absurd h
is-at q (c ∷ cs) (inl e) = record { index = 0; within = omega arith; is = λ d. sym e }
is-at q (c ∷ cs) (inr h) = let r = is-at q cs h in record { index = suc r.index; within = let w = r.within in omega (arith, w); is = r.is }

-- it weighs something
weighs : (q : List ℕ) (ps : List (List ℕ)) → Has q ps → 1 ≤ total (is_place q) ps
weighs q [] h = absurd h
weighs q (p ∷ ps) (inl e) = let w : is_place q p ≡ 1 = ap (is_place q) (sym e) ∙ place-same q in omega (arith, w)
weighs q (p ∷ ps) (inr h) = let w = weighs q ps h in omega (arith, w)

abbrev Far : List Claim → Type 0
Far cs = (i j : ℕ) (d : Claim) → i ≤ j → j < length cs → is_below (get_or cs j d) (get_or cs i d) ≡ false

abbrev Once : List Claim → Type 0
Once cs = (p : List ℕ) → total (is_place p) (claimed_places cs) ≤ 1

far-once : (cs : List Claim) → Far cs → Once cs → InOrder (claimed_places cs)
far-once [] far once = tt
far-once (c ∷ cs) far once = (
  λ q h.
      let r = is-at q cs h in
      let w = r.within in
      let n = far 0 (suc r.index) c (omega arith) (omega (arith, w)) in
      before-by c.place q (ap (λ z. is_lt (slice_cmp nat_cmp z c.place)) (sym (r.is c)) ∙ n)
      (λ e.
      let a = weighs q (claimed_places cs) h in
      let s : is_place q c.place ≡ 1 = ap (is_place q) (sym e) ∙ place-same q in
      let o = once q in
      omega (arith, a, s, o)),
  far-once cs (λ i j d l m. far (suc i) (suc j) d (omega (arith, l)) (omega (arith, m))) (λ p. let o = once p in omega (arith, o)),
)

pub claims-ordered : {H : Type 0} → (own : H → Trace H) (root : H) (count : ℕ) (cs : List Claim) → AreOfTree own root count cs
    → InOrder (claimed_places cs)
claims-ordered own root count cs a = far-once cs (λ i j d l m. sorted_far is_below weak cs a.sorted i j d l m) a.once

-- a place that is among some
pub contains-has : (ps : List (List ℕ)) (p : List ℕ) → Contains ps p → Has p ps
contains-has [] p c = let l = c.1 in absurd (omega (arith, l))
contains-has (q ∷ ps) p (zero, l, e) = inl (sym e)
contains-has (q ∷ ps) p (suc k, l, e) = inr (contains-has ps p (k, omega (arith, l), e))

pub claim-there : {H : Type 0} → (own : H → Trace H) (root : H) (cs : List Claim) → All (λ c. (t : H) × (task_at own (Some root) c.place ≡ Some t)) cs →
    (q : List ℕ) → Has q (claimed_places cs) → (t : H) × (task_at own (Some root) q ≡ Some t)
claim-there own root [] a q h = absurd h
claim-there {H} own root (c ∷ cs) a q (inl e) =
    let r = All-head (λ (c : Claim). (t : H) × (task_at own (Some root) c.place ≡ Some t)) c cs a in (r.0, ap (task_at own (Some root)) e ∙ r.1)
claim-there {H} own root (c ∷ cs) a q (inr h) =
    claim-there own root cs (All-tail (λ (c : Claim). (t : H) × (task_at own (Some root) c.place ≡ Some t)) c cs a) q h
