-- Workers that have worked, by the jobs that were done.
use Rattle.std.proofs.Common.{◌≡◌, ◌<◌, ℕ, zero, suc, List, [], ◌∷◌, ◌++◌, length, get_or, slice_index_or, map, Result, Ok, Err, IfOk}
use Rattle.std.proofs.Common.{refl, sym, ap, ◌∙◌, subst, arith}
use Rattle.std.proofs.lemmas.List.Elements.{All-push}
use Rattle.xs_trace.specs.Mark.{Trace}
use Rattle.xs_trace.specs.declared.item.Limits.{Limits}
use Rattle.xs_pool.specs.declared.member.Member.{Member}
use Rattle.xs_pool.specs.Rights.{DequeId}
use Rattle.xs_pool.specs.Workers.{HaveWorked, IsSame, IsWorking}
use Rattle.xs_pool.proofs.ListLemmas.{image-at, length-image, length-more}

pub if-ok : {X E : Type 0} → (r : Result X E) (P Q : X → Type 0) → IfOk r P → ((x : X) → P x → Q x) → IfOk r Q
if-ok (Ok x) P Q p f = f x p
if-ok (Err e) P Q p f = tt

pub ok-of : {X E : Type 0} → (r : Result X E) (x : X) (P : X → Type 0) → r ≡ Ok x → IfOk r P → P x
ok-of {X} {E} r x P e h = subst (λ (z : Result X E). IfOk z P) e h

-- what holds of each result holds of each that came
each-came : {X Y E : Type 0} → (P : X → Y → Type 0) (jobs : List X) (rs : List (Result Y E)) (ns : List Y) → map Ok ns ≡ rs → length rs ≡ length jobs →
    ((i : ℕ) (j : X) (d : Result Y E) → i < length jobs → IfOk (slice_index_or rs i d) (λ m. P (slice_index_or jobs i j) m)) →
    (k : ℕ) (j : X) (y : Y) → k < length ns → P (get_or jobs k j) (get_or ns k y)
each-came {X} {Y} {E} P jobs rs ns e n h k j y lt =
    let a : length (map {B = Result Y E} Ok ns) ≡ length ns = length-image Ok ns in
    let b = ap length e in
    let g : IfOk (get_or rs k (Ok y)) (λ m. P (get_or jobs k j) m) = h k j (Ok y) (omega (arith, a, b, n, lt)) in
    let c : get_or rs k (Ok y) ≡ Ok (get_or ns k y) = sym (ap (λ (l : List (Result Y E)). get_or l k (Ok y)) e) ∙ image-at Ok ns k y (Ok y) lt in
    subst (λ (r : Result Y E). IfOk r (λ m. P (get_or jobs k j) m)) c g

-- by the last of one list and those before it
each-pair-push : {X Y : Type 0} → (P : X → Y → Type 0) (ms : List X) (ns : List Y) (m : X) (n : Y) → length ns ≡ length ms →
    ((k : ℕ) (x : X) (y : Y) → k < length ns → P (get_or ms k x) (get_or ns k y)) → P m n →
    (k : ℕ) (x : X) (y : Y) → k < length (ns ++ n ∷ []) → P (get_or (ms ++ m ∷ []) k x) (get_or (ns ++ n ∷ []) k y)
each-pair-push P [] [] m n e h p zero x y lt = p
each-pair-push P [] [] m n e h p (suc k) x y lt = absurd (omega (arith, lt))
each-pair-push P [] (b ∷ ns) m n e h p k x y lt = absurd (omega (arith, e))
each-pair-push P (a ∷ ms) [] m n e h p k x y lt = absurd (omega (arith, e))
each-pair-push P (a ∷ ms) (b ∷ ns) m n e h p zero x y lt = h 0 a b (omega arith)
each-pair-push P (a ∷ ms) (b ∷ ns) m n e h p (suc k) x y lt =
    each-pair-push P ms ns m n (omega (arith, e)) (λ j u v l. h (suc j) u v (omega (arith, l))) p k x y (omega (arith, lt))

module _ {T K : Type 0} (place : T → List ℕ) (own : T → Trace T) (Fits Waits : T → Type 0) (l : Limits) (count : ℕ) (deques : List DequeId) where
  pub worked-all : {E : Type 0} → (ms : List (Member T K)) (rs : List (Result (Member T K) E)) (ns : List (Member T K)) → map Ok ns ≡ rs →
      length rs ≡ length ms →
      ((i : ℕ) (j : Member T K) (d : Result (Member T K) E) → i < length ms →
      IfOk (slice_index_or rs i d) (λ n. IsWorking place own Fits Waits l count deques n × IsSame own l (slice_index_or ms i j) n)) →
      HaveWorked place own Fits Waits l count deques ms ns
  worked-all {E} ms rs ns e n h =
      let P : Member T K → Member T K → Type 0 = λ m n. IsWorking place own Fits Waits l count deques n × IsSame own l m n in
      let each = each-came P ms rs ns e n h in
      record {
        many = sym (length-image {Y = Result (Member T K) E} Ok ns) ∙ ap length e ∙ n;
        works = λ k d lt. (each k d d lt).0;
        same = λ k m n lt. (each k m n lt).1;
      }

  pub worked-none : (ms : List (Member T K)) → length ms ≡ 0 → HaveWorked place own Fits Waits l count deques ms ms
  worked-none ms e = record {
    many = refl;
    works = λ k d lt. absurd (omega (arith, e, lt));
    same = λ k m n lt. absurd (omega (arith, e, lt));
  }

  pub worked-more : (ms ns all before : List (Member T K)) (m n : Member T K) → HaveWorked place own Fits Waits l count deques ms ns →
      IsWorking place own Fits Waits l count deques n × IsSame own l m n → before ≡ ms ++ m ∷ [] → all ≡ ns ++ n ∷ [] →
      HaveWorked place own Fits Waits l count deques before all
  worked-more ms ns all before m n w p e f =
      subst (λ (x : List (Member T K)). HaveWorked place own Fits Waits l count deques x all) (sym e)
      (subst (λ (y : List (Member T K)). HaveWorked place own Fits Waits l count deques (ms ++ m ∷ []) y) (sym f)
      (record {
        many = let a = length-more ms m in let b = length-more ns n in let c = w.many in omega (arith, a, b, c);
        works = All-push (IsWorking place own Fits Waits l count deques) ns n w.works p.0;
        same = each-pair-push (IsSame own l) ms ns m n w.many w.same p.1;
      }))
