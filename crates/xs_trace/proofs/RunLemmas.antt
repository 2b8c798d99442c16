-- The laws of runs under limits.
use Rattle.std.proofs.Common.{◌≡◌, ℕ, zero, suc, ◌+◌, ◌-◌, ◌<◌, ◌≤◌, List, [], ◌∷◌, ◌++◌, length, drop, get_or, refl, sym, ap, ◌∙◌, arith}
use Rattle.std.proofs.Math.Seq.{drop-cons}
use Rattle.xs_trace.specs.Mark.{Tick, Trace, ticks}
use Rattle.xs_trace.specs.Cut.{Fault, Needs}
use Rattle.xs_trace.specs.State.{State}
use Rattle.xs_trace.specs.Play.{goes, and_then, ticked, ticked_by, play}
use Rattle.xs_trace.specs.Run.{Answer, Gives, Faults, Lacks, Run, costs, tick, go_on, fold, FoldLaws, ◌>>=◌, answered, limited, on_answer}
use Rattle.xs_trace.specs.Run.{evaluated, LimitedLaws}
use Rattle.xs_trace.specs.declared.item.Site.{Site}
use Rattle.xs_trace.proofs.GrowthLemmas.{goes-grows, stops-grow, grows-then, by-grows, Grows}
use Rattle.xs_trace.proofs.PlayLemmas.{then-same, then-then, then-goes, play-ticks}

-- ticks alone, reported one by one
by-play : {H : Type 0} → (n : ℕ) (p : Site) (s : State H) → ticked_by n p s ≡ play (ticks p n []) s
by-play n p s = sym (then-goes (ticked_by n p s)) ∙ sym (play-ticks p n [] s)

ticks-split : {H : Type 0} → (p : Site) (n m : ℕ) (x : Trace H) → ticks p (n + m) x ≡ ticks p n (ticks p m x)
ticks-split p zero m x = let e : 0 + m ≡ m = omega arith in ap (λ k. ticks p k x) e
ticks-split p (suc n) m x = let e : suc n + m ≡ suc (n + m) = omega arith in ap (λ k. ticks p k x) e ∙ ap (λ t. Tick p ∷ t) (ticks-split p n m x)

pub by-none : {H : Type 0} → (p : Site) (s : State H) → ticked_by 0 p s ≡ goes s
by-none p s = by-play 0 p s

pub by-one : {H : Type 0} → (p : Site) (s : State H) → ticked_by 1 p s ≡ ticked p s
by-one p s = by-play 1 p s ∙ then-goes (ticked p s)

pub by-plus : {H : Type 0} → (p : Site) (n m : ℕ) (s : State H) → ticked_by (n + m) p s ≡ and_then (ticked_by n p s) (λ u k. ticked_by m p k)
by-plus p n m s =
    by-play (n + m) p s
    ∙ ap (λ t. play t s) (ticks-split p n m [])
    ∙ play-ticks p n (ticks p m []) s
    ∙ then-same (ticked_by n p s) (λ u k. play (ticks p m []) k) (λ u k. ticked_by m p k) (λ u k. sym (by-play m p k))

-- the next of some ticks
pub by-next : {H : Type 0} → (p : Site) (n k : ℕ) (s : State H) → k < n → ticked_by (n - k) p s ≡ and_then (ticked p s) (λ u m. ticked_by (n - (k + 1)) p m)
by-next p n k s h =
    let e : n - k ≡ 1 + (n - (k + 1)) = omega (arith, h) in
    ap (λ i. ticked_by i p s) e ∙ by-plus p 1 (n - (k + 1)) s ∙ ap (λ j. and_then j (λ u m. ticked_by (n - (k + 1)) p m)) (by-one p s)

pub by-start : {H : Type 0} → (p : Site) (n : ℕ) (s : State H) → ticked_by n p s ≡ ticked_by (n - 0) p s
by-start p n s = let e : n ≡ n - 0 = omega arith in ap (λ i. ticked_by i p s) e

pub by-end : {H : Type 0} → (p : Site) (n k : ℕ) (s : State H) → n ≤ k → ticked_by (n - k) p s ≡ goes s
by-end p n k s h = let e : n - k ≡ 0 = omega (arith, h) in ap (λ i. ticked_by i p s) e ∙ by-none p s

pub limited-more : {H : Type 0} → {A : Type 0} (p : Site) (n : ℕ) (r : Run A) (s : State H) →
    limited p (costs n r) s ≡ and_then (ticked_by n p s) (λ u m. limited p r m)
limited-more p n r s =
    ap (λ k. and_then k (λ u m. answered p r.end m)) (by-plus p n r.cost s)
    ∙ then-then (ticked_by n p s) (λ u k. ticked_by r.cost p k) (λ u m. answered p r.end m)

pub limited-tick : {H : Type 0} → {A : Type 0} (p : Site) (r : Run A) (s : State H) → limited p (tick r) s ≡ and_then (ticked p s) (λ u m. limited p r m)
limited-tick p r s = limited-more p 1 r s ∙ ap (λ k. and_then k (λ u m. limited p r m)) (by-one p s)

-- an end that takes no ticks
pub limited-end : {H : Type 0} → {A : Type 0} (p : Site) (a : Answer A) (s : State H) → limited p (record { cost = 0; end = a }) s ≡ answered p a s
limited-end p a s = ap (λ k. and_then k (λ u m. answered p a m)) (by-none p s)

bound : {H : Type 0} → {A B : Type 0} (p : Site) (n : ℕ) (a : Answer A) (f : A → Run B) (s : State H) →
    limited p (go_on n a f) s ≡ and_then (ticked_by n p s) (λ u m. and_then (answered p a m) (λ x k. limited p (f x) k))
bound p n (Gives x) f s = limited-more p n (f x) s
bound p n (Faults e) f s = refl
bound p n (Lacks g) f s = refl

pub limited-bind : {H : Type 0} → {A B : Type 0} (p : Site) (r : Run A) (f : A → Run B) (s : State H) →
    limited p (r >>= f) s ≡ and_then (limited p r s) (λ x m. limited p (f x) m)
limited-bind p r f s = bound p r.cost r.end f s ∙ sym (then-then (ticked_by r.cost p s) (λ u m. answered p r.end m) (λ x k. limited p (f x) k))

reported-answer : {H : Type 0} → {A : Type 0} (p : Site) (a : Answer A) (f : A → Trace H) (s : State H) →
    play (on_answer p a f) s ≡ and_then (answered p a s) (λ x m. play (f x) m)
reported-answer p (Gives x) f s = refl
reported-answer p (Faults n) f s = refl
reported-answer p (Lacks g) f s = refl

pub play-evaluated : {H : Type 0} → {A : Type 0} (p : Site) (r : Run A) (f : A → Trace H) (s : State H) →
    play (evaluated p r f) s ≡ and_then (limited p r s) (λ x m. play (f x) m)
play-evaluated p r f s =
    play-ticks p r.cost (on_answer p r.end f) s
    ∙ then-same (ticked_by r.cost p s) (λ u m. play (on_answer p r.end f) m) (λ u m. and_then (answered p r.end m) (λ x k. play (f x) k))
    (λ u m. reported-answer p r.end f m)
    ∙ sym (then-then (ticked_by r.cost p s) (λ u m. answered p r.end m) (λ x k. play (f x) k))

answered-grows : {H : Type 0} → {A : Type 0} (p : Site) (a : Answer A) → Grows {H = H} (answered p a)
answered-grows p (Gives x) s = goes-grows x s
answered-grows p (Faults n) s = stops-grow (Fault n p) s
answered-grows p (Lacks g) s = stops-grow (Needs g p) s

pub limited-grows : {H : Type 0} → {A : Type 0} (p : Site) (r : Run A) → Grows {H = H} (limited p r)
limited-grows p r s = grows-then s (ticked_by r.cost p s) (λ u m. answered p r.end m) (by-grows r.cost p s) (λ u. answered-grows p r.end)

pub limited-laws : (H A B : Type 0) → LimitedLaws H A B
limited-laws H A B = record {
  gives = λ p x s. limited-end p (Gives x) s;
  fails = λ p f s. limited-end p (Faults f) s;
  lacks = λ p g s. limited-end p (Lacks g) s;
  ticks = λ p r s. limited-tick p r s;
  more = λ p n r s. limited-more p n r s;
  binds = λ p r f s. limited-bind p r f s;
  reports = λ p r f s. play-evaluated p r f s;
}

-- binds
abbrev RunOf : {A : Type 0} → ℕ → Answer A → Run A
RunOf k e = record { cost = k; end = e }

costs-costs : {A : Type 0} (n m : ℕ) (r : Run A) → costs (n + m) r ≡ costs n (costs m r)
costs-costs n m r = let d : (n + m) + r.cost ≡ n + (m + r.cost) = omega arith in ap (λ k. RunOf k r.end) d

costs-none : {A : Type 0} (r : Run A) → costs 0 r ≡ r
costs-none r = let d : 0 + r.cost ≡ r.cost = omega arith in ap (λ k. RunOf k r.end) d

costs-go : {A B : Type 0} (n m : ℕ) (e : Answer A) (f : A → Run B) → go_on (n + m) e f ≡ costs n (go_on m e f)
costs-go n m (Gives x) f = costs-costs n m (f x)
costs-go n m (Faults g) f = refl
costs-go n m (Lacks g) f = refl

go-same : {A B : Type 0} (n : ℕ) (e : Answer A) (f h : A → Run B) → ((x : A) → f x ≡ h x) → go_on n e f ≡ go_on n e h
go-same n (Gives x) f h q = ap (costs n) (q x)
go-same n (Faults g) f h q = refl
go-same n (Lacks g) f h q = refl

go-bind : {A B C : Type 0} (n : ℕ) (e : Answer A) (f : A → Run B) (h : B → Run C) → (go_on n e f >>= h) ≡ go_on n e (λ x. f x >>= h)
go-bind n (Gives x) f h = costs-go n (f x).cost (f x).end h
go-bind n (Faults g) f h = refl
go-bind n (Lacks g) f h = refl

-- folds
pub fold-joins : {A B : Type 0} (f : B → A → Run B) (b : B) (rest cs : List A) → fold f b (rest ++ cs) ≡ (fold f b rest >>= (λ c. fold f c cs))
fold-joins f b [] cs = sym (costs-none (fold f b cs))
fold-joins f b (a ∷ rest) cs =
    go-same (f b a).cost (f b a).end (λ c. fold f c (rest ++ cs)) (λ c. fold f c rest >>= (λ d. fold f d cs)) (λ c. fold-joins f c rest cs)
    ∙ sym (go-bind (f b a).cost (f b a).end (λ c. fold f c rest) (λ d. fold f d cs))

pub fold-next : {H A B : Type 0} (p : Site) (f : B → A → Run B) (b : B) (a : A) (rest : List A) (s : State H) →
    limited p (fold f b (a ∷ rest)) s ≡ and_then (limited p (f b a) s) (λ c m. limited p (fold f c rest) m)
fold-next p f b a rest s = limited-bind p (f b a) (λ c. fold f c rest) s

-- the next of a list from a place on
pub fold-at : {H A B : Type 0} (p : Site) (f : B → A → Run B) (b : B) (xs : List A) (k : ℕ) (d : A) (s : State H) → k < length xs →
    limited p (fold f b (drop k xs)) s ≡ and_then (limited p (f b (get_or xs k d)) s) (λ c m. limited p (fold f c (drop (k + 1) xs)) m)
fold-at p f b xs k d s h =
    let e : suc k ≡ k + 1 = omega arith in
    ap (λ l. limited p (fold f b l) s) (drop-cons xs k d h ∙ ap (λ n. get_or xs k d ∷ drop n xs) e)
    ∙ fold-next p f b (get_or xs k d) (drop (k + 1) xs) s

pub fold-laws : (H A B : Type 0) → FoldLaws H A B
fold-laws H A B = record { empty = λ p f b s. limited-end p (Gives b) s; next = fold-next; joins = fold-joins }
