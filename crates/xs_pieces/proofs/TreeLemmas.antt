-- Laws of trees, by ranks and by the marks.
use Rattle.std.proofs.Common.{◌≡◌, ◌<◌, ℕ, zero, suc, ◌+◌, List, [], ◌∷◌, ◌++◌, slice_get, Option, Some, None, refl, sym, ap, ◌∙◌, arith}
use Rattle.xs_trace.specs.Mark.{Tick, Put, Say, Stop, Need, Hole, Trace, ◌⨾◌}
use Rattle.xs_trace.specs.Fill.{fill, tasks_of, numbered, HolesAre}
use Rattle.xs_pieces.specs.Tree.{task_at, filled, tree_trace, Falls, or_nothing}
use Rattle.xs_pieces.specs.Laws.{TreeLaws}

pub holes-weaker : {H : Type 0} → (P Q : H → Type 0) → ((k : H) → P k → Q k) → (x : Trace H) → HolesAre P x → HolesAre Q x
holes-weaker P Q f [] h = tt
holes-weaker P Q f (Tick p ∷ x) h = holes-weaker P Q f x h
holes-weaker P Q f (Put e ∷ x) h = holes-weaker P Q f x h
holes-weaker P Q f (Say t ∷ x) h = holes-weaker P Q f x h
holes-weaker P Q f (Stop n p ∷ x) h = holes-weaker P Q f x h
holes-weaker P Q f (Need g p ∷ x) h = holes-weaker P Q f x h
holes-weaker P Q f (Hole k ∷ x) h = (f k h.0, holes-weaker P Q f x h.1)

pub fill-same : {H K : Type 0} → (f g : H → Trace K) (x : Trace H) → HolesAre (λ k. f k ≡ g k) x → fill f x ≡ fill g x
fill-same f g [] h = refl
fill-same f g (Tick p ∷ x) h = ap (λ t. Tick p ∷ t) (fill-same f g x h)
fill-same f g (Put e ∷ x) h = ap (λ t. Put e ∷ t) (fill-same f g x h)
fill-same f g (Say s ∷ x) h = ap (λ t. Say s ∷ t) (fill-same f g x h)
fill-same f g (Stop n p ∷ x) h = ap (λ t. Stop n p ∷ t) (fill-same f g x h)
fill-same f g (Need v p ∷ x) h = ap (λ t. Need v p ∷ t) (fill-same f g x h)
fill-same f g (Hole k ∷ x) h = ap (λ t. t ⨾ fill f x) h.0 ∙ ap (λ t. g k ⨾ t) (fill-same f g x h.1)

pub all-holes : {H : Type 0} → (P : H → Type 0) → ((k : H) → P k) → (x : Trace H) → HolesAre P x
all-holes P f [] = tt
all-holes P f (Tick p ∷ x) = all-holes P f x
all-holes P f (Put e ∷ x) = all-holes P f x
all-holes P f (Say t ∷ x) = all-holes P f x
all-holes P f (Stop n p ∷ x) = all-holes P f x
all-holes P f (Need g p ∷ x) = all-holes P f x
all-holes P f (Hole k ∷ x) = (f k, all-holes P f x)

pub fill-each : {H K : Type 0} → (f g : H → Trace K) → ((k : H) → f k ≡ g k) → (x : Trace H) → fill f x ≡ fill g x
fill-each f g e x = fill-same f g x (all-holes (λ k. f k ≡ g k) e x)

-- levels past the rank
level : {H K : Type 0} → (rank : H → ℕ) (own : H → Trace H) → Falls rank own → (n m : ℕ) (t : H) → rank t < n → rank t < m →
    filled {K = K} own n t ≡ filled own m t
level rank own d zero m t p q = absurd (omega (arith, p))
level rank own d (suc n) zero t p q = absurd (omega (arith, q))
level {H} {K} rank own d (suc n) (suc m) t p q =
    fill-same (filled own n) (filled own m) (own t)
    (holes-weaker (λ c. rank c < rank t) (λ c. filled {K = K} own n c ≡ filled own m c)
    (λ c h. level rank own d n m c (omega (arith, h, p)) (omega (arith, h, q))) (own t) (d t))

pub tree-fills : {H K : Type 0} → (rank : H → ℕ) (own : H → Trace H) → Falls rank own → (t : H) →
    tree_trace {K = K} rank own t ≡ fill (tree_trace rank own) (own t)
tree-fills {H} {K} rank own d t =
    fill-same (filled own (rank t)) (tree_trace rank own) (own t)
    (holes-weaker (λ c. rank c < rank t) (λ c. filled {K = K} own (rank t) c ≡ tree_trace rank own c)
    (λ c h. level rank own d (rank t) (suc (rank c)) c h (omega arith)) (own t) (d t))

one-level : {H K : Type 0} → (rank : H → ℕ) (own : H → Trace H) → Falls rank own → (whole : H → Trace K) → ((t : H) → whole t ≡ fill whole (own t)) →
    (n : ℕ) (t : H) → rank t < n → whole t ≡ filled own n t
one-level rank own d whole e zero t p = absurd (omega (arith, p))
one-level rank own d whole e (suc n) t p =
    e t ∙ fill-same whole (filled own n) (own t)
    (holes-weaker (λ c. rank c < rank t) (λ c. whole c ≡ filled own n c) (λ c h. one-level rank own d whole e n c (omega (arith, h, p))) (own t) (d t))

pub at-child : {H : Type 0} → (own : H → Trace H) (t : Option H) (p : List ℕ) (k : ℕ) →
    task_at own t (p ++ k ∷ []) ≡ task_at own (task_at own t p) (k ∷ [])
at-child own t [] k = refl
at-child own None (j ∷ p) k = refl
at-child own (Some t) (j ∷ p) k = at-child own (slice_get (tasks_of (own t)) j) p k

pub tree-laws : (H K : Type 0) → TreeLaws H K
tree-laws H K = record {
  enough = λ rank own d t n m. level rank own d n m t;
  fills = tree-fills;
  one = λ rank own d whole e t. one-level rank own d whole e (suc (rank t)) t (omega arith);
  child = at-child;
}

-- holes by their numbers
by-number : {H K : Type 0} → (f : H → Trace K) (g : ℕ → Trace K) (n : ℕ) (x : Trace H) →
    ((k : ℕ) → g (n + k) ≡ or_nothing f (slice_get (tasks_of x) k)) → fill g (numbered n x) ≡ fill f x
by-number f g n [] e = refl
by-number f g n (Tick p ∷ x) e = ap (λ t. Tick p ∷ t) (by-number f g n x e)
by-number f g n (Put v ∷ x) e = ap (λ t. Put v ∷ t) (by-number f g n x e)
by-number f g n (Say s ∷ x) e = ap (λ t. Say s ∷ t) (by-number f g n x e)
by-number f g n (Stop w p ∷ x) e = ap (λ t. Stop w p ∷ t) (by-number f g n x e)
by-number f g n (Need v p ∷ x) e = ap (λ t. Need v p ∷ t) (by-number f g n x e)
by-number f g n (Hole c ∷ x) e =
    let z : n + 0 ≡ n = omega arith in
    let s : (k : ℕ) → suc n + k ≡ n + suc k = λ k. omega arith in
    ap (λ t. t ⨾ fill g (numbered (suc n) x)) (sym (ap g z) ∙ e 0)
    ∙ ap (λ t. f c ⨾ t) (by-number f g (suc n) x (λ k. ap g (s k) ∙ e (suc k)))

pub children-fill : {H K : Type 0} → (whole : H → Trace K) (own : H → Trace H) (t : H) →
    fill (λ k. or_nothing whole (task_at own (Some t) (k ∷ []))) (numbered 0 (own t)) ≡ fill whole (own t)
children-fill whole own t =
    by-number whole (λ k. or_nothing whole (task_at own (Some t) (k ∷ []))) 0 (own t)
    (λ k. let e : 0 + k ≡ k = omega arith in ap (λ i. or_nothing whole (slice_get (tasks_of (own t)) i)) e)
