-- The places of a tree of pieces, and lists of places in their order.
use Rattle.std.proofs.Common.{◌≡◌, ◌<◌, ◌+◌, ◌++◌, ◌⊎◌, inl, inr, ⊎_elim, ℕ, zero, suc, List, [], ◌∷◌, map, Option, Some, None, false}
use Rattle.std.proofs.Common.{refl, sym, ap, subst, ◌∙◌, arith}
use Rattle.std.specs.Cmp.{nat_cmp_is}
use Rattle.std.specs.Cmp.Lexicographic.{slice_cmp}
use Rattle.std.specs.List.{slice_get}
use Rattle.std.specs.Ordering.{is_lt, nat_cmp, ordering_then}
use Rattle.std.specs.declared.cmp.Ordering.{Ordering}
use Rattle.std.specs.declared.cmp.Ordering.TheVariants.{Less, Equal}
use Rattle.std.proofs.lemmas.Bool.{true≢false}
use Rattle.xs_trace.specs.Fill.{tasks_of, HolesAre}
use Rattle.xs_trace.specs.Mark.{Tick, Put, Say, Stop, Need, Hole, Trace}
use Rattle.xs_pieces.specs.Tree.{Falls, task_at}
use Rattle.xs_reply.specs.Headline.{AreSome, none, skipped, taken}
use Rattle.xs_reply.specs.Places.{numbered_places, tree_places}

-- ---- the order of places

-- it is a beginning of the other, or the first number that differs is smaller
abbrev pub Before : List ℕ → List ℕ → Type 0
Before [] [] = ⊥
Before [] (k ∷ q) = Unit {0}
Before (j ∷ p) [] = ⊥
Before (j ∷ p) (k ∷ q) = (j < k) ⊎ ((j ≡ k) × Before p q)

not-before : (p : List ℕ) → Before p p → ⊥
not-before [] b = b
not-before (j ∷ p) (inl l) = omega (arith, l)
not-before (j ∷ p) (inr e) = not-before p e.1

before-trans : (p q r : List ℕ) → Before p q → Before q r → Before p r
before-trans [] [] r a b = absurd a
before-trans [] (j ∷ q) [] a b = absurd b
before-trans [] (j ∷ q) (k ∷ r) a b = tt
before-trans (i ∷ p) [] r a b = absurd a
before-trans (i ∷ p) (j ∷ q) [] a b = absurd b
before-trans (i ∷ p) (j ∷ q) (k ∷ r) (inl a) (inl b) = inl (omega (arith, a, b))
before-trans (i ∷ p) (j ∷ q) (k ∷ r) (inl a) (inr b) = let e : j ≡ k = b.0 in inl (omega (arith, a, e))
before-trans (i ∷ p) (j ∷ q) (k ∷ r) (inr a) (inl b) = let e : i ≡ j = a.0 in inl (omega (arith, e, b))
before-trans (i ∷ p) (j ∷ q) (k ∷ r) (inr a) (inr b) = inr (a.0 ∙ b.0, before-trans p q r a.1 b.1)

abbrev Compared : ℕ → ℕ → Type 0
Compared k j = (k < j) ⊎ ((k ≡ j) ⊎ (j < k))

compared-more : (k j : ℕ) → Compared k j → Compared (suc k) (suc j)
compared-more k j (inl l) = inl (omega (arith, l))
compared-more k j (inr (inl e)) = inr (inl (ap suc e))
compared-more k j (inr (inr l)) = inr (inr (omega (arith, l)))

compared : (k j : ℕ) → Compared k j
compared zero zero = inr (inl refl)
compared zero (suc j) = inl (omega arith)
compared (suc k) zero = inr (inr (omega arith))
compared (suc k) (suc j) = compared-more k j (compared k j)

before-first : (j k : ℕ) (p q : List ℕ) → Compared k j → is_lt (ordering_then (nat_cmp k j) (slice_cmp nat_cmp q p)) ≡ false → (k ∷ q ≡ j ∷ p → ⊥) →
    (is_lt (slice_cmp nat_cmp q p) ≡ false → (q ≡ p → ⊥) → Before p q) → Before (j ∷ p) (k ∷ q)
before-first j k p q (inl l) h n f =
    absurd (true≢false (ap (λ (o : Ordering). is_lt (ordering_then o (slice_cmp nat_cmp q p))) (nat_cmp_is k j Less l) ∙ h))
before-first j k p q (inr (inl e)) h n f =
    inr (
      sym e,
      f (ap (λ (o : Ordering). is_lt (ordering_then o (slice_cmp nat_cmp q p))) (nat_cmp_is k j Equal e) ∙ h)
          (λ same. n (ap (λ z. z ∷ q) e ∙ ap (λ z. j ∷ z) same)),
    )
before-first j k p q (inr (inr l)) h n f = inl l

-- where the other one is not below it, and is not the same
pub before-by : (p q : List ℕ) → is_lt (slice_cmp nat_cmp q p) ≡ false → (q ≡ p → ⊥) → Before p q
before-by [] [] h n = absurd (n refl)
before-by [] (k ∷ q) h n = tt
before-by (j ∷ p) [] h n = absurd (true≢false h)
before-by (j ∷ p) (k ∷ q) h n = before-first j k p q (compared k j) h n (before-by p q)

-- ---- lists of places

abbrev pub Has : List ℕ → List (List ℕ) → Type 0
Has q [] = ⊥
Has q (p ∷ ps) = (q ≡ p) ⊎ Has q ps

-- each comes before all after it
abbrev pub InOrder : List (List ℕ) → Type 0
InOrder [] = Unit {0}
InOrder (p ∷ ps) = ((q : List ℕ) → Has q ps → Before p q) × InOrder ps

has-left : (q : List ℕ) (xs ys : List (List ℕ)) → Has q xs → Has q (xs ++ ys)
has-left q [] ys h = absurd h
has-left q (x ∷ xs) ys (inl e) = inl e
has-left q (x ∷ xs) ys (inr h) = inr (has-left q xs ys h)

has-right : (q : List ℕ) (xs ys : List (List ℕ)) → Has q ys → Has q (xs ++ ys)
has-right q [] ys h = h
has-right q (x ∷ xs) ys h = inr (has-right q xs ys h)

has-either : (q : List ℕ) (xs ys : List (List ℕ)) → Has q (xs ++ ys) → Has q xs ⊎ Has q ys
has-either q [] ys h = inr h
has-either q (x ∷ xs) ys (inl e) = inl (inl e)
has-either q (x ∷ xs) ys (inr h) = ⊎_elim (λ a. inl (inr a)) (λ b. inr b) (has-either q xs ys h)

has-map : (m n : ℕ) → m ≡ n → (q : List ℕ) (xs : List (List ℕ)) → Has q xs → Has (m ∷ q) (map (λ p. n ∷ p) xs)
has-map m n e q [] h = absurd h
has-map m n e q (x ∷ xs) (inl s) = inl (ap (λ z. z ∷ q) e ∙ ap (λ z. n ∷ z) s)
has-map m n e q (x ∷ xs) (inr h) = inr (has-map m n e q xs h)

-- what a place below a number is
record Below (n : ℕ) (p : List ℕ) (xs : List (List ℕ)) : Type 0 where
  rest : List ℕ
  is : p ≡ n ∷ rest
  has : Has rest xs

has-mapped : (n : ℕ) (p : List ℕ) (xs : List (List ℕ)) → Has p (map (λ q. n ∷ q) xs) → Below n p xs
has-mapped n p [] h = absurd h
has-mapped n p (x ∷ xs) (inl e) = record { rest = x; is = e; has = inl refl }
has-mapped n p (x ∷ xs) (inr h) = let b = has-mapped n p xs h in record { rest = b.rest; is = b.is; has = inr b.has }

map-ordered : (n : ℕ) (xs : List (List ℕ)) → InOrder xs → InOrder (map (λ p. n ∷ p) xs)
map-ordered n [] a = tt
map-ordered n (x ∷ xs) a =
    (λ q h. let b = has-mapped n q xs h in subst (λ z. Before (n ∷ x) z) (sym b.is) (inr (refl, a.0 b.rest b.has)), map-ordered n xs a.1)

join-ordered : (xs ys : List (List ℕ)) → InOrder xs → InOrder ys → ((p q : List ℕ) → Has p xs → Has q ys → Before p q) → InOrder (xs ++ ys)
join-ordered [] ys a b f = b
join-ordered (x ∷ xs) ys a b f =
    (λ q h. ⊎_elim (λ i. a.0 q i) (λ j. f x q (inl refl) j) (has-either q xs ys h), join-ordered xs ys a.1 b (λ p q i j. f p q (inr i) j))

-- some of a list are in it
some-has : (cs ps : List (List ℕ)) → AreSome cs ps → (q : List ℕ) → Has q cs → Has q ps
some-has cs ps none q h = absurd h
some-has cs (p ∷ ps) (skipped s) q h = inr (some-has cs ps s q h)
some-has (c ∷ cs) (p ∷ ps) (taken s) q (inl e) = inl e
some-has (c ∷ cs) (p ∷ ps) (taken s) q (inr h) = inr (some-has cs ps s q h)

-- what is among others but is not the first
not-first : (p : List ℕ) (ps : List (List ℕ)) (q : List ℕ) → Before p q → Has q (p ∷ ps) → Has q ps
not-first p ps q b (inl e) = absurd (not-before p (subst (λ z. Before p z) e b))
not-first p ps q b (inr h) = h

-- places in order that are among others in order are some of them
some-step : (c : List ℕ) (cs : List (List ℕ)) (p : List ℕ) (ps : List (List ℕ)) → InOrder (c ∷ cs) → InOrder (p ∷ ps) →
    ((q : List ℕ) → Has q (c ∷ cs) → Has q (p ∷ ps)) → (((q : List ℕ) → Has q cs → Has q ps) → AreSome cs ps) →
    (((q : List ℕ) → Has q (c ∷ cs) → Has q ps) → AreSome (c ∷ cs) ps) → (c ≡ p) ⊎ Has c ps → AreSome (c ∷ cs) (p ∷ ps)
some-step c cs p ps a b f next same (inl e) =
    subst (λ z. AreSome (z ∷ cs) (p ∷ ps)) (sym e)
    (taken (next (λ q h. not-first p ps q (subst (λ z. Before z q) e (a.0 q h)) (f q (inr h)))))
some-step c cs p ps a b f next same (inr i) =
    skipped (same (λ q h. ⊎_elim (λ e. subst (λ z. Has z ps) (sym e) i)
    (λ j. not-first p ps q (before-trans p c q (b.0 c i) (a.0 q j)) (f q (inr j))) h))

pub some-of : (ps cs : List (List ℕ)) → InOrder cs → InOrder ps → ((q : List ℕ) → Has q cs → Has q ps) → AreSome cs ps
some-of [] [] a b f = none
some-of (p ∷ ps) [] a b f = skipped (some-of ps [] a b.1 (λ q h. absurd h))
some-of [] (c ∷ cs) a b f = absurd (f c (inl refl))
some-of (p ∷ ps) (c ∷ cs) a b f =
    some-step c cs p ps a b f (λ g. some-of ps cs a.1 b.1 g) (λ g. some-of ps (c ∷ cs) a b.1 g) (f c (inl refl))

-- and where these are all, they are the same
pub all-of : (cs ps : List (List ℕ)) → AreSome cs ps → InOrder ps → ((q : List ℕ) → Has q ps → Has q cs) → cs ≡ ps
all-of cs ps none b f = refl
all-of cs (p ∷ ps) (skipped s) b f = absurd (not-before p (b.0 p (some-has cs ps s p (f p (inl refl)))))
all-of (c ∷ cs) (p ∷ ps) (taken s) b f = ap (λ z. p ∷ z) (all-of cs ps s b.1 (λ q h. not-first p cs q (b.0 q h) (f q (inr h))))

-- ---- the places of a tree

-- the task of a hole, by its number
hole-is : {H : Type 0} → (P : H → Type 0) (x : Trace H) (k : ℕ) (c : H) → HolesAre P x → slice_get (tasks_of x) k ≡ Some c → P c
hole-is P [] k c h e = absurd (cc)
hole-is P (Tick s ∷ x) k c h e = hole-is P x k c h e
hole-is P (Put v ∷ x) k c h e = hole-is P x k c h e
hole-is P (Say t ∷ x) k c h e = hole-is P x k c h e
hole-is P (Stop f s ∷ x) k c h e = hole-is P x k c h e
hole-is P (Need g s ∷ x) k c h e = hole-is P x k c h e
hole-is P (Hole d ∷ x) zero c h e = let same : d ≡ c = cc in subst P same h.0
hole-is P (Hole d ∷ x) (suc k) c h e = hole-is P x k c h.1 e

has-numbered : {H : Type 0} → (f : H → List (List ℕ)) (n k m : ℕ) (ts : List H) (c : H) (q : List ℕ) → m ≡ n + k → slice_get ts k ≡ Some c → Has q (f c) →
    Has (m ∷ q) (numbered_places f n ts)
has-numbered f n k m [] c q i e h = absurd (cc)
has-numbered f n zero m (t ∷ ts) c q i e h =
    let same : t ≡ c = cc in
    has-left (m ∷ q) (map (λ p. n ∷ p) (f t)) (numbered_places f (suc n) ts) (has-map m n (omega (arith, i)) q (f t) (subst (λ z. Has q (f z)) (sym same) h))
has-numbered f n (suc k) m (t ∷ ts) c q i e h =
    has-right (m ∷ q) (map (λ p. n ∷ p) (f t)) (numbered_places f (suc n) ts) (has-numbered f (suc n) k m ts c q (omega (arith, i)) e h)

nothing-at : {H : Type 0} → (own : H → Trace H) (p : List ℕ) (s : H) → task_at own None p ≡ Some s → ⊥
nothing-at own [] s e = absurd (cc)
nothing-at own (k ∷ p) s e = absurd (cc)

child-there : {H : Type 0} → (own : H → Trace H) (f : H → List (List ℕ)) (ts : List H) (k : ℕ) (p : List ℕ) (s : H) →
    ((c : H) → slice_get ts k ≡ Some c → task_at own (Some c) p ≡ Some s → Has p (f c)) → (o : Option H) → slice_get ts k ≡ o → task_at own o p ≡ Some s →
    Has (k ∷ p) (numbered_places f 0 ts)
child-there own f ts k p s g None is e = absurd (nothing-at own p s e)
child-there own f ts k p s g (Some c) is e = has-numbered f 0 k k ts c p (omega arith) is (g c is e)

-- each place of a tree is there
pub place-there : {H : Type 0} → (rank : H → ℕ) (own : H → Trace H) → Falls rank own → (n : ℕ) (t s : H) (p : List ℕ) → rank t < n →
    task_at own (Some t) p ≡ Some s → Has p (tree_places own n t)
unfolding tree_places
place-there rank own falls zero t s p l e = absurd (omega (arith, l))
place-there rank own falls (suc n) t s [] l e = inl refl
place-there {H} rank own falls (suc n) t s (k ∷ p) l e =
    inr (child-there own (tree_places own n) (tasks_of (own t)) k p s
    (λ c is at. let m : rank c < rank t = hole-is (λ d. rank d < rank t) (own t) k c (falls t) is in
    place-there rank own falls n c s p (omega (arith, l, m)) at) (slice_get (tasks_of (own t)) k) refl e)

-- what is below some tasks
pub record InChild {H : Type 0} (f : H → List (List ℕ)) (n : ℕ) (ts : List H) (p : List ℕ) : Type 0 where
  pub number : ℕ
  pub rest : List ℕ
  pub task : H
  pub is : p ≡ (n + number) ∷ rest
  pub at : slice_get ts number ≡ Some task
  pub has : Has rest (f task)

first-child : {H : Type 0} → (f : H → List (List ℕ)) (n : ℕ) (t : H) (ts : List H) (p : List ℕ) → Below n p (f t) → InChild f n (t ∷ ts) p
first-child f n t ts p b =
    record { number = 0; rest = b.rest; task = t; is = b.is ∙ ap (λ m. m ∷ b.rest) (omega arith); at = refl; has = b.has }

later-child : {H : Type 0} → (f : H → List (List ℕ)) (n : ℕ) (t : H) (ts : List H) (p : List ℕ) → InChild f (suc n) ts p → InChild f n (t ∷ ts) p
later-child f n t ts p r =
    record { number = suc r.number; rest = r.rest; task = r.task; is = r.is ∙ ap (λ m. m ∷ r.rest) (omega arith); at = r.at; has = r.has }

pub in-child : {H : Type 0} → (f : H → List (List ℕ)) (n : ℕ) (ts : List H) (p : List ℕ) → Has p (numbered_places f n ts) → InChild f n ts p
in-child f n [] p h = absurd h
in-child f n (t ∷ ts) p h =
    ⊎_elim (λ a. first-child f n t ts p (has-mapped n p (f t) a)) (λ b. later-child f n t ts p (in-child f (suc n) ts p b))
    (has-either p (map (λ q. n ∷ q) (f t)) (numbered_places f (suc n) ts) h)

child-is : {H : Type 0} → (own : H → Trace H) (f : H → List (List ℕ)) (ts : List H) (p : List ℕ) →
    ((c : H) (q : List ℕ) → Has q (f c) → (s : H) × (task_at own (Some c) q ≡ Some s)) → (root : H) → tasks_of (own root) ≡ ts → InChild f 0 ts p →
    (s : H) × (task_at own (Some root) p ≡ Some s)
child-is {H} own f ts p g root same r =
    let i : p ≡ r.number ∷ r.rest = r.is ∙ ap (λ m. m ∷ r.rest) (omega arith) in
    let s = g r.task r.rest r.has in (
      s.0,
      ap (task_at own (Some root)) i ∙ ap (λ (cs : List H). task_at own (slice_get cs r.number) r.rest) same
          ∙ ap (λ (o : Option H). task_at own o r.rest) r.at ∙ s.1,
    )

-- and nothing else is there
pub there-is : {H : Type 0} → (own : H → Trace H) (n : ℕ) (t : H) (p : List ℕ) → Has p (tree_places own n t) → (s : H) × (task_at own (Some t) p ≡ Some s)
unfolding tree_places
there-is own zero t p h = absurd h
there-is own (suc n) t p (inl e) = (t, ap (task_at own (Some t)) e)
there-is own (suc n) t p (inr h) =
    child-is own (tree_places own n) (tasks_of (own t)) p (λ c q i. there-is own n c q i) t refl (in-child (tree_places own n) 0 (tasks_of (own t)) p h)

numbered-ordered : {H : Type 0} → (f : H → List (List ℕ)) → ((t : H) → InOrder (f t)) → (n : ℕ) (ts : List H) → InOrder (numbered_places f n ts)
numbered-ordered f all n [] = tt
numbered-ordered f all n (t ∷ ts) =
    join-ordered (map (λ p. n ∷ p) (f t)) (numbered_places f (suc n) ts) (map-ordered n (f t) (all t)) (numbered-ordered f all (suc n) ts)
    (λ p q i j.
    let a = has-mapped n p (f t) i in
    let b = in-child f (suc n) ts q j in
    subst (λ z. Before z q) (sym a.is) (subst (λ z. Before (n ∷ a.rest) z) (sym b.is) (inl (omega arith))))

-- they are in order
pub tree-ordered : {H : Type 0} → (own : H → Trace H) (n : ℕ) (t : H) → InOrder (tree_places own n t)
unfolding tree_places
tree-ordered own zero t = tt
tree-ordered own (suc n) t = (
  λ q h. let r = in-child (tree_places own n) 0 (tasks_of (own t)) q h in subst (λ z. Before [] z) (sym r.is) tt,
  numbered-ordered (tree_places own n) (λ c. tree-ordered own n c) 0 (tasks_of (own t)),
)

-- ---- trees that are the same

numbered-same : {H : Type 0} → (f g : H → List (List ℕ)) → ((t : H) → f t ≡ g t) → (n : ℕ) (ts : List H) → numbered_places f n ts ≡ numbered_places g n ts
numbered-same f g e n [] = refl
numbered-same f g e n (t ∷ ts) =
    ap (λ z. map (λ p. n ∷ p) z ++ numbered_places f (suc n) ts) (e t) ∙ ap (λ z. map (λ p. n ∷ p) (g t) ++ z) (numbered-same f g e (suc n) ts)

pub tree-same : {H : Type 0} → (own other : H → Trace H) → ((t : H) → own t ≡ other t) → (n : ℕ) (t : H) → tree_places own n t ≡ tree_places other n t
unfolding tree_places
tree-same own other e zero t = refl
tree-same {H} own other e (suc n) t =
    ap (λ z. [] ∷ z)
    (numbered-same (tree_places own n) (tree_places other n) (λ c. tree-same own other e n c) 0 (tasks_of (own t))
    ∙ ap (λ (x : Trace H). numbered_places (tree_places other n) 0 (tasks_of x)) (e t))
