-- Items that are added to a store, and the marks that they represent.
use Rattle.std.proofs.Common.{◌≡◌, ℕ, zero, suc, ◌+◌, List, [], ◌∷◌, ◌++◌, Option, Some, None, Bool, true, false, ◌&&◌, nat_eq, cond, refl, sym}
use Rattle.std.proofs.Common.{ap, subst, ◌∙◌, append_assoc, append-nil, arith}
use Rattle.std.proofs.lemmas.Bool.{true≢false}
use Rattle.std.proofs.lemmas.Bool.Decides.{nat_tests}
use Rattle.xs_trace.specs.Mark.{Tick, Trace, ticks}
use Rattle.xs_trace.specs.Kept.{item_marks, marks_of, first_run, IsPacked, IsSingle}
use Rattle.xs_trace.specs.State.{Shared, allows}
use Rattle.xs_trace.specs.Cut.{Full, less}
use Rattle.xs_trace.specs.Play.{Reported, goes, stops, put, put_in}
use Rattle.xs_record.specs.Store.{Store, at_ticks, counted, marked, is_open, put_into, limited_to, pending, TakesRun}
use Rattle.xs_trace.specs.declared.event.Event.{Event}
use Rattle.xs_trace.specs.declared.item.Item.{Item}
use Rattle.xs_trace.specs.declared.item.Item.TheVariants as item
use Rattle.xs_trace.specs.declared.item.Site.{Site}
use Rattle.xs_trace.proofs.KeptLemmas.{some_same}

pub marks-pushed : {H : Type 0} (is : List Item) (i : Item) → marks_of {H = H} (is ++ i ∷ []) ≡ marks_of is ++ item_marks i
marks-pushed [] i = append-nil (item_marks i)
marks-pushed (j ∷ is) i = ap (λ t. item_marks j ++ t) (marks-pushed is i) ∙ sym (append_assoc (item_marks j) (marks_of is) (item_marks i))

pub ticks-plus : {H : Type 0} (p : Site) (n m : ℕ) → ticks {H = H} p (n + m) [] ≡ ticks p n [] ++ ticks p m []
ticks-plus p zero m = let e : 0 + m ≡ m = omega arith in ap (λ k. ticks p k []) e
ticks-plus p (suc n) m = let e : suc n + m ≡ suc (n + m) = omega arith in ap (λ k. ticks p k []) e ∙ ap (λ t. Tick p ∷ t) (ticks-plus p n m)

-- a run goes on
pub runs-on : {H : Type 0} (t : Trace H) (p : Site) (n m : ℕ) → t ++ ticks p (n + m) [] ≡ (t ++ ticks p n []) ++ ticks p m []
runs-on t p n m = ap (λ u. t ++ u) (ticks-plus p n m) ∙ sym (append_assoc t (ticks p n []) (ticks p m []))

-- ticks that are pending become an item
pub marks-pending : {H : Type 0} (is : List Item) (p : Site) (n : ℕ) → marks_of {H = H} (is ++ pending p n) ≡ marks_of is ++ ticks p n []
marks-pending is p zero = ap marks_of (append-nil is) ∙ sym (append-nil (marks_of is))
marks-pending is p (suc n) = marks-pushed is (item.Run p.«module» p.line (suc n))

site-by : (p q : Site) → p.«module» ≡ q.«module» → p.line ≡ q.line → p ≡ q
site-by p q a b = ap (λ m. record { «module» = m; line = p.line }) a ∙ ap (λ l. record { «module» = q.«module»; line = l }) b

both-same : (a b c d : ℕ) → true ≡ (nat_eq a b && nat_eq c d) → (a ≡ b) × (c ≡ d)
both-same a b c d h = (grind (arith, nat_tests, h), grind (arith, nat_tests, h))

-- two places that are tested to be one
pub same-site : (p q : Site) → true ≡ (nat_eq p.«module» q.«module» && nat_eq p.line q.line) → p ≡ q
same-site p q h =
    let e : (p.«module» ≡ q.«module») × (p.line ≡ q.line) = both-same _ _ _ _ h in
    site-by p q e.0 e.1

-- two places that are tested not to be one
pub other-site : (p q : Site) → false ≡ (nat_eq p.«module» q.«module» && nat_eq p.line q.line) → p ≡ q → ⊥
other-site p q h e =
    let a : p.«module» ≡ q.«module» = ap (λ s. s.«module») e in
    let b : p.line ≡ q.line = ap (λ s. s.line) e in
    differs _ _ _ _ h a b
  where
    differs : (a b c d : ℕ) → false ≡ (nat_eq a b && nat_eq c d) → a ≡ b → c ≡ d → ⊥
    differs a b c d h e f = grind (arith, nat_tests, h, e, f)

-- which run comes first, by what stands before
first-single : (is : List Item) (i : Item) (js : List Item) → IsSingle i → first_run ((is ++ i ∷ []) ++ js) ≡ first_run is
first-single [] (item.Run m l n) js h = absurd h
first-single [] (item.Put e) js h = refl
first-single [] (item.Say t) js h = refl
first-single (item.Run m l n ∷ is) i js h = refl
first-single (item.Put e ∷ is) i js h = refl
first-single (item.Say t ∷ is) i js h = refl

first-raised : (is : List Item) (p : Site) (n m : ℕ) → first_run (is ++ pending p (suc n)) ≡ first_run (is ++ pending p (suc m))
first-raised [] p n m = refl
first-raised (item.Run a l k ∷ is) p n m = refl
first-raised (item.Put e ∷ is) p n m = refl
first-raised (item.Say t ∷ is) p n m = refl

first-behind : (is : List Item) (p : Site) (n : ℕ) (js : List Item) → first_run ((is ++ pending p (suc n)) ++ js) ≡ first_run (is ++ pending p (suc n))
first-behind [] p n js = refl
first-behind (item.Run a l k ∷ is) p n js = refl
first-behind (item.Put e ∷ is) p n js = refl
first-behind (item.Say t ∷ is) p n js = refl

has_site : Option Site → ℕ
has_site None = 0
has_site (Some p) = 1

pub none-site : (p : Site) → None ≡ Some p → ⊥
unfolding has_site
none-site p e = let d : 0 ≡ 1 = ap has_site e in absurd (omega (arith, d))

first-none : (is : List Item) (q p : Site) → (first_run (is ++ pending q 1) ≡ Some p → ⊥) → first_run is ≡ Some p → ⊥
first-none [] q p h e = none-site p e
first-none (item.Run a l k ∷ is) q p h e = h e
first-none (item.Put v ∷ is) q p h e = h e
first-none (item.Say t ∷ is) q p h e = h e

-- packed lists
packed-before : (is : List Item) (q : Site) → IsPacked (is ++ pending q 1) → IsPacked is
packed-before [] q h = tt
packed-before (item.Run m l n ∷ is) q h = (h.0, (first-none is q _ h.1.0, packed-before is q h.1.1))
packed-before (item.Put e ∷ is) q h = packed-before is q h
packed-before (item.Say t ∷ is) q h = packed-before is q h

packed-raised : (is : List Item) (p : Site) (n m : ℕ) → IsPacked (is ++ pending p (suc n)) → IsPacked (is ++ pending p (suc m))
packed-raised [] p n m h = (omega arith, (h.1.0, tt))
packed-raised (item.Run a l k ∷ is) p n m h = (h.0, ((λ e. h.1.0 (first-raised is p n m ∙ e)), packed-raised is p n m h.1.1))
packed-raised (item.Put e ∷ is) p n m h = packed-raised is p n m h
packed-raised (item.Say t ∷ is) p n m h = packed-raised is p n m h

packed-next : (is : List Item) (p q : Site) (n m : ℕ) → (q ≡ p → ⊥) → IsPacked (is ++ pending p (suc n)) →
    IsPacked ((is ++ pending p (suc n)) ++ pending q (suc m))
packed-next [] p q n m d h = (h.0, ((λ e. d (some_same e)), (omega arith, (none-site _, tt))))
packed-next (item.Run a l k ∷ is) p q n m d h = (h.0, ((λ e. h.1.0 (sym (first-behind is p n (pending q (suc m))) ∙ e)), packed-next is p q n m d h.1.1))
packed-next (item.Put e ∷ is) p q n m d h = packed-next is p q n m d h
packed-next (item.Say t ∷ is) p q n m d h = packed-next is p q n m d h

packed-single : (is : List Item) (i : Item) (q : Site) → IsSingle i → IsPacked is → IsPacked ((is ++ i ∷ []) ++ pending q 1)
packed-single [] (item.Run m l n) q s h = absurd s
packed-single [] (item.Put e) q s h = (omega arith, (none-site _, tt))
packed-single [] (item.Say t) q s h = (omega arith, (none-site _, tt))
packed-single (item.Run a l k ∷ is) i q s h = (h.0, ((λ e. h.1.0 (sym (first-single is i (pending q 1) s) ∙ e)), packed-single is i q s h.1.1))
packed-single (item.Put e ∷ is) i q s h = packed-single is i q s h
packed-single (item.Say t ∷ is) i q s h = packed-single is i q s h

-- what a store takes next
pub packed-pending : (is : List Item) (p : Site) (n : ℕ) → TakesRun is p n → IsPacked (is ++ pending p n)
packed-pending is p zero h = subst IsPacked (sym (append-nil is)) (packed-before is p (h p))
packed-pending is p (suc n) h = h

takes-more : (is : List Item) (p : Site) (n k : ℕ) → TakesRun is p n → TakesRun is p (suc k)
takes-more is p zero k h = packed-raised is p 0 k (h p)
takes-more is p (suc n) k h = packed-raised is p n k h

pub takes-sum : (is : List Item) (p : Site) (n m sum : ℕ) → (m ≡ 0 → ⊥) → sum ≡ n + m → TakesRun is p n → TakesRun is p sum
takes-sum is p n m zero nz e h = absurd (nz (omega (arith, e)))
takes-sum is p n m (suc k) nz e h = takes-more is p n k h

pub takes-next : (is : List Item) (p q : Site) (n m : ℕ) → (q ≡ p → ⊥) → (m ≡ 0 → ⊥) → TakesRun is p n → TakesRun (is ++ pending p n) q m
takes-next is p q n zero d nz h = absurd (nz refl)
takes-next is p q zero (suc m) d nz h = packed-raised (is ++ []) q 0 m (subst (λ js. IsPacked (js ++ pending q 1)) (sym (append-nil is)) (h q))
takes-next is p q (suc n) (suc m) d nz h = packed-next is p q n m d h

pub takes-any : (is : List Item) (p : Site) (n : ℕ) (i : Item) → IsSingle i → TakesRun is p n → (q : Site) →
    IsPacked (((is ++ pending p n) ++ i ∷ []) ++ pending q 1)
takes-any is p n i s h q = packed-single (is ++ pending p n) i q s (packed-pending is p n h)

-- what a store holds
abbrev Holds : {H : Type 0} → Trace H → List (List Event) → Site → Store H
Holds t cs p = record { reported = t; captures = cs; at = p }

store-is : {H : Type 0} (t u : Trace H) (cs : List (List Event)) (p q : Site) → t ≡ u → p ≡ q → Holds (t) cs p ≡ Holds (u) cs q
store-is t u cs p q e d = ap (λ v. Holds (v) cs p) e ∙ ap (λ v. Holds (u) cs v) d

stands-at : (n : ℕ) (p at : Site) → (n ≡ 0 → ⊥) → p ≡ at_ticks n p at
stands-at zero p at h = absurd (h refl)
stands-at (suc n) p at h = refl

pub count-same : {H : Type 0} (is : List Item) (cs : List (List Event)) (p at : Site) (run n sum : ℕ) (s : Store H) →
    Holds (marks_of is ++ ticks at run []) cs at ≡ s → (n ≡ 0 → ⊥) → p ≡ at → sum ≡ run + n → Holds (marks_of is ++ ticks at sum []) cs at ≡ counted p n s
count-same is cs p at run n sum s v nz e f =
    store-is _ _ cs at (at_ticks n p at)
    (ap (λ k. marks_of is ++ ticks at k []) f ∙ runs-on (marks_of is) at run n ∙ ap (λ q. (marks_of is ++ ticks at run []) ++ ticks q n []) (sym e))
    (sym e ∙ stands-at n p at nz)
    ∙ ap (counted p n) v

pub count-other : {H : Type 0} (is js : List Item) (cs : List (List Event)) (p at : Site) (run n : ℕ) (s : Store H) →
    Holds (marks_of is ++ ticks at run []) cs at ≡ s → (n ≡ 0 → ⊥) → js ≡ is ++ pending at run → Holds (marks_of js ++ ticks p n []) cs p ≡ counted p n s
count-other is js cs p at run n s v nz e =
    store-is _ _ cs p (at_ticks n p at) (ap (λ l. marks_of l ++ ticks p n []) e ∙ ap (λ t. t ++ ticks p n []) (marks-pending is at run)) (stands-at n p at nz)
    ∙ ap (counted p n) v

pub push-marked : {H : Type 0} (is js : List Item) (cs : List (List Event)) (at : Site) (run : ℕ) (i : Item) (s : Store H) →
    Holds (marks_of is ++ ticks at run []) cs at ≡ s → js ≡ (is ++ pending at run) ++ i ∷ [] →
    Holds (marks_of js ++ ticks at 0 []) cs at ≡ marked (item_marks i) s
push-marked is js cs at run i s v e =
    store-is _ _ cs at at
    (append-nil (marks_of js) ∙ ap marks_of e ∙ marks-pushed (is ++ pending at run) i ∙ ap (λ t. t ++ item_marks i) (marks-pending is at run)) refl
    ∙ ap (marked (item_marks i)) v

-- an event that is put, under a limit
pub put_captured : {H : Type 0} (e : Event) (s k : Store H) (room : Option ℕ) (left : ℕ) (h : Shared) → is_open s.captures ≡ true →
    k ≡ put_into s.captures e s → put e (limited_to room left h s) ≡ goes (limited_to room left h k)
put_captured e s k room left h o d = captured s.captures o ∙ ap (λ m. goes (limited_to room left h m)) (sym d)
  where
    captured : (cs : List (List Event)) → is_open cs ≡ true → put_in cs e (limited_to room left h s) ≡ goes (limited_to room left h (put_into cs e s))
    captured [] q = absurd (true≢false (sym q))
    captured (c ∷ cs) q = refl

abbrev Puts : {H : Type 0} → List (List Event) → Bool → Event → Option ℕ → ℕ → Shared → Store H → Reported H
Puts [] b e room left h s = cond b (goes (limited_to (less room 1) left h (put_into [] e s))) (stops (Full s.at) (limited_to room left h s))
Puts (c ∷ cs) b e room left h s = goes (limited_to room left h (put_into (c ∷ cs) e s))

puts : {H : Type 0} (cs : List (List Event)) (e : Event) (room : Option ℕ) (left : ℕ) (h : Shared) (s : Store H) →
    put_in cs e (limited_to room left h s) ≡ Puts cs (allows room 1) e room left h s
puts [] e room left h s = refl
puts (c ∷ cs) e room left h s = refl

puts-by : {H : Type 0} (cs : List (List Event)) (b : Bool) (e : Event) (room : Option ℕ) (left : ℕ) (h : Shared) (s : Store H) → is_open cs ≡ false →
    Puts cs b e room left h s ≡ cond b (goes (limited_to (less room 1) left h (put_into cs e s))) (stops (Full s.at) (limited_to room left h s))
puts-by [] b e room left h s o = refl
puts-by (c ∷ cs) b e room left h s o = absurd (true≢false o)

pub put_spent : {H : Type 0} (e : Event) (s k : Store H) (room after : Option ℕ) (left : ℕ) (h : Shared) → is_open s.captures ≡ false →
    allows room 1 ≡ true → after ≡ less room 1 → k ≡ put_into s.captures e s → put e (limited_to room left h s) ≡ goes (limited_to after left h k)
put_spent e s k room after left h o a f d =
    puts s.captures e room left h s ∙ puts-by s.captures (allows room 1) e room left h s o
    ∙ ap (λ b. cond b (goes (limited_to (less room 1) left h (put_into s.captures e s))) (stops (Full s.at) (limited_to room left h s))) a
    ∙ ap (λ m. goes (limited_to (less room 1) left h m)) (sym d) ∙ ap (λ r. goes (limited_to r left h k)) (sym f)

pub put_full : {H : Type 0} (e : Event) (s : Store H) (room after : Option ℕ) (at : Site) (left : ℕ) (h : Shared) → is_open s.captures ≡ false →
    allows room 1 ≡ false → after ≡ room → at ≡ s.at → put e (limited_to room left h s) ≡ stops (Full at) (limited_to after left h s)
put_full e s room after at left h o a f d =
    puts s.captures e room left h s ∙ puts-by s.captures (allows room 1) e room left h s o
    ∙ ap (λ b. cond b (goes (limited_to (less room 1) left h (put_into s.captures e s))) (stops (Full s.at) (limited_to room left h s))) a
    ∙ ap (λ r. stops (Full s.at) (limited_to r left h s)) (sym f) ∙ ap (λ p. stops (Full p) (limited_to after left h s)) (sym d)
