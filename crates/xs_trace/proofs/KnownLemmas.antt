-- What is known of a cut trace serves all smaller remainders; and what is said of a trace is known by its cut.
use Rattle.std.proofs.Common.{◌≡◌, ◌≤◌, ℕ, zero, suc, ◌-◌, [], ◌∷◌, length, Option, Some, None, true, cond, nat_le}
use Rattle.std.proofs.Common.{refl, sym, ap, ◌∙◌, arith}
use Rattle.std.proofs.lemmas.Bool.Decides.{nat_tests}
use Rattle.xs_trace.specs.Mark.{Mark, Tick, Put, Say, Stop, Need, Hole, Trace, ◌⨾◌, tick_count, events_of, last_site}
use Rattle.xs_trace.specs.Cut.{End, Whole, Fault, Needs, Spent, Full, Cut, after_mark, cut_from, less, Within, followed}
use Rattle.xs_trace.specs.Fill.{fill, numbered}
use Rattle.xs_trace.specs.State.{Log, Shared, adds}
use Rattle.xs_trace.specs.Play.{Reported, Ends, goes, and_then, play}
use Rattle.xs_trace.specs.declared.item.Site.{Site}
use Rattle.xs_trace.proofs.CutLemmas.{then-assoc, cut-then}
use Rattle.xs_trace.proofs.GrowthLemmas.{adds-nil, adds-adds}
use Rattle.xs_trace.specs.Known.{known}
use Rattle.xs_trace.specs.PieceLaws.{plain, NumberedLaws}

pub less-within : (s m : Option ℕ) (n : ℕ) → Within s m → Within (less s n) m
less-within s None n w = tt
less-within None (Some m) n w = absurd w
less-within (Some s) (Some m) n w = omega (arith, w)

pub cut-serves : {H K : Type 0} → (f : H → Trace K) (x : Trace H) (y : Trace K) (from at : Site) (b r : ℕ) (m s : Option ℕ) → r ≤ b → Within s m →
    cut_from (fill f (known (cut_from x from b m)) ⨾ y) at r s ≡ cut_from (fill f x ⨾ y) at r s
cut-serves f [] y from at b r m s le w = refl
cut-serves f (Tick p ∷ x) y from at zero zero m s le w = refl
cut-serves f (Tick p ∷ x) y from at zero (suc r) m s le w = absurd (omega arith)
cut-serves f (Tick p ∷ x) y from at (suc b) zero m s le w = refl
cut-serves f (Tick p ∷ x) y from at (suc b) (suc r) m s le w = ap (after_mark (Tick p)) (cut-serves f x y p p b r m s (omega arith) w)
cut-serves f (Put v ∷ x) y from at b r None None le w = ap (after_mark (Put v)) (cut-serves f x y from at b r None None le w)
cut-serves f (Put v ∷ x) y from at b r None (Some zero) le w = refl
cut-serves f (Put v ∷ x) y from at b r None (Some (suc s)) le w = ap (after_mark (Put v)) (cut-serves f x y from at b r None (Some s) le w)
cut-serves f (Put v ∷ x) y from at b r (Some m) None le w = absurd w
cut-serves f (Put v ∷ x) y from at b r (Some zero) (Some zero) le w = refl
cut-serves f (Put v ∷ x) y from at b r (Some zero) (Some (suc s)) le w = absurd (omega arith)
cut-serves f (Put v ∷ x) y from at b r (Some (suc m)) (Some zero) le w = refl
cut-serves f (Put v ∷ x) y from at b r (Some (suc m)) (Some (suc s)) le w =
    ap (after_mark (Put v)) (cut-serves f x y from at b r (Some m) (Some s) le (omega arith))
cut-serves f (Say t ∷ x) y from at b r m s le w = ap (after_mark (Say t)) (cut-serves f x y from at b r m s le w)
cut-serves f (Stop n p ∷ x) y from at b r m s le w = refl
cut-serves f (Need g p ∷ x) y from at b r m s le w = refl
cut-serves {H} {K} f (Hole k ∷ x) y from at b r m s le w =
    let i = cut-serves f x y from (last_site at (f k)) b (r - tick_count (f k)) m (less s (length (events_of (f k)))) (omega (arith, le))
    (less-within s m _ w) in
    split (known (cut_from x from b m)) ∙ ap (followed (cut_from (f k) at r s)) i ∙ sym (split x)
  where
    split : (z : Trace H) → cut_from ((f k ⨾ fill f z) ⨾ y) at r s ≡
        followed (cut_from (f k) at r s) (cut_from (fill f z ⨾ y) (last_site at (f k)) (r - tick_count (f k)) (less s (length (events_of (f k)))))
    split z = ap (λ t. cut_from t at r s) (then-assoc (f k) (fill f z) y) ∙ cut-then (f k) (fill f z ⨾ y) at r s

-- what is reported, by what passed and the end
abbrev pub shows : {H : Type 0} → Log H → Site → ℕ → Option ℕ → Shared → Trace H → End → Reported H
shows l at b m h x Whole = goes (plain (adds l x) (last_site at x) (b - tick_count x) (less m (length (events_of x))) h)
shows l at b m h x (Fault f p) = Ends (Fault f p) (adds l x) (Some (b - tick_count x)) h
shows l at b m h x (Needs g p) = Ends (Needs g p) (adds l x) (Some (b - tick_count x)) h
shows l at b m h x (Spent p) = Ends (Spent p) (adds l x) (Some 0) h
shows l at b m h x (Full p) = Ends (Full p) (adds l x) (Some (b - tick_count x)) h

-- a mark that is reported first
shows-after : {H : Type 0} → (l : Log H) (at to : Site) (b d : ℕ) (m n : Option ℕ) (h : Shared) (k : Mark H) (x : Trace H) (e : End) →
    last_site at (k ∷ x) ≡ last_site to x → b - tick_count (k ∷ x) ≡ d - tick_count x → less m (length (events_of (k ∷ x))) ≡ less n (length (events_of x)) →
    shows (adds l (k ∷ [])) to d n h x e ≡ shows l at b m h (k ∷ x) e
shows-after l at to b d m n h k x Whole p q r = let a = adds-adds l (k ∷ []) x in cc
shows-after l at to b d m n h k x (Fault f s) p q r = let a = adds-adds l (k ∷ []) x in cc
shows-after l at to b d m n h k x (Needs g s) p q r = let a = adds-adds l (k ∷ []) x in cc
shows-after l at to b d m n h k x (Spent s) p q r = let a = adds-adds l (k ∷ []) x in cc
shows-after l at to b d m n h k x (Full s) p q r = let a = adds-adds l (k ∷ []) x in cc

less-none : (o : Option ℕ) → o ≡ less o 0
less-none None = refl
less-none (Some m) = let e : m ≡ m - 0 = omega arith in ap Some e

le-one : (k : ℕ) → nat_le 1 (suc k) ≡ true
le-one k = grind (arith, nat_tests)

tick-goes : {H : Type 0} → (p : Site) (x : Trace H) (l : Log H) (at : Site) (b : ℕ) (m : Option ℕ) (h : Shared) →
    play (Tick p ∷ x) (plain l at (suc b) m h) ≡ play x (plain (adds l (Tick p ∷ [])) p b m h)
tick-goes p x l at b m h =
    let e : suc b - 1 ≡ b = omega arith in
    ap (λ o. and_then (cond o (goes (plain (adds l (Tick p ∷ [])) p (suc b - 1) m h)) (Ends (Spent p) l (Some 0) h)) (λ u n. play x n)) (le-one b)
    ∙ ap (λ n. play x (plain (adds l (Tick p ∷ [])) p n m h)) e

put-goes : {H : Type 0} → (v : _) (x : Trace H) (l : Log H) (at : Site) (b m : ℕ) (h : Shared) →
    play (Put v ∷ x) (plain l at b (Some (suc m)) h) ≡ play x (plain (adds l (Put v ∷ [])) at b (Some m) h)
put-goes v x l at b m h =
    let e : suc m - 1 ≡ m = omega arith in
    ap (λ o. and_then (cond o (goes (plain (adds l (Put v ∷ [])) at b (Some (suc m - 1)) h)) (Ends (Full at) l (Some b) h)) (λ u n. play x n)) (le-one m)
    ∙ ap (λ n. play x (plain (adds l (Put v ∷ [])) at b (Some n) h)) e

pub play-shows : {H : Type 0} → (x : Trace H) (l : Log H) (at : Site) (b : ℕ) (m : Option ℕ) (h : Shared) →
    play x (plain l at b m h) ≡ shows l at b m h (cut_from x at b m).passed (cut_from x at b m).end
play-shows [] l at b m h =
    let e : b ≡ b - 0 = omega arith in
    let a = adds-nil l in
    let o = less-none m in
    cc
play-shows (Tick p ∷ x) l at zero m h = ap (λ o. Ends (Spent p) o (Some 0) h) (sym (adds-nil l))
play-shows (Tick p ∷ x) l at (suc b) m h =
    tick-goes p x l at b m h ∙ play-shows x (adds l (Tick p ∷ [])) p b m h
    ∙ shows-after l at p (suc b) b m m h (Tick p) (cut_from x p b m).passed (cut_from x p b m).end refl (omega arith) refl
play-shows (Put v ∷ x) l at b None h =
    play-shows x (adds l (Put v ∷ [])) at b None h
    ∙ shows-after l at at b b None None h (Put v) (cut_from x at b None).passed (cut_from x at b None).end refl refl refl
play-shows (Put v ∷ x) l at b (Some zero) h =
    let e : b ≡ b - 0 = omega arith in
    let a = adds-nil l in
    cc
play-shows (Put v ∷ x) l at b (Some (suc m)) h =
    let e : suc m - suc (length (events_of (cut_from x at b (Some m)).passed)) ≡ m - length (events_of (cut_from x at b (Some m)).passed) = omega arith in
    put-goes v x l at b m h ∙ play-shows x (adds l (Put v ∷ [])) at b (Some m) h
    ∙ shows-after l at at b b (Some (suc m)) (Some m) h (Put v) (cut_from x at b (Some m)).passed (cut_from x at b (Some m)).end refl refl (ap Some e)
play-shows (Say t ∷ x) l at b m h =
    play-shows x (adds l (Say t ∷ [])) at b m h
    ∙ shows-after l at at b b m m h (Say t) (cut_from x at b m).passed (cut_from x at b m).end refl refl refl
play-shows (Stop f p ∷ x) l at b m h =
    let e : b ≡ b - 0 = omega arith in
    let a = adds-nil l in
    cc
play-shows (Need g p ∷ x) l at b m h =
    let e : b ≡ b - 0 = omega arith in
    let a = adds-nil l in
    cc
play-shows (Hole k ∷ x) l at b m h =
    play-shows x (adds l (Hole k ∷ [])) at b m h
    ∙ shows-after l at at b b m m h (Hole k) (cut_from x at b m).passed (cut_from x at b m).end refl refl refl

pub play-same : {H : Type 0} → (x z : Trace H) (l : Log H) (at : Site) (b : ℕ) (m : Option ℕ) (h : Shared) → cut_from x at b m ≡ cut_from z at b m →
    play x (plain l at b m h) ≡ play z (plain l at b m h)
play-same x z l at b m h e = play-shows x l at b m h ∙ ap (λ (c : Cut _). shows l at b m h c.passed c.end) e ∙ sym (play-shows z l at b m h)

-- cutting and numbering, in either order
numbered-cut : {H : Type 0} → (x : Trace H) (at : Site) (b : ℕ) (m : Option ℕ) (n : ℕ) →
    cut_from (numbered n x) at b m ≡ record { passed = numbered n (cut_from x at b m).passed; end = (cut_from x at b m).end }
numbered-cut [] at b m n = refl
numbered-cut (Tick p ∷ x) at zero m n = refl
numbered-cut (Tick p ∷ x) at (suc b) m n = ap (after_mark (Tick p)) (numbered-cut x p b m n)
numbered-cut (Put e ∷ x) at b None n = ap (after_mark (Put e)) (numbered-cut x at b None n)
numbered-cut (Put e ∷ x) at b (Some zero) n = refl
numbered-cut (Put e ∷ x) at b (Some (suc m)) n = ap (after_mark (Put e)) (numbered-cut x at b (Some m) n)
numbered-cut (Say t ∷ x) at b m n = ap (after_mark (Say t)) (numbered-cut x at b m n)
numbered-cut (Stop f p ∷ x) at b m n = refl
numbered-cut (Need g p ∷ x) at b m n = refl
numbered-cut (Hole k ∷ x) at b m n = ap (after_mark (Hole n)) (numbered-cut x at b m (suc n))

numbered-ticks : {H : Type 0} → (n : ℕ) (x : Trace H) → tick_count (numbered n x) ≡ tick_count x
numbered-ticks n [] = refl
numbered-ticks n (Tick p ∷ x) = ap suc (numbered-ticks n x)
numbered-ticks n (Put e ∷ x) = numbered-ticks n x
numbered-ticks n (Say t ∷ x) = numbered-ticks n x
numbered-ticks n (Stop f p ∷ x) = numbered-ticks n x
numbered-ticks n (Need g p ∷ x) = numbered-ticks n x
numbered-ticks n (Hole k ∷ x) = numbered-ticks (suc n) x

pub numbered-laws : (H : Type 0) → NumberedLaws H
numbered-laws H = record { cuts = numbered-cut; ticks = numbered-ticks }
