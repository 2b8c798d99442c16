-- The laws of traces that are reported to a recorder, by induction on the marks.
use Rattle.std.proofs.Common.{◌≡◌, ℕ, zero, suc, ◌-◌, ◌/◌, length, List, [], ◌∷◌, ◌++◌, Option, Some, None, Bool, true, false, cond, nat_le, refl}
use Rattle.std.proofs.Common.{sym, ap, ◌∙◌, arith, append_assoc, append-nil}
use Rattle.std.proofs.lemmas.Bool.Decides.{nat_tests}
use Rattle.xs_trace.specs.Event.{text_of}
use Rattle.xs_trace.specs.Mark.{Tick, Put, Say, Stop, Need, Hole, Trace, ◌⨾◌, ticks, tick_count, events_of, without_puts, captured}
use Rattle.xs_trace.specs.Cut.{End, Spent, Full, cut_from, less}
use Rattle.xs_trace.specs.State.{State, Log, Shared, moved, allows, adds, stands, with_ticks, after_tick, captures_are, opened, popped, top, said, shown}
use Rattle.xs_trace.specs.Play.{Step, Goes, Ends, Reported, goes, and_then, ticked, ticked_by, number, put, put_at, said_at, play, reported_of, left_of, end_of}
use Rattle.xs_trace.specs.PlayLaws.{ReportsCut, captures_from}
use Rattle.xs_trace.specs.declared.event.Event.{Event}
use Rattle.xs_trace.specs.declared.item.Site.{Site}
use Rattle.xs_trace.proofs.GrowthLemmas.{adds-nil, adds-adds}

-- chains
pub then-same : {H : Type 0} → {A B : Type 0} (g : Step H A) (f h : A → State H → Step H B) → ((x : A) (s : State H) → f x s ≡ h x s) →
    and_then g f ≡ and_then g h
then-same (Goes x s) f h e = e x s
then-same (Ends end reported left o) f h e = refl

pub then-then : {H : Type 0} → {A B C : Type 0} (g : Step H A) (f : A → State H → Step H B) (h : B → State H → Step H C) →
    and_then (and_then g f) h ≡ and_then g (λ x s. and_then (f x s) h)
then-then (Goes x s) f h = refl
then-then (Ends end reported left o) f h = refl

pub then-goes : {H : Type 0} → {A : Type 0} (g : Step H A) → and_then g (λ x s. Goes x s) ≡ g
then-goes (Goes x s) = refl
then-goes (Ends end reported left o) = refl

-- one trace after another
pub play-then : {H : Type 0} → (x y : Trace H) (s : State H) → play (x ⨾ y) s ≡ and_then (play x s) (λ u m. play y m)
play-then [] y s = refl
play-then (Tick p ∷ x) y s =
    then-same (ticked p s) (λ u m. play (x ⨾ y) m) (λ u m. and_then (play x m) (λ w n. play y n)) (λ u m. play-then x y m)
    ∙ sym (then-then (ticked p s) (λ u m. play x m) (λ u n. play y n))
play-then (Put e ∷ x) y s =
    then-same (put e s) (λ u m. play (x ⨾ y) m) (λ u m. and_then (play x m) (λ w n. play y n)) (λ u m. play-then x y m)
    ∙ sym (then-then (put e s) (λ u m. play x m) (λ u n. play y n))
play-then (Say t ∷ x) y s = play-then x y (said t s)
play-then (Stop f p ∷ x) y s = refl
play-then (Need g p ∷ x) y s = refl
play-then (Hole k ∷ x) y s = play-then x y (shown (Hole k) s)

-- many ticks at once
le-zero : (k : ℕ) → nat_le 0 k ≡ true
le-zero k = grind (arith, nat_tests)

le-none : (n : ℕ) → nat_le (suc n) 0 ≡ false
le-none n = grind (arith, nat_tests)

le-suc : (n k : ℕ) → nat_le n k ≡ nat_le (suc n) (suc k)
le-suc n k = grind (arith, nat_tests)

le-one : (k : ℕ) → nat_le 1 (suc k) ≡ true
le-one k = grind (arith, nat_tests)

stands-same : (n : ℕ) (p : Site) (at : Option Site) → stands n p (moved p at) ≡ moved p at
stands-same zero p at = refl
stands-same (suc n) p None = refl
stands-same (suc n) p (Some q) = refl

-- what follows n ticks at p, from what was reported, the place and what is left
abbrev At_once : {H : Type 0} → ℕ → Site → Trace H → Log H → Option Site → Bool → Option ℕ → ℕ → State H → Reported H
At_once n p x reported at b l k s =
    and_then (cond b (goes (with_ticks (adds reported (ticks p n [])) (stands n p at) l s)) (Ends (Spent p) (adds reported (ticks p k [])) (Some 0) s.shared))
    (λ u m. play x m)

ticks-once : {H : Type 0} → (n : ℕ) (p : Site) (x : Trace H) (reported : Log H) (at : Option Site) (l : Option ℕ) (s : State H) →
    play (ticks p n x) (with_ticks reported at l s) ≡ At_once n p x reported at (allows l n) (less l n) (number l) s
ticks-once zero p x reported at None s = ap (λ o. play x (with_ticks o at None s)) (sym (adds-nil reported))
ticks-once zero p x reported at (Some k) s =
    let e : k ≡ k - 0 = omega arith in
    ap (λ o. play x (with_ticks o at (Some k) s)) (sym (adds-nil reported))
    ∙ ap (λ n. play x (with_ticks (adds reported []) at (Some n) s)) e
    ∙ ap (λ b. At_once 0 p x reported at b (Some (k - 0)) k s) (sym (le-zero k))
ticks-once (suc n) p x reported at None s =
    ticks-once n p x (adds reported (Tick p ∷ [])) (moved p at) None s
    ∙ ap (λ o. play x (with_ticks o (stands n p (moved p at)) None s)) (adds-adds reported (Tick p ∷ []) (ticks p n []))
    ∙ ap (λ q. play x (with_ticks (adds reported (Tick p ∷ ticks p n [])) q None s)) (stands-same n p at)
ticks-once (suc n) p x reported at (Some zero) s =
    ap (λ o. Ends (Spent p) o (Some 0) s.shared) (sym (adds-nil reported))
    ∙ ap (λ b. At_once (suc n) p x reported at b (Some (0 - suc n)) 0 s) (sym (le-none n))
ticks-once (suc n) p x reported at (Some (suc k)) s =
    let e : suc k - 1 ≡ k = omega arith in
    let d : k - n ≡ suc k - suc n = omega arith in
    ap
    (λ b. and_then (cond b (goes (with_ticks (adds reported (Tick p ∷ [])) (moved p at) (Some (suc k - 1)) s)) (Ends (Spent p) reported (Some 0) s.shared))
    (λ u m. play (ticks p n x) m))
    (le-one k)
    ∙ ap (λ m. play (ticks p n x) (with_ticks (adds reported (Tick p ∷ [])) (moved p at) (Some m) s)) e
    ∙ ticks-once n p x (adds reported (Tick p ∷ [])) (moved p at) (Some k) s
    ∙ shift (nat_le n k)
    ∙ ap (λ b. At_once (suc n) p x reported at b (Some (k - n)) (suc k) s) (le-suc n k)
    ∙ ap (λ m. At_once (suc n) p x reported at (nat_le (suc n) (suc k)) (Some m) (suc k) s) d
  where
    shift : (b : Bool) → At_once n p x (adds reported (Tick p ∷ [])) (moved p at) b (Some (k - n)) k s ≡ At_once (suc n) p x reported at b (Some (k - n))
        (suc k) s
    shift true =
        ap (λ o. play x (with_ticks o (stands n p (moved p at)) (Some (k - n)) s)) (adds-adds reported (Tick p ∷ []) (ticks p n []))
        ∙ ap (λ q. play x (with_ticks (adds reported (Tick p ∷ ticks p n [])) q (Some (k - n)) s)) (stands-same n p at)
    shift false = ap (λ o. Ends (Spent p) o (Some 0) s.shared) (adds-adds reported (Tick p ∷ []) (ticks p k []))

pub play-ticks : {H : Type 0} → (p : Site) (n : ℕ) (x : Trace H) (s : State H) → play (ticks p n x) s ≡ and_then (ticked_by n p s) (λ u m. play x m)
play-ticks p n x s = ticks-once n p x s.reported s.at s.left s

pub play-put : {H : Type 0} → (p : Site) (e : Event) (s : State H) → put_at p e s ≡ play (ticks p (length (text_of e) / 256) (Put e ∷ [])) s
play-put p e s =
    then-same (ticked_by (length (text_of e) / 256) p s) (λ u m. put e m) (λ u m. and_then (put e m) (λ w n. goes n)) (λ u m. sym (then-goes (put e m)))
    ∙ sym (play-ticks p (length (text_of e) / 256) (Put e ∷ []) s)

pub play-say : {H : Type 0} → (p : Site) (t : List ℕ) (s : State H) → said_at p t s ≡ play (ticks p (length t / 256) (Say t ∷ [])) s
play-say p t s = sym (play-ticks p (length t / 256) (Say t ∷ []) s)

-- captured content
abbrev Closes : {H : Type 0} → (List Event → Trace H) → Reported H → Reported H
Closes f g = and_then g (λ u m. play (f (top m.captures)) (popped m))

captured-tick : {H : Type 0} → (p : Site) (x y : Trace H) (f : List Event → Trace H) (es : List Event) (cs : List (List Event)) (s : State H) (b : Bool) →
    ((m : State H) → Closes f (play x (captures_are (es ∷ cs) m)) ≡ play y (captures_are cs m)) →
    Closes f (and_then (cond b (goes (captures_are (es ∷ cs) (after_tick p s))) (Ends (Spent p) s.reported (Some 0) s.shared)) (λ u m. play x m)) ≡ and_then
    (cond b (goes (captures_are cs (after_tick p s))) (Ends (Spent p) s.reported (Some 0) s.shared)) (λ u m. play y m)
captured-tick p x y f es cs s true e = e (after_tick p s)
captured-tick p x y f es cs s false e = refl

pub play-captured-from : {H : Type 0} → (x : Trace H) (f : List Event → Trace H) (es : List Event) (cs : List (List Event)) (s : State H) →
    Closes f (play x (captures_are (es ∷ cs) s)) ≡ play (without_puts x ⨾ f (es ++ events_of x)) (captures_are cs s)
play-captured-from [] f es cs s = ap (λ l. play (f l) (captures_are cs s)) (sym (append-nil es))
play-captured-from (Tick p ∷ x) f es cs s =
    captured-tick p x (without_puts x ⨾ f (es ++ events_of x)) f es cs s (allows s.left 1) (λ m. play-captured-from x f es cs m)
play-captured-from (Put e ∷ x) f es cs s =
    play-captured-from x f (es ++ e ∷ []) cs s ∙ ap (λ l. play (without_puts x ⨾ f l) (captures_are cs s)) (append_assoc es (e ∷ []) (events_of x))
play-captured-from (Say t ∷ x) f es cs s = play-captured-from x f es cs (said t s)
play-captured-from (Stop n p ∷ x) f es cs s = refl
play-captured-from (Need n p ∷ x) f es cs s = refl
play-captured-from (Hole k ∷ x) f es cs s = play-captured-from x f es cs (shown (Hole k) s)

-- content from the middle of a capture on, as a value
from-tick : {H : Type 0} → (p : Site) (x y : Trace H) (es vs : List Event) (cs : List (List Event)) (s : State H) (b : Bool) →
    ((m : State H) → captures_from es cs x m ≡ and_then (play y (captures_are cs m)) (λ u n. Goes vs n)) →
    and_then (and_then (cond b (goes (captures_are (es ∷ cs) (after_tick p s))) (Ends (Spent p) s.reported (Some 0) s.shared)) (λ u m. play x m))
    (λ u m. Goes (top m.captures) (popped m)) ≡ and_then
    (and_then (cond b (goes (captures_are cs (after_tick p s))) (Ends (Spent p) s.reported (Some 0) s.shared)) (λ u m. play y m)) (λ u n. Goes vs n)
from-tick p x y es vs cs s true e = e (after_tick p s)
from-tick p x y es vs cs s false e = refl

pub captures-from : {H : Type 0} → (x : Trace H) (es : List Event) (cs : List (List Event)) (s : State H) →
    captures_from es cs x s ≡ and_then (play (without_puts x) (captures_are cs s)) (λ u m. Goes (es ++ events_of x) m)
captures-from [] es cs s = ap (λ l. Goes l (captures_are cs s)) (sym (append-nil es))
captures-from (Tick p ∷ x) es cs s = from-tick p x (without_puts x) es (es ++ events_of x) cs s (allows s.left 1) (λ m. captures-from x es cs m)
captures-from (Put e ∷ x) es cs s =
    captures-from x (es ++ e ∷ []) cs s
    ∙ ap (λ l. and_then (play (without_puts x) (captures_are cs s)) (λ u m. Goes l m)) (append_assoc es (e ∷ []) (events_of x))
captures-from (Say t ∷ x) es cs s = captures-from x es cs (said t s)
captures-from (Stop n p ∷ x) es cs s = refl
captures-from (Need n p ∷ x) es cs s = refl
captures-from (Hole k ∷ x) es cs s = captures-from x es cs (shown (Hole k) s)

pub play-captured : {H : Type 0} → (x : Trace H) (f : List Event → Trace H) (s : State H) → Closes f (play x (opened s)) ≡ play (captured x f) s
play-captured x f s = play-captured-from x f [] s.captures s

-- the cut
abbrev From : {H : Type 0} → Log H → Site → ℕ → Option ℕ → Shared → State H
From l at b m o = record { reported = l; captures = []; at = Some at; room = m; left = Some b; shared = o }

ends-cut : {H : Type 0} → (l : Log H) (b : ℕ) (e : End) (left : Option ℕ) (o : Shared) → left ≡ Some (b - 0) →
    ReportsCut l b (record { passed = []; end = e }) (Ends e l left o)
ends-cut l b e left o q = record { reported = sym (adds-nil l); end = refl; left = q }

unspent : (b : ℕ) → Some b ≡ Some (b - 0)
unspent b = let e : b ≡ b - 0 = omega arith in ap Some e

pub play-cut : {H : Type 0} → (x : Trace H) (l : Log H) (at : Site) (b : ℕ) (m : Option ℕ) (o : Shared) →
    ReportsCut l b (cut_from x at b m) (play x (From l at b m o))
play-cut [] l at b m o = record { reported = sym (adds-nil l); end = refl; left = unspent b }
play-cut (Tick p ∷ x) l at zero m o = ends-cut l 0 (Spent p) (Some 0) o (unspent 0)
play-cut (Tick p ∷ x) l at (suc b) m o =
    let e : suc b - 1 ≡ b = omega arith in
    let d : b - tick_count (cut_from x p b m).passed ≡ suc b - suc (tick_count (cut_from x p b m).passed) = omega arith in
    let k : play (Tick p ∷ x) (From l at (suc b) m o) ≡ play x (From (adds l (Tick p ∷ [])) p b m o) =
    ap (λ c. and_then (cond c (goes (From (adds l (Tick p ∷ [])) p (suc b - 1) m o)) (Ends (Spent p) l (Some 0) o)) (λ u n. play x n)) (le-one b)
    ∙ ap (λ n. play x (From (adds l (Tick p ∷ [])) p n m o)) e in
    let h : ReportsCut (adds l (Tick p ∷ [])) b (cut_from x p b m) (play x (From (adds l (Tick p ∷ [])) p b m o)) = play-cut x (adds l (Tick p ∷ [])) p b m o in
    record {
      reported = ap reported_of k ∙ h.reported ∙ adds-adds l (Tick p ∷ []) (cut_from x p b m).passed;
      end = ap end_of k ∙ h.end;
      left = ap left_of k ∙ h.left ∙ ap Some d;
    }
play-cut (Put v ∷ x) l at b None o =
    let h : ReportsCut (adds l (Put v ∷ [])) b (cut_from x at b None) (play x (From (adds l (Put v ∷ [])) at b None o))
    = play-cut x (adds l (Put v ∷ [])) at b None o in
    record { reported = h.reported ∙ adds-adds l (Put v ∷ []) (cut_from x at b None).passed; end = h.end; left = h.left }
play-cut (Put v ∷ x) l at b (Some zero) o = ends-cut l b _ (Some b) o (unspent b)
play-cut (Put v ∷ x) l at b (Some (suc m)) o =
    let e : suc m - 1 ≡ m = omega arith in
    let k : play (Put v ∷ x) (From l at b (Some (suc m)) o) ≡ play x (From (adds l (Put v ∷ [])) at b (Some m) o) =
    ap (λ c. and_then (cond c (goes (From (adds l (Put v ∷ [])) at b (Some (suc m - 1)) o)) (Ends (Full at) l (Some b) o)) (λ u n. play x n)) (le-one m)
    ∙ ap (λ n. play x (From (adds l (Put v ∷ [])) at b (Some n) o)) e in
    let h : ReportsCut (adds l (Put v ∷ [])) b (cut_from x at b (Some m)) (play x (From (adds l (Put v ∷ [])) at b (Some m) o))
    = play-cut x (adds l (Put v ∷ [])) at b
    (Some m) o in
    record {
      reported = ap reported_of k ∙ h.reported ∙ adds-adds l (Put v ∷ []) (cut_from x at b (Some m)).passed;
      end = ap end_of k ∙ h.end;
      left = ap left_of k ∙ h.left;
    }
play-cut (Say s ∷ x) l at b m o =
    let h : ReportsCut (adds l (Say s ∷ [])) b (cut_from x at b m) (play x (From (adds l (Say s ∷ [])) at b m o)) = play-cut x (adds l (Say s ∷ [])) at b m o in
    record { reported = h.reported ∙ adds-adds l (Say s ∷ []) (cut_from x at b m).passed; end = h.end; left = h.left }
play-cut (Stop f p ∷ x) l at b m o = ends-cut l b _ (Some b) o (unspent b)
play-cut (Need g p ∷ x) l at b m o = ends-cut l b _ (Some b) o (unspent b)
play-cut (Hole k ∷ x) l at b m o =
    let h : ReportsCut (adds l (Hole k ∷ [])) b (cut_from x at b m) (play x (From (adds l (Hole k ∷ [])) at b m o))
    = play-cut x (adds l (Hole k ∷ [])) at b m o in
    record { reported = h.reported ∙ adds-adds l (Hole k ∷ []) (cut_from x at b m).passed; end = h.end; left = h.left }
