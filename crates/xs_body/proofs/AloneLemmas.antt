-- Content that is a text alone, in a capture and without one.
use Rattle.std.proofs.Common.{◌≡◌, ℕ, ◌/◌, ◌==◌, length, List, [], ◌∷◌, Bool, true, false, cond, Some, append-nil, refl, sym, ap, ◌∙◌, arith}
use Rattle.std.proofs.lemmas.Bool.Decides.{nat_tests}
use Rattle.xs_trace.specs.Cut.{Spent}
use Rattle.xs_trace.specs.Mark.{ticks}
use Rattle.xs_trace.specs.Run.{Answer, Gives, Faults, Lacks, Run, answered, limited}
use Rattle.xs_trace.specs.State.{State, adds, after_tick, after_ticks, allows, opened, popped, top}
use Rattle.xs_trace.specs.Play.{Step, Ends, goes, and_then, number, put, put_at, ticked, ticked_by}
use Rattle.xs_trace.specs.declared.event.Event.{Event}
use Rattle.xs_trace.specs.declared.event.Event.TheVariants.{Chars}
use Rattle.xs_trace.specs.declared.item.Site.{Site}
use Rattle.xs_trace.proofs.PlayLemmas.{then-same, then-then}
use Rattle.xs_trace.proofs.RunLemmas.{by-none}
use Rattle.xs_body_spec.specs.Making.{content_text, text_events}
use Rattle.xs_body.specs.steps.Making.{chars_steps}

-- ticks are the same where a capture is open
pub opened-tick : {H : Type 0} → {A : Type 0} (p : Site) (f : Unit {0} → State H → Step H A) (s : State H) →
    and_then (ticked p (opened s)) f ≡ and_then (ticked p s) (λ u m. f u (opened m))
opened-tick {H = H} p f s = by_test (allows s.left 1)
  where
    by_test : (b : Bool) → and_then (cond b (goes (after_tick p (opened s))) (Ends (Spent p) s.reported (Some 0) s.shared)) f
        ≡ and_then (cond b (goes (after_tick p s)) (Ends (Spent p) s.reported (Some 0) s.shared)) (λ u m. f u (opened m))
    by_test true = refl
    by_test false = refl

pub opened-ticks : {H : Type 0} → {A : Type 0} (n : ℕ) (p : Site) (f : Unit {0} → State H → Step H A) (s : State H) →
    and_then (ticked_by n p (opened s)) f ≡ and_then (ticked_by n p s) (λ u m. f u (opened m))
opened-ticks {H = H} n p f s = by_test (allows s.left n)
  where
    by_test : (b : Bool) → and_then (cond b (goes (after_ticks n p (opened s))) (Ends (Spent p) (adds s.reported (ticks p (number s.left) []))
        (Some 0) s.shared)) f
        ≡ and_then (cond b (goes (after_ticks n p s)) (Ends (Spent p) (adds s.reported (ticks p (number s.left) [])) (Some 0) s.shared)) (λ u m. f u (opened m))
    by_test true = refl
    by_test false = refl

-- and so are runs
opened-answer : {H : Type 0} → {A B : Type 0} (p : Site) (a : Answer B) (f : B → State H → Step H A) (s : State H) →
    and_then (answered p a (opened s)) f ≡ and_then (answered p a s) (λ x m. f x (opened m))
opened-answer p (Gives x) f s = refl
opened-answer p (Faults n) f s = refl
opened-answer p (Lacks g) f s = refl

pub opened-run : {H : Type 0} → {A B : Type 0} (p : Site) (r : Run B) (f : B → State H → Step H A) (s : State H) →
    and_then (limited p r (opened s)) f ≡ and_then (limited p r s) (λ x m. f x (opened m))
opened-run p r f s =
    then-then (ticked_by r.cost p (opened s)) (λ u m. answered p r.end m) f
    ∙ opened-ticks r.cost p (λ u m. and_then (answered p r.end m) f) s
    ∙ then-same (ticked_by r.cost p s) (λ u m. and_then (answered p r.end (opened m)) f) (λ u m. and_then (answered p r.end m) (λ x n. f x (opened n)))
    (λ u m. opened-answer p r.end f m)
    ∙ sym (then-then (ticked_by r.cost p s) (λ u m. answered p r.end m) (λ x n. f x (opened n)))

-- a text that is all that is captured
pub opened-text : {H : Type 0} → {A : Type 0} (p : Site) (t : List ℕ) (f : List Event → State H → Step H A) (s : State H) →
    and_then (chars_steps p t (opened s)) (λ u m. f (top m.captures) (popped m)) ≡ and_then (ticked_by (length t / 256) p s) (λ u m. f (text_events t) m)
opened-text p [] f s = ap (λ g. and_then g (λ u m. f [] m)) (sym (by-none p s))
opened-text p (b ∷ bs) f s =
    let t : List ℕ = b ∷ bs in
    let q : (length (b ∷ bs) == 0) ≡ false = grind (arith, nat_tests) in
    ap (λ x. and_then (cond x (goes (opened s)) (put_at p (Chars t) (opened s))) (λ u m. f (top m.captures) (popped m))) q
    ∙ then-then (ticked_by (length t / 256) p (opened s)) (λ u m. put (Chars t) m) (λ u m. f (top m.captures) (popped m))
    ∙ opened-ticks (length t / 256) p (λ u m. and_then (put (Chars t) m) (λ v n. f (top n.captures) (popped n))) s

-- the text that it is
pub content-alone : (t : List ℕ) → content_text (text_events t) ≡ t
content-alone [] = refl
content-alone (b ∷ bs) = append-nil (b ∷ bs)
