-- What is put well, part by part.
use Rattle.std.proofs.Common.{◌≡◌, ℕ, zero, suc, ◌/◌, List, [], ◌∷◌, ◌++◌, Bool, true, false, refl, sym, subst, ◌∙◌, ap, append_assoc, length}
use Rattle.std.specs.List.{AllByRecursion}
use Rattle.xs_trace.specs.Mark.{Tick, Put, Say, Stop, Need, Hole, Trace, ◌⨾◌, GoesOn, captured, events_of, ticks, without_puts}
use Rattle.xs_trace.specs.Run.{Answer, Gives, Faults, Lacks, Run, evaluated, go_on, on_answer}
use Rattle.xs_trace.specs.declared.event.Event.{Event}
use Rattle.xs_trace.specs.declared.event.Event.TheVariants as event
use Rattle.xs_trace.specs.declared.fault.Fault.{Fault}
use Rattle.xs_trace.specs.declared.item.Site.{Site}
use Rattle.xs_making.specs.Laws.{IsWellPut}
use Rattle.xs_result_laws.specs.Events.{is_balanced}

-- with one open element more, or as many
abbrev pub levels : Bool → ℕ → ℕ
levels true n = suc n
levels false n = n

-- What is put can be written; where the trace goes on, its ends close what it begins, except an element that is open at its start, or
-- at its end.
pub record PutsBetween {H : Type 0} (before after : Bool) (x : Trace H) : Type 0 where
  pub named : AllByRecursion IsWellPut (events_of x)
  pub balanced : GoesOn x → (n : ℕ) (more : List Event) → is_balanced (levels before n) (events_of x ++ more) ≡ is_balanced (levels after n) more

-- ---- x then y
module _ {H : Type 0} where
  all_then : (x y : Trace H) → AllByRecursion IsWellPut (events_of x) → AllByRecursion IsWellPut (events_of y) → AllByRecursion IsWellPut (events_of (x ⨾ y))
  all_then [] y a b = b
  all_then (Tick p ∷ x) y a b = all_then x y a b
  all_then (Put e ∷ x) y a b = (a.0, all_then x y a.1 b)
  all_then (Say t ∷ x) y a b = all_then x y a b
  all_then (Stop f p ∷ x) y a b = a
  all_then (Need g p ∷ x) y a b = a
  all_then (Hole k ∷ x) y a b = all_then x y a b

  pub goes_then : (x y : Trace H) → GoesOn (x ⨾ y) → GoesOn x × GoesOn y
  goes_then [] y g = (tt, g)
  goes_then (Tick p ∷ x) y g = goes_then x y g
  goes_then (Put e ∷ x) y g = goes_then x y g
  goes_then (Say t ∷ x) y g = goes_then x y g
  goes_then (Stop f p ∷ x) y g = absurd g
  goes_then (Need g p ∷ x) y h = absurd h
  goes_then (Hole k ∷ x) y g = goes_then x y g

  pub events_then : (x y : Trace H) → GoesOn x → events_of (x ⨾ y) ≡ events_of x ++ events_of y
  events_then [] y g = refl
  events_then (Tick p ∷ x) y g = events_then x y g
  events_then (Put e ∷ x) y g = ap (λ es. e ∷ es) (events_then x y g)
  events_then (Say t ∷ x) y g = events_then x y g
  events_then (Stop f p ∷ x) y g = absurd g
  events_then (Need g p ∷ x) y h = absurd h
  events_then (Hole k ∷ x) y g = events_then x y g

  pub joined : {a b c : Bool} (x y : Trace H) → PutsBetween a b x → PutsBetween b c y → PutsBetween a c (x ⨾ y)
  joined {a} {b} {c} x y p q = record {
    named = all_then x y p.named q.named;
    balanced = λ g n more.
        let both = goes_then x y g in
        ap (λ es. is_balanced (levels a n) (es ++ more)) (events_then x y both.0)
        ∙ ap (is_balanced (levels a n)) (append_assoc (events_of x) (events_of y) more) ∙ p.balanced both.0 n (events_of y ++ more)
        ∙ q.balanced both.1 n more;
  }

  pub nothing : (a : Bool) → PutsBetween {H = H} a a []
  nothing a = record { named = tt; balanced = λ g n more. refl }

  -- with an element more around it
  pub deeper : (a : Bool) (x : Trace H) → PutsBetween false false x → PutsBetween a a x
  deeper a x p = record { named = p.named; balanced = λ g n more. p.balanced g (levels a n) more }

  pub ticked : {a b : Bool} (p : Site) (x : Trace H) → PutsBetween a b x → PutsBetween a b (Tick p ∷ x)
  ticked p x h = record { named = h.named; balanced = h.balanced }

  pub many_ticked : {a b : Bool} (p : Site) (n : ℕ) (x : Trace H) → PutsBetween a b x → PutsBetween a b (ticks p n x)
  many_ticked p zero x h = h
  many_ticked p (suc n) x h = ticked p (ticks p n x) (many_ticked p n x h)

  pub stopped : {a b : Bool} (f : Fault) (p : Site) → PutsBetween {H = H} a b (Stop f p ∷ [])
  stopped f p = record { named = tt; balanced = λ g n more. absurd g }

  pub needing : {a b : Bool} (g : ℕ) (p : Site) → PutsBetween {H = H} a b (Need g p ∷ [])
  needing g p = record { named = tt; balanced = λ h n more. absurd h }

  pub said : (p : Site) (t : List ℕ) → PutsBetween {H = H} false false (ticks p (length t / 256) (Say t ∷ []))
  said p t = many_ticked p (length t / 256) (Say t ∷ []) (record { named = tt; balanced = λ g n more. refl })

  -- ---- events
  pub begun : (name : _) → IsWellPut (event.Start name) → PutsBetween {H = H} false true (Put (event.Start name) ∷ [])
  unfolding is_balanced
  begun name h = record { named = (h, tt); balanced = λ g n more. refl }

  pub ended : PutsBetween {H = H} true false (Put event.End ∷ [])
  unfolding is_balanced
  ended = record { named = (tt, tt); balanced = λ g n more. refl }

-- ---- an expression, and what follows its value
abbrev pub AnswerHas : {A : Type 0} → (A → Type 0) → Answer A → Type 0
AnswerHas Q (Gives x) = Q x
AnswerHas Q (Faults f) = Unit {0}
AnswerHas Q (Lacks g) = Unit {0}

pub has_any : {A : Type 0} (a : Answer A) → AnswerHas (λ (x : A). Unit {0}) a
has_any (Gives x) = tt
has_any (Faults f) = tt
has_any (Lacks g) = tt

pub has_then : {A B : Type 0} (Q : B → Type 0) (n : ℕ) (a : Answer A) (f : A → Run B) → ((x : A) → AnswerHas Q (f x).end) → AnswerHas Q (go_on n a f).end
has_then Q n (Gives x) f h = h x
has_then Q n (Faults e) f h = tt
has_then Q n (Lacks g) f h = tt

answered : {H A : Type 0} {b c : Bool} (Q : A → Type 0) (p : Site) (a : Answer A) (f : A → Trace H) → AnswerHas Q a → ((x : A) → Q x → PutsBetween b c (f x))
    → PutsBetween b c (on_answer p a f)
answered Q p (Gives x) f q h = h x q
answered Q p (Faults n) f q h = stopped n p
answered Q p (Lacks g) f q h = needing g p

pub valued : {H A : Type 0} {b c : Bool} (Q : A → Type 0) (p : Site) (r : Run A) (f : A → Trace H) → AnswerHas Q r.end
    → ((x : A) → Q x → PutsBetween b c (f x)) → PutsBetween b c (evaluated p r f)
valued Q p r f q h = many_ticked p r.cost (on_answer p r.end f) (answered Q p r.end f q h)

-- ---- captured content
module _ {H : Type 0} where
  no_events : (x : Trace H) → events_of (without_puts x) ≡ []
  no_events [] = refl
  no_events (Tick p ∷ x) = no_events x
  no_events (Put e ∷ x) = no_events x
  no_events (Say t ∷ x) = no_events x
  no_events (Stop f p ∷ x) = no_events x
  no_events (Need g p ∷ x) = no_events x
  no_events (Hole k ∷ x) = no_events x

  pub goes_without : (x : Trace H) → GoesOn (without_puts x) → GoesOn x
  goes_without [] g = tt
  goes_without (Tick p ∷ x) g = goes_without x g
  goes_without (Put e ∷ x) g = goes_without x g
  goes_without (Say t ∷ x) g = goes_without x g
  goes_without (Stop f p ∷ x) g = absurd g
  goes_without (Need g p ∷ x) h = absurd h
  goes_without (Hole k ∷ x) g = goes_without x g

  -- What follows is asked for only where the content goes on: then its events are a result. Where it ends, nothing follows.
  all_captured : (x y : Trace H) → (GoesOn x → AllByRecursion IsWellPut (events_of y)) → AllByRecursion IsWellPut (events_of (without_puts x ⨾ y))
  all_captured [] y h = h tt
  all_captured (Tick p ∷ x) y h = all_captured x y h
  all_captured (Put e ∷ x) y h = all_captured x y h
  all_captured (Say t ∷ x) y h = all_captured x y h
  all_captured (Stop f p ∷ x) y h = subst (AllByRecursion IsWellPut) (sym (no_events x)) tt
  all_captured (Need g p ∷ x) y h = subst (AllByRecursion IsWellPut) (sym (no_events x)) tt
  all_captured (Hole k ∷ x) y h = all_captured x y h

  pub captures : {a b : Bool} (x : Trace H) (f : List Event → Trace H) → (GoesOn x → PutsBetween a b (f (events_of x))) → PutsBetween a b (captured x f)
  captures {a} {b} x f h = record {
    named = all_captured x (f (events_of x)) (λ g. (h g).named);
    balanced = λ g n more.
        let both = goes_then (without_puts x) (f (events_of x)) g in
        ap (λ es. is_balanced (levels a n) (es ++ more)) (events_then (without_puts x) (f (events_of x)) both.0
        ∙ ap (λ es. es ++ events_of (f (events_of x))) (no_events x)) ∙ (h (goes_without x both.0)).balanced both.1 n more;
  }
