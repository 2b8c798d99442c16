-- The best rule, as two lists are gone along together from their ends.
use Rattle.std.proofs.Common.{◌≡◌, ℕ, zero, suc, ◌+◌, ◌-◌, ◌<◌, ◌≤◌, Bool, true, false, List, [], ◌∷◌, drop, take, length, Option, Some, None, refl, sym, ap, ◌∙◌}
use Rattle.std.proofs.Common.{arith, ◌⊎◌, inl, inr, slice_get}
use Rattle.std.proofs.lemmas.Bool.{true≢false, false_from_ne_true}
use Rattle.std.proofs.lemmas.List.{drop_all, take-append-drop}
use Rattle.std.proofs.lemmas.Option.{slice_get_within}
use Rattle.xs_rules.specs.declared.candidates.Best.{Best}
use Rattle.xs_rules.specs.Rules.{Candidate}
use Rattle.xs_rules.specs.steps.Candidates.{best_before}
use Rattle.xs_rules.specs.steps.Index.{later, passed}
use Rattle.xs_sort_order.proofs.InOrderLemmas.{Rises}
use Rattle.xs_rules.specs.steps.Candidates.{best_of}
use Rattle.xs_rules.specs.steps.Index.{is_below}
use Rattle.xs_rules.proofs.PlaceLemmas.{IsNext, down, next-is, none-next}
use Rattle.xs_rules.proofs.RankLemmas.{none-above}
use Rattle.xs_rules.proofs.RuleLemmas.{before-append, one-taken}

-- what stands at a place, and after it
drop-at : (cs : List Candidate) (j : ℕ) → j < length cs → (c : Candidate) × (slice_get cs j ≡ Some c) × (drop j cs ≡ c ∷ drop (j + 1) cs)
drop-at [] j lt = absurd (omega (arith, lt))
drop-at (c ∷ cs) zero lt = (c, refl, refl)
drop-at (c ∷ cs) (suc j) lt =
    let e : suc j + 1 ≡ suc (j + 1) = omega arith in
    let w : (d : Candidate) × (slice_get cs j ≡ Some d) × (drop j cs ≡ d ∷ drop (j + 1) cs) = drop-at cs j (omega (arith, lt)) in
    (w.0, w.1, w.2 ∙ ap (λ k. w.0 ∷ drop k (c ∷ cs)) (sym e))

best-step : (p : Candidate → Bool) (cs : List Candidate) (j : ℕ) (c : Candidate) → j < length cs → slice_get cs j ≡ Some c
    → best_before p (drop j cs) None ≡ best_before p (c ∷ []) (best_before p (drop (j + 1) cs) None)
unfolding best_before
best-step p cs j c lt e =
    let w : (d : Candidate) × (slice_get cs j ≡ Some d) × (drop j cs ≡ d ∷ drop (j + 1) cs) = drop-at cs j lt in
    let i : Some w.0 ≡ Some c = sym w.1 ∙ e in
    let s : w.0 ≡ c = cc in
    ap (λ l. best_before p l None) (w.2 ∙ ap (λ d. d ∷ drop (j + 1) cs) s)

one-false : (p : Candidate → Bool) (c : Candidate) (o : Option Best) → p c ≡ false → best_before p (c ∷ []) o ≡ o
unfolding best_before
one-false p c o f = rw f refl

-- those that do not pass may be left out
skip : (p : Candidate → Bool) (cs : List Candidate) (n j i : ℕ) → j + n ≡ i → i ≤ length cs
    → ((m : ℕ) (c : Candidate) → slice_get cs m ≡ Some c → j ≤ m → m < i → p c ≡ false)
    → best_before p (drop j cs) None ≡ best_before p (drop i cs) None
skip p cs zero j i e le none = let s : j ≡ i = omega (arith, e) in ap (λ k. best_before p (drop k cs) None) s
skip p cs (suc n) j i e le none =
    let lt : j < length cs = omega (arith, e, le) in
    let w : (d : Candidate) × (slice_get cs j ≡ Some d) × (drop j cs ≡ d ∷ drop (j + 1) cs) = drop-at cs j lt in
    best-step p cs j w.0 lt w.1
    ∙ one-false p w.0 (best_before p (drop (j + 1) cs) None) (none j w.0 w.1 (omega arith) (omega (arith, e)))
    ∙ skip p cs n (j + 1) i (omega (arith, e)) le (λ m c s a b. none m c s (omega (arith, a)) b)

-- each rule that passes is in one of the two lists
abbrev pub IsComplete : (Candidate → Bool) → List Candidate → (named unnamed : ℕ → Bool) → Type 0
IsComplete p cs named unnamed = (m : ℕ) (c : Candidate) → slice_get cs m ≡ Some c → p c ≡ true → (named m ≡ true) ⊎ (unnamed m ≡ true)

in-neither : (p : Candidate → Bool) (cs : List Candidate) (t u : ℕ → Bool) (m : ℕ) (c : Candidate) → IsComplete p cs t u
    → slice_get cs m ≡ Some c → (t m ≡ false) × (u m ≡ false) → p c ≡ false
in-neither p cs t u m c complete s none =
    false_from_ne_true (p c) (λ e. elim (complete m c s e) [
      | inl q ↦ true≢false (sym q ∙ none.0)
      | inr q ↦ true≢false (sym q ∙ none.1)
    ])

-- the lists below a place, the last places first, and the best of the rules from there on
pub record IsSearched (p : Candidate → Bool) (cs : List Candidate) (t u : ℕ → Bool) (named unnamed : List ℕ) (best : Option Best) : Type 0 where
  pub until : ℕ
  pub within : until ≤ length cs
  pub of_named : named ≡ down t until
  pub of_unnamed : unnamed ≡ down u until
  pub best_is : best_before p (drop until cs) None ≡ best

pub search-none : (p : Candidate → Bool) (cs : List Candidate) (t u : ℕ → Bool) (named unnamed : List ℕ) → named ≡ down t (length cs)
    → unnamed ≡ down u (length cs) → IsSearched p cs t u named unnamed None
unfolding best_before
search-none p cs t u named unnamed a b = record {
  until = length cs;
  within = omega arith;
  of_named = a;
  of_unnamed = b;
  best_is = ap (λ l. best_before p l None) (drop_all (length cs) cs (omega arith));
}

next-in : (p : Candidate → Bool) (cs : List Candidate) (t u : ℕ → Bool) (named unnamed : List ℕ) (best : Option Best) (j : ℕ)
    → (s : IsSearched p cs t u named unnamed best) → later named unnamed ≡ Some j → IsNext t u s.until j
next-in p cs t u named unnamed best j s e =
    next-is t u s.until j (sym (ap (λ l. later l unnamed) s.of_named ∙ ap (later (down t s.until)) s.of_unnamed) ∙ e)

-- the place that comes next is in one of the lists
pub search-place : (p : Candidate → Bool) (cs : List Candidate) (t u : ℕ → Bool) (named unnamed : List ℕ) (best : Option Best) (j : ℕ)
    → IsSearched p cs t u named unnamed best → later named unnamed ≡ Some j → j < length cs
search-place p cs t u named unnamed best j s e =
    let lt : j < s.until = (next-in p cs t u named unnamed best j s e).below in omega (arith, lt, s.within)

pub search-found : (p : Candidate → Bool) (cs : List Candidate) (t u : ℕ → Bool) (named unnamed : List ℕ) (best : Option Best) (j : ℕ)
    → IsSearched p cs t u named unnamed best → later named unnamed ≡ Some j → (t j ≡ true) ⊎ (u j ≡ true)
search-found p cs t u named unnamed best j s e = (next-in p cs t u named unnamed best j s e).found

-- the best of the rules after the place that comes next
search-rest : (p : Candidate → Bool) (cs : List Candidate) (t u : ℕ → Bool) (named unnamed : List ℕ) (best : Option Best) (j : ℕ) → IsComplete p cs t u
    → IsSearched p cs t u named unnamed best → later named unnamed ≡ Some j → best_before p (drop (j + 1) cs) None ≡ best
search-rest p cs t u named unnamed best j complete s e =
    let next : IsNext t u s.until j = next-in p cs t u named unnamed best j s e in
    let lt : j < s.until = next.below in
    let rest : j + 1 ≤ s.until = omega (arith, lt) in
    skip p cs (s.until - (j + 1)) (j + 1) s.until (omega (arith, rest)) s.within
    (λ m d q x y. in-neither p cs t u m d complete q (next.none m (omega (arith, x)) y))
    ∙ s.best_is

pub search-step : (p : Candidate → Bool) (cs : List Candidate) (t u : ℕ → Bool) (named unnamed : List ℕ) (best found : Option Best) (j : ℕ) (c : Candidate)
    → IsComplete p cs t u → IsSearched p cs t u named unnamed best → later named unnamed ≡ Some j → slice_get cs j ≡ Some c
    → found ≡ best_before p (c ∷ []) best → IsSearched p cs t u (passed j named) (passed j unnamed) found
search-step p cs t u named unnamed best found j c complete s e at is =
    let next : IsNext t u s.until j = next-in p cs t u named unnamed best j s e in
    let lt : j < s.until = next.below in
    let inside : j < length cs = omega (arith, lt, s.within) in
    record {
      until = j;
      within = omega (arith, inside);
      of_named = ap (passed j) s.of_named ∙ next.named;
      of_unnamed = ap (passed j) s.of_unnamed ∙ next.unnamed;
      best_is =
          best-step p cs j c inside at
          ∙ ap (best_before p (c ∷ [])) (search-rest p cs t u named unnamed best j complete s e)
          ∙ sym is;
    }

-- the end of both
pub search-end : (p : Candidate → Bool) (cs : List Candidate) (t u : ℕ → Bool) (named unnamed : List ℕ) (best : Option Best)
    → IsComplete p cs t u → IsSearched p cs t u named unnamed best → later named unnamed ≡ None → best ≡ best_before p cs None
search-end p cs t u named unnamed best complete s e =
    let none : later (down t s.until) (down u s.until) ≡ None =
    sym (ap (λ l. later l unnamed) s.of_named ∙ ap (later (down t s.until)) s.of_unnamed) ∙ e in
    sym (skip p cs s.until 0 s.until (omega arith) s.within
    (λ m d q x y. in-neither p cs t u m d complete q (none-next t u s.until m none y))
    ∙ s.best_is)

-- the first rule that passes, where none before it is above it
pub search-first : (p : Candidate → Bool) (cs : List Candidate) (t u : ℕ → Bool) (named unnamed : List ℕ) (j : ℕ) (c : Candidate) → IsComplete p cs t u
    → IsSearched p cs t u named unnamed None → Rises is_below cs → later named unnamed ≡ Some j → slice_get cs j ≡ Some c → p c ≡ true
    → Some (best_of c) ≡ best_before p cs None
search-first p cs t u named unnamed j c complete s up e at is =
    let rest : best_before p (drop (j + 1) cs) None ≡ None = search-rest p cs t u named unnamed None j complete s e in
    sym (ap (λ l. best_before p l None) (sym (take-append-drop j cs))
    ∙ before-append p (take j cs) (drop j cs) None
    ∙ ap (best_before p (take j cs))
    (best-step p cs j c (slice_get_within cs j c at) at ∙ ap (best_before p (c ∷ [])) rest ∙ sym (one-taken p c None refl is))
    ∙ none-above p cs j c up at)
