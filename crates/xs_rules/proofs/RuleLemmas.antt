-- The best of the rules that match, as they are gone over from the last one.
use Rattle.std.proofs.Common.{◌≡◌, ℕ, ◌+◌, ◌==◌, ◌&&◌, Bool, true, false, cond, List, [], ◌∷◌, ◌++◌, filter, length, map, Option, Some, None, option_map}
use Rattle.std.proofs.Common.{IfSome, refl, sym, ap, ◌∙◌, arith, append_assoc}
use Rattle.std.proofs.lemmas.Bool.{true≢false}
use Rattle.std.proofs.lemmas.List.{append-nil}
use Rattle.std.specs.Option.{option_map_or}
use Rattle.std.specs.List.{enumerate_from, flat_map}
use Rattle.xs_sheet.specs.declared.declarations.Template.{Template}
use Rattle.xs_sheet.specs.declared.scoped.ScopedPattern.{ScopedPattern}
use Rattle.xs_tree.specs.Record.{Record}
use Rattle.xs_value.specs.Tables.{Table}
use Rattle.xs_xpath.specs.Tree.{Tree}
use Rattle.xs_rules.specs.declared.candidates.Best.{Best}
use Rattle.xs_rules.specs.declared.candidates.Looked.{Looked}
use Rattle.xs_pattern_spec.specs.declared.ranks.Rank.{Rank}
use Rattle.xs_rules.specs.Ranks.{highest, or_above, outranks}
use Rattle.xs_rules.specs.Rules.{Candidate, candidate, candidates, candidates_of, chosen_among, rule_of, takes}
use Rattle.xs_rules.specs.steps.Candidates.{best_before, best_of, is_matching, looks_at, or_best, passes, rule_of_best}

-- ---- what stands after others

pub before-append : (p : Candidate → Bool) (cs ds : List Candidate) (o : Option Best) → best_before p (cs ++ ds) o ≡ best_before p cs (best_before p ds o)
unfolding best_before
before-append p [] ds o = refl
before-append p (c ∷ cs) ds o = ap (λ x. cond (p c) (or_best c x) x) (before-append p cs ds o)

pub before-same : (p q : Candidate → Bool) (cs : List Candidate) (o : Option Best) → ((c : Candidate) → p c ≡ q c) → best_before p cs o ≡ best_before q cs o
unfolding best_before
before-same p q [] o e = refl
before-same p q (c ∷ cs) o e =
    ap (λ b. cond b (or_best c (best_before p cs o)) (best_before p cs o)) (e c)
    ∙ ap (λ x. cond (q c) (or_best c x) x) (before-same p q cs o e)

-- ---- the highest of those that pass

or_above-best : (c : Candidate) (o : Option Candidate) → option_map best_of (or_above (λ (d : Candidate). d.rank) c o) ≡ or_best c (option_map best_of o)
or_above-best c None = refl
or_above-best c (Some d) = by_rank (outranks c.rank d.rank)
  where
    by_rank : (b : Bool) → option_map best_of (cond b (Some c) (Some d)) ≡ cond b (Some (best_of c)) (Some (best_of d))
    by_rank true = refl
    by_rank false = refl

highest-best : (p : Candidate → Bool) (cs : List Candidate)
    → option_map best_of (highest (λ (c : Candidate). c.rank) (filter p cs)) ≡ best_before p cs None
unfolding best_before
highest-best p [] = refl
highest-best p (c ∷ cs) = by_test (p c) (highest-best p cs)
  where
    by_test : (b : Bool) → option_map best_of (highest (λ (d : Candidate). d.rank) (filter p cs)) ≡ best_before p cs None
        → option_map best_of (highest (λ (d : Candidate). d.rank) (cond b (c ∷ filter p cs) (filter p cs)))
        ≡ cond b (or_best c (best_before p cs None)) (best_before p cs None)
    by_test true rest = or_above-best c (highest (λ (d : Candidate). d.rank) (filter p cs)) ∙ ap (or_best c) rest
    by_test false rest = rest

rule-best : (o : Option Candidate) → rule_of o ≡ rule_of_best (option_map best_of o)
rule-best None = refl
rule-best (Some c) = refl

pub chosen-best : (looked : Looked) (is_looked_at : ℕ → Bool) (keys : List Table) (templates : List Template) (rs : List Record) (mode n : ℕ)
    → ((precedence : ℕ) → looks_at looked precedence ≡ is_looked_at precedence)
    → rule_of_best (best_before (passes looked keys rs mode n) (candidates templates) None) ≡ chosen_among is_looked_at keys templates rs mode n
unfolding chosen_among
chosen-best looked is_looked_at keys templates rs mode n e =
    ap rule_of_best
    (before-same (passes looked keys rs mode n) (λ c. is_looked_at c.rank.precedence && takes keys rs mode n c) (candidates templates) None
    (λ c. ap (λ b. b && takes keys rs mode n c) (e c.rank.precedence))
    ∙ sym (highest-best (λ c. is_looked_at c.rank.precedence && takes keys rs mode n c) (candidates templates)))
    ∙ sym (rule-best (highest (λ (c : Candidate). c.rank) (filter (λ c. is_looked_at c.rank.precedence && takes keys rs mode n c) (candidates templates))))

-- ---- templates, one after another

flat-append : {A B : Type 0} (f : A → List B) (xs : List A) (x : A) → flat_map f (xs ++ x ∷ []) ≡ flat_map f xs ++ f x
flat-append f [] x = append-nil (f x)
flat-append f (y ∷ ys) x = ap (λ l. f y ++ l) (flat-append f ys x) ∙ sym (append_assoc (f y) (flat_map f ys) (f x))

enumerate-push : {A : Type 0} (n : ℕ) (xs : List A) (x : A) → enumerate_from n (xs ++ x ∷ []) ≡ enumerate_from n xs ++ (n + length xs, x) ∷ []
enumerate-push n [] x = let e : n ≡ n + 0 = omega arith in ap (λ k. (k, x) ∷ []) e
enumerate-push n (y ∷ ys) x =
    let e : (n + 1) + length ys ≡ n + length (y ∷ ys) = omega arith in
    ap (λ l. (n, y) ∷ l) (enumerate-push (n + 1) ys x) ∙ ap (λ k. (n, y) ∷ enumerate_from (n + 1) ys ++ (k, x) ∷ []) e

pub candidates-push : (ts : List Template) (t : Template) → candidates (ts ++ t ∷ []) ≡ candidates ts ++ candidates_of (length ts, t)
candidates-push ts t =
    let e : 0 + length ts ≡ length ts = omega arith in
    ap (flat_map candidates_of) (enumerate-push 0 ts t)
    ∙ flat-append candidates_of (enumerate_from 0 ts) (0 + length ts, t)
    ∙ ap (λ k. candidates ts ++ candidates_of (k, t)) e

-- one template more before those that were gone over
pub template-on : (p : Candidate → Bool) (ts before : List Template) (t : Template) (o b whole : Option Best) → ts ≡ before ++ t ∷ []
    → best_before p (candidates ts) o ≡ whole → b ≡ best_before p (candidates_of (length before, t)) o
    → best_before p (candidates before) b ≡ whole
template-on p ts before t o b whole e i q =
    ap (best_before p (candidates before)) q
    ∙ sym (before-append p (candidates before) (candidates_of (length before, t)) o)
    ∙ ap (λ cs. best_before p cs o) (sym (candidates-push before t))
    ∙ ap (λ l. best_before p (candidates l) o) (sym e)
    ∙ i

-- ---- the alternatives of a pattern

-- of a template that is looked at, in its mode
pub all-matching : (looked : Looked) (keys : List Table) (rs : List Record) (mode n number : ℕ) (t : Template) (p : ScopedPattern) (es : List Tree)
    (o : Option Best) → (t.mode == mode) ≡ true → looks_at looked t.precedence ≡ true
    → best_before (is_matching keys rs n) (map (candidate number t p) es) o ≡ best_before (passes looked keys rs mode n) (map (candidate number t p) es) o
unfolding best_before
all-matching looked keys rs mode n number t p [] o m l = refl
all-matching looked keys rs mode n number t p (e ∷ es) o m l =
    let c : Candidate = candidate number t p e in
    let here : passes looked keys rs mode n c ≡ is_matching keys rs n c =
    ap (λ b. b && takes keys rs mode n c) l ∙ ap (λ b. b && is_matching keys rs n c) m in
    ap (λ x. cond (is_matching keys rs n c) (or_best c x) x) (all-matching looked keys rs mode n number t p es o m l)
    ∙ ap (λ b. cond b (or_best c (best_before (passes looked keys rs mode n) (map (candidate number t p) es) o))
    (best_before (passes looked keys rs mode n) (map (candidate number t p) es) o)) (sym here)

-- of any other
none-passes : (q : Candidate → Bool) (number : ℕ) (t : Template) (p : ScopedPattern) (es : List Tree) (o : Option Best)
    → ((e : Tree) → q (candidate number t p e) ≡ false) → o ≡ best_before q (map (candidate number t p) es) o
unfolding best_before
none-passes q number t p [] o f = refl
none-passes q number t p (e ∷ es) o f =
    none-passes q number t p es o f
    ∙ ap (λ b. cond b (or_best (candidate number t p e) (best_before q (map (candidate number t p) es) o))
    (best_before q (map (candidate number t p) es) o)) (sym (f e))

last-false : (a b : Bool) → b ≡ false → (a && b) ≡ false
last-false true b e = e
last-false false b e = refl

pub other-mode : (looked : Looked) (keys : List Table) (rs : List Record) (mode n number : ℕ) (t : Template) (p : ScopedPattern) (es : List Tree)
    (o : Option Best) → (t.mode == mode) ≡ false → o ≡ best_before (passes looked keys rs mode n) (map (candidate number t p) es) o
other-mode looked keys rs mode n number t p es o m =
    none-passes (passes looked keys rs mode n) number t p es o
    (λ e. last-false (looks_at looked t.precedence) _ (ap (λ b. b && is_matching keys rs n (candidate number t p e)) m))

pub not_looked-at : (looked : Looked) (keys : List Table) (rs : List Record) (mode n number : ℕ) (t : Template) (p : ScopedPattern) (es : List Tree)
    (o : Option Best) → looks_at looked t.precedence ≡ false → o ≡ best_before (passes looked keys rs mode n) (map (candidate number t p) es) o
not_looked-at looked keys rs mode n number t p es o l =
    none-passes (passes looked keys rs mode n) number t p es o (λ e. ap (λ b. b && takes keys rs mode n (candidate number t p e)) l)

-- one alternative more before those that were gone over
map-push : {A B : Type 0} (f : A → B) (xs : List A) (x : A) → map f (xs ++ x ∷ []) ≡ map f xs ++ f x ∷ []
map-push f [] x = refl
map-push f (y ∷ ys) x = ap (λ l. f y ∷ l) (map-push f ys x)

pub alternative-on : {A : Type 0} (p : Candidate → Bool) (f : A → Candidate) (es before : List A) (e : A) (o b whole : Option Best) → es ≡ before ++ e ∷ []
    → best_before p (map f es) o ≡ whole → b ≡ best_before p (f e ∷ []) o → best_before p (map f before) b ≡ whole
alternative-on p f es before e o b whole s i q =
    ap (best_before p (map f before)) q
    ∙ sym (before-append p (map f before) (f e ∷ []) o)
    ∙ ap (λ cs. best_before p cs o) (sym (map-push f before e))
    ∙ ap (λ l. best_before p (map f l) o) (sym s)
    ∙ i

-- one rule before the best one after it: it is above that, or there is none; or it is not, or does not match
above-best : (c : Candidate) (o : Option Best) → option_map_or (λ (b : Best). outranks c.rank b.rank) o true ≡ true → or_best c o ≡ Some (best_of c)
above-best c None e = refl
above-best c (Some b) e = ap (λ t. cond t (Some (best_of c)) (Some b)) e

below-best : (c : Candidate) (o : Option Best) → option_map_or (λ (b : Best). outranks c.rank b.rank) o true ≡ false → or_best c o ≡ o
below-best c None e = absurd (true≢false e)
below-best c (Some b) e = ap (λ t. cond t (Some (best_of c)) (Some b)) e

pub one-taken : (p : Candidate → Bool) (c : Candidate) (o : Option Best) → option_map_or (λ (b : Best). outranks c.rank b.rank) o true ≡ true
    → p c ≡ true → Some (best_of c) ≡ best_before p (c ∷ []) o
unfolding best_before
one-taken p c o e t = sym (ap (λ b. cond b (or_best c o) o) t ∙ above-best c o e)

pub one-below : (p : Candidate → Bool) (c : Candidate) (o : Option Best) → option_map_or (λ (b : Best). outranks c.rank b.rank) o true ≡ false
    → o ≡ best_before p (c ∷ []) o
unfolding best_before
one-below p c o e = by_test (p c)
  where
    by_test : (b : Bool) → o ≡ cond b (or_best c o) o
    by_test true = sym (below-best c o e)
    by_test false = refl

pub one-passed : (p : Candidate → Bool) (c : Candidate) (o : Option Best) → p c ≡ false → o ≡ best_before p (c ∷ []) o
unfolding best_before
one-passed p c o f = sym (ap (λ b. cond b (or_best c o) o) f)

-- none
pub none-before : (p : Candidate → Bool) (o : Option Best) → best_before p [] o ≡ o
unfolding best_before
none-before p o = refl

-- whether a rule that may be there is looked at and takes the node
pub passes-not-looked : (looked : Looked) (keys : List Table) (rs : List Record) (mode n : ℕ) (o : Option Candidate) (r : Rank)
    → IfSome o (λ c. r ≡ c.rank) → looks_at looked r.precedence ≡ false → false ≡ option_map_or (passes looked keys rs mode n) o false
passes-not-looked looked keys rs mode n None r same e = refl
passes-not-looked looked keys rs mode n (Some c) r same e =
    sym (ap (λ b. b && takes keys rs mode n c) (ap (λ (s : Rank). looks_at looked s.precedence) (sym same) ∙ e))

pub passes-looked : (looked : Looked) (keys : List Table) (rs : List Record) (mode n : ℕ) (o : Option Candidate) (r : Rank)
    → IfSome o (λ c. r ≡ c.rank) → looks_at looked r.precedence ≡ true
    → option_map_or (passes looked keys rs mode n) o false ≡ option_map_or (takes keys rs mode n) o false
passes-looked looked keys rs mode n None r same e = refl
passes-looked looked keys rs mode n (Some c) r same e =
    ap (λ b. b && takes keys rs mode n c) (ap (λ (s : Rank). looks_at looked s.precedence) (sym same) ∙ e)
