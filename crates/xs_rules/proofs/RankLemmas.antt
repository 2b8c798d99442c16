-- Rules by their ranks: the best one stays the same, and it is the last one that passes.
use Rattle.std.proofs.Common.{◌≡◌, ℕ, zero, suc, ◌<◌, ◌==◌, ◌&&◌, ◌||◌, nat_lt, Bool, true, false, cond, List, [], ◌∷◌, map, take, get_or, slice_get}
use Rattle.std.proofs.Common.{Option, Some, None, refl, sym, ap, ◌∙◌, arith}
use Rattle.std.proofs.lemmas.Bool.{true≢false}
use Rattle.std.proofs.lemmas.Int.{ints}
use Rattle.std.proofs.lemmas.List.Elements.{All-get_or}
use Rattle.std.proofs.lemmas.Option.{get_or_from_slice_get, slice_get_within}
use Rattle.std.specs.Cmp.{IsStrictWeakOrder}
use Rattle.std.specs.Prelude.{ℤ, int_lt}
use Rattle.xs_pattern_spec.specs.declared.ranks.Rank.{Rank}
use Rattle.xs_sort_order.specs.InOrder.{in_order, insert}
use Rattle.xs_sort_order.proofs.InOrderLemmas.{Rises, in_order-rises}
use Rattle.xs_rules.specs.declared.candidates.Best.{Best}
use Rattle.xs_rules.specs.declared.entries.Entry.{Entry}
use Rattle.xs_rules.specs.Ranks.{outranks}
use Rattle.xs_rules.specs.Rules.{Candidate}
use Rattle.xs_rules.specs.steps.Candidates.{best_before, best_of, or_best}
use Rattle.xs_rules.specs.steps.Index.{AreEntries, at_entry, is_below, is_entry_below, ranked}
use Rattle.xs_rules.specs.steps.Kinds.{is_certain}
use Rattle.xs_sheet.specs.declared.declarations.Template.{Template}
use Rattle.xs_rules.proofs.HigherLemmas.{not-over, over}

-- ---- ranks are an order

int-one : (a b : ℤ) → int_lt b a ≡ true → int_lt a b ≡ false
int-one a b e = grind (arith, ints)

first-one : (p q : ℕ) (x y : Bool) → (x ≡ true → y ≡ false) → (nat_lt q p || (q == p && x)) ≡ true → (nat_lt p q || (p == q && y)) ≡ false
first-one p q x y f e = grind (arith, f)

one-way : (r s : Rank) → outranks r s ≡ true → outranks s r ≡ false
one-way r s e =
    first-one r.precedence s.precedence (int_lt s.priority r.priority) (int_lt r.priority s.priority) (int-one r.priority s.priority) e

-- one thing below another by their ranks
abbrev pub below : {A : Type 0} → (A → Rank) → A → A → Bool
below rank a b = outranks (rank b) (rank a)

pub weak : {A : Type 0} (rank : A → Rank) → IsStrictWeakOrder (below rank)
weak rank = record {
  one_way = λ x y e. one-way (rank y) (rank x) e;
  chain = λ x y z a b. not-over (rank z) (rank y) (rank x) b a;
}

pub weak-entries : IsStrictWeakOrder is_entry_below
weak-entries = weak (λ (e : Entry). e.rank)

-- ---- things of the same ranks are put in order alike

head-is : {X : Type 0} (x y : X) (xs ys : List X) → x ∷ xs ≡ y ∷ ys → x ≡ y
head-is x y xs ys e = ap (λ l. get_or l 0 x) e

abbrev rest_of : {X : Type 0} → List X → List X
rest_of [] = []
rest_of (x ∷ xs) = xs

rest-is : {X : Type 0} (x y : X) (xs ys : List X) → x ∷ xs ≡ y ∷ ys → xs ≡ ys
rest-is x y xs ys e = ap rest_of e

insert-alike : {A B C : Type 0} (rank : A → Rank) (grade : B → Rank) (f : A → C) (g : B → C) (x : A) (y : B) (xs : List A) (ys : List B)
    → rank x ≡ grade y → f x ≡ g y → map rank xs ≡ map grade ys → map f xs ≡ map g ys
    → map f (insert (below rank) x xs) ≡ map g (insert (below grade) y ys)
insert-alike rank grade f g x y [] [] r e rs es = ap (λ c. c ∷ []) e
insert-alike rank grade f g x y [] (v ∷ vs) r e rs es = absurd (cc)
insert-alike rank grade f g x y (u ∷ us) [] r e rs es = absurd (cc)
insert-alike {A} {B} {C} rank grade f g x y (u ∷ us) (v ∷ vs) r e rs es =
    by_tests (below rank u x) (below grade v y)
    (ap (λ s. outranks s (rank u)) r ∙ ap (outranks (grade y)) (head-is (rank u) (grade v) (map rank us) (map grade vs) rs))
    (insert-alike rank grade f g x y us vs r e (rest-is (rank u) (grade v) (map rank us) (map grade vs) rs)
    (rest-is (f u) (g v) (map f us) (map g vs) es))
  where
    by_tests : (p q : Bool) → p ≡ q → map f (insert (below rank) x us) ≡ map g (insert (below grade) y vs)
        → map f (cond p (u ∷ insert (below rank) x us) (x ∷ (u ∷ us))) ≡ map g (cond q (v ∷ insert (below grade) y vs) (y ∷ (v ∷ vs)))
    by_tests true true same more =
        ap (λ c. c ∷ map f (insert (below rank) x us)) (head-is (f u) (g v) (map f us) (map g vs) es) ∙ ap (λ l. g v ∷ l) more
    by_tests true false same more = absurd (true≢false same)
    by_tests false true same more = absurd (true≢false (sym same))
    by_tests false false same more = ap (λ c. c ∷ map f (u ∷ us)) e ∙ ap (λ l. g y ∷ l) es

pub order-alike : {A B C : Type 0} (rank : A → Rank) (grade : B → Rank) (f : A → C) (g : B → C) (xs : List A) (ys : List B)
    → map rank xs ≡ map grade ys → map f xs ≡ map g ys → map f (in_order (below rank) xs) ≡ map g (in_order (below grade) ys)
order-alike rank grade f g [] [] rs es = refl
order-alike rank grade f g [] (v ∷ vs) rs es = absurd (cc)
order-alike rank grade f g (u ∷ us) [] rs es = absurd (cc)
order-alike rank grade f g (u ∷ us) (v ∷ vs) rs es =
    let r : map rank us ≡ map grade vs = rest-is (rank u) (grade v) (map rank us) (map grade vs) rs in
    insert-alike rank grade f g u v (in_order (below rank) us) (in_order (below grade) vs)
    (head-is (rank u) (grade v) (map rank us) (map grade vs) rs) (head-is (f u) (g v) (map f us) (map g vs) es)
    (order-alike rank grade rank grade us vs r r)
    (order-alike rank grade f g us vs r (rest-is (f u) (g v) (map f us) (map g vs) es))

pub entries-ranked : (ts : List Template) (cs : List Candidate) (entries sorted : List Entry) → AreEntries ts cs entries
    → sorted ≡ in_order is_entry_below entries → AreEntries ts (ranked cs) sorted
unfolding ranked
entries-ranked ts cs entries sorted i e = record {
  each = ap (map (at_entry ts)) e ∙ order-alike (λ (x : Entry). x.rank) (λ (c : Candidate). c.rank) (at_entry ts) Some entries cs i.ranks i.each;
  ranks =
      ap (map (λ (x : Entry). x.rank)) e
      ∙ order-alike (λ (x : Entry). x.rank) (λ (c : Candidate). c.rank) (λ (x : Entry). x.rank) (λ (c : Candidate). c.rank) entries cs i.ranks i.ranks;
  certain =
      ap (map (λ (x : Entry). x.is_certain)) e
      ∙ order-alike (λ (x : Entry). x.rank) (λ (c : Candidate). c.rank) (λ (x : Entry). x.is_certain) (λ (c : Candidate). is_certain c.alternative) entries cs
      i.ranks i.certain;
}

-- ---- the best one stays the same

best-swap : (x y : Candidate) (o : Option Best) → outranks x.rank y.rank ≡ true → or_best y (or_best x o) ≡ or_best x (or_best y o)
best-swap x y None e =
    let f : outranks y.rank x.rank ≡ false = one-way x.rank y.rank e in
    ap (λ b. cond b (Some (best_of y)) (Some (best_of x))) f ∙ sym (ap (λ b. cond b (Some (best_of x)) (Some (best_of y))) e)
best-swap x y (Some d) e = by_ranks (outranks x.rank d.rank) (outranks y.rank d.rank) refl refl
  where
    f : outranks y.rank x.rank ≡ false
    f = one-way x.rank y.rank e

    by_ranks : (a b : Bool) → outranks x.rank d.rank ≡ a → outranks y.rank d.rank ≡ b
        → or_best y (cond a (Some (best_of x)) (Some d)) ≡ or_best x (cond b (Some (best_of y)) (Some d))
    by_ranks true true p q =
        ap (λ t. cond t (Some (best_of y)) (Some (best_of x))) f ∙ sym (ap (λ t. cond t (Some (best_of x)) (Some (best_of y))) e)
    by_ranks true false p q =
        ap (λ t. cond t (Some (best_of y)) (Some (best_of x))) f ∙ sym (ap (λ t. cond t (Some (best_of x)) (Some d)) p)
    by_ranks false true p q = absurd (true≢false (sym (over x.rank y.rank d.rank e q) ∙ p))
    by_ranks false false p q = ap (λ t. cond t (Some (best_of y)) (Some d)) q ∙ sym (ap (λ t. cond t (Some (best_of x)) (Some d)) p)

insert-best : (p : Candidate → Bool) (x : Candidate) (ys : List Candidate) (o : Option Best)
    → best_before p (insert is_below x ys) o ≡ best_before p (x ∷ ys) o
unfolding best_before
insert-best p x [] o = refl
insert-best p x (y ∷ ys) o = by_rank (is_below y x) refl (insert-best p x ys o)
  where
    h : Option Best
    h = best_before p ys o

    by_tests : (a b : Bool) → outranks x.rank y.rank ≡ true
        → cond b (or_best y (cond a (or_best x h) h)) (cond a (or_best x h) h) ≡ cond a (or_best x (cond b (or_best y h) h)) (cond b (or_best y h) h)
    by_tests true true e = best-swap x y h e
    by_tests true false e = refl
    by_tests false true e = refl
    by_tests false false e = refl

    by_rank : (b : Bool) → outranks x.rank y.rank ≡ b → best_before p (insert is_below x ys) o ≡ best_before p (x ∷ ys) o
        → best_before p (cond b (y ∷ insert is_below x ys) (x ∷ (y ∷ ys))) o ≡ best_before p (x ∷ (y ∷ ys)) o
    by_rank true e same = ap (λ k. cond (p y) (or_best y k) k) same ∙ by_tests (p x) (p y) e
    by_rank false e same = refl

order-best : (p : Candidate → Bool) (cs : List Candidate) → best_before p (in_order is_below cs) None ≡ best_before p cs None
unfolding best_before
order-best p [] = refl
order-best p (c ∷ cs) = insert-best p c (in_order is_below cs) None ∙ ap (λ k. cond (p c) (or_best c k) k) (order-best p cs)

pub ranked-best : (p : Candidate → Bool) (cs : List Candidate) → best_before p (ranked cs) None ≡ best_before p cs None
unfolding ranked
ranked-best p cs = order-best p cs

-- ---- and is the last one that passes

pub ranked-rises : (cs : List Candidate) → Rises is_below (ranked cs)
unfolding ranked
ranked-rises cs = in_order-rises is_below (weak (λ (c : Candidate). c.rank)) cs

-- none before a rule is above it
pub none-above : (p : Candidate → Bool) (cs : List Candidate) (j : ℕ) (c : Candidate) → Rises is_below cs → slice_get cs j ≡ Some c
    → best_before p (take j cs) (Some (best_of c)) ≡ Some (best_of c)
unfolding best_before
none-above p [] j c up e = let within : j < 0 = slice_get_within [] j c e in absurd (omega (arith, within))
none-above p (x ∷ xs) zero c up e = refl
none-above p (x ∷ xs) (suc j) c up e = by_test (p x) (none-above p xs j c up.1 e)
  where
    lower : outranks x.rank c.rank ≡ false
    lower =
        ap (λ (d : Candidate). outranks x.rank d.rank) (sym (get_or_from_slice_get xs j c c e))
        ∙ All-get_or (λ y. is_below y x ≡ false) xs j c (slice_get_within xs j c e) up.0

    by_test : (b : Bool) → best_before p (take j xs) (Some (best_of c)) ≡ Some (best_of c)
        → cond b (or_best x (best_before p (take j xs) (Some (best_of c)))) (best_before p (take j xs) (Some (best_of c))) ≡ Some (best_of c)
    by_test true same = ap (or_best x) same ∙ ap (λ t. cond t (Some (best_of x)) (Some (best_of c))) lower
    by_test false same = same
