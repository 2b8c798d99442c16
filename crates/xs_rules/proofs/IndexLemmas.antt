-- Lists of rules, as they are made and as they are searched.
use Rattle.std.proofs.Common.{◌≡◌, ℕ, ◌+◌, ◌<◌, Bool, true, false, List, [], ◌∷◌, ◌++◌, length, map, reverse, slice_get, Option, Some, None}
use Rattle.std.proofs.Common.{IfSome, option_map, append_assoc, refl, sym, ap, subst, ◌∙◌, arith, take, inl, inr}
use Rattle.std.proofs.lemmas.Bool.{and_parts}
use Rattle.std.proofs.lemmas.List.{length-map, length-take-le, map-append, take_more}
use Rattle.std.proofs.lemmas.Option.{get_or_from_slice_get, slice_get-map, slice_get_within}
use Rattle.std.specs.Option.{option_and_then, option_map_or}
use Rattle.std.specs.Prelude.{Result, Ok, Err, OnOk}
use Rattle.xs_sheet.specs.declared.declarations.Template.{Template}
use Rattle.xs_sheet.specs.declared.scoped.ScopedPattern.{ScopedPattern}
use Rattle.xs_tree.specs.declared.kinds.Kind.{Kind}
use Rattle.xs_tree.specs.Record.{Record, at}
use Rattle.xs_tree.specs.Shape.{IsTree}
use Rattle.xs_value.specs.Tables.{Table}
use Rattle.xs_xpath.specs.Tree.{Tree}
use Rattle.xs_pattern_spec.specs.declared.ranks.Rank.{Rank}
use Rattle.xs_rules.specs.declared.candidates.Best.{Best}
use Rattle.xs_rules.specs.declared.candidates.Looked.{Looked}
use Rattle.xs_rules.specs.declared.entries.Entry.{Entry}
use Rattle.xs_rules.specs.declared.lists.Lists.{Lists}
use Rattle.xs_rules.specs.Rules.{Candidate, candidate, candidates, candidates_of, rank_of, takes}
use Rattle.xs_rules.specs.steps.Candidates.{best_before, looks_at, passes, rule_of_best}
use Rattle.xs_rules.specs.steps.Index.{AreEntries, IsIndexed, Key, at_entry, candidate_at, has_key, is_named, is_unnamed, key_of}
use Rattle.xs_rules.specs.steps.Index.{later, may_match, node_key, nth_of, passed}
use Rattle.xs_rules.specs.steps.Index.{passes_at, places_of, ranked, with_place}
use Rattle.xs_rules.specs.steps.Kinds.{is_certain}
use Rattle.xs_rules.specs.steps.Lists.{IsAdded, named_in, unnamed_in}
use Rattle.xs_rules.proofs.KeyLemmas.{certain-taken, named_for, taking-listed}
use Rattle.xs_rules.proofs.PlaceLemmas.{down, down-is, places-none, places-push}
use Rattle.xs_pattern_spec.specs.declared.rule.Rule.TheVariants.{Template as OfTemplate, BuiltIn}
use Rattle.xs_rules.proofs.RankLemmas.{ranked-best, ranked-rises}
use Rattle.xs_rules.proofs.RuleLemmas.{candidates-push, one-passed}
use Rattle.xs_rules.proofs.SearchLemmas.{IsComplete, IsSearched, search-end, search-first, search-found, search-place, search-step}

-- what an entry says of its rule, and what it is
abbrev rank_at : Entry → Rank
rank_at e = e.rank

abbrev rank_in : Candidate → Rank
rank_in c = c.rank

abbrev certain_at : Entry → Bool
certain_at e = e.is_certain

abbrev certain_in : Candidate → Bool
certain_in c = is_certain c.alternative

-- what two lists say at a place
same-at : {A B C : Type 0} (f : A → C) (g : B → C) (xs : List A) (ys : List B) (j : ℕ) (x : A) (y : B) → map f xs ≡ map g ys → slice_get xs j ≡ Some x
    → slice_get ys j ≡ Some y → f x ≡ g y
same-at f g xs ys j x y all a b =
    let same : Some (f x) ≡ Some (g y) =
    sym (slice_get-map f xs j ∙ ap (option_map f) a) ∙ ap (λ l. slice_get l j) all ∙ slice_get-map g ys j ∙ ap (option_map g) b in
    cc

-- ---- one rule more

pub entries-length : (ts : List Template) (cs : List Candidate) (entries : List Entry) → map (at_entry ts) entries ≡ map Some cs → length entries ≡ length cs
entries-length ts cs entries e = sym (length-map entries (at_entry ts)) ∙ ap (λ l. length l) e ∙ length-map cs Some

map-push : {A B C : Type 0} (f : A → C) (g : B → C) (xs : List A) (ys : List B) (x : A) (y : B) → map f xs ≡ map g ys → f x ≡ g y
    → map f (xs ++ x ∷ []) ≡ map g (ys ++ y ∷ [])
map-push f g xs ys x y all one =
    map-append f xs (x ∷ []) ∙ ap (λ l. l ++ f x ∷ []) all ∙ ap (λ z. map g ys ++ z ∷ []) one ∙ sym (map-append g ys (y ∷ []))

-- the places of those that pass a test
list-push : (test : Candidate → Bool) (cs : List Candidate) (c : Candidate) (n : ℕ) (old new : List ℕ) → n ≡ length cs → old ≡ places_of test cs
    → new ≡ with_place (test c) n old → new ≡ places_of test (cs ++ c ∷ [])
list-push test cs c n old new long e f =
    f ∙ ap (λ k. with_place (test c) k old) long ∙ ap (with_place (test c) (length cs)) e ∙ sym (places-push test cs c)

pub indexed-push : (ts : List Template) (cs : List Candidate) (c : Candidate) (entries : List Entry) (e : Entry) (named more_named : Key → List ℕ)
    (unnamed more_unnamed : ℕ → Kind → List ℕ) → IsIndexed ts cs entries named unnamed → at_entry ts e ≡ Some c → e.rank ≡ c.rank
    → e.is_certain ≡ is_certain c.alternative → ((q : Key) → more_named q ≡ with_place (is_named q c) (length entries) (named q))
    → ((m : ℕ) (kind : Kind) → more_unnamed m kind ≡ with_place (is_unnamed m kind c) (length entries) (unnamed m kind))
    → IsIndexed ts (cs ++ c ∷ []) (entries ++ e ∷ []) more_named more_unnamed
indexed-push ts cs c entries e named more_named unnamed more_unnamed i at_c rank_is certain_is f g = record {
  each = map-push (at_entry ts) Some entries cs e c i.each at_c;
  ranks = map-push rank_at rank_in entries cs e c i.ranks rank_is;
  certain = map-push certain_at certain_in entries cs e c i.certain certain_is;
  named_are = λ q. list-push (is_named q) cs c (length entries) (named q) (more_named q) long (i.named_are q) (f q);
  unnamed_are = λ m kind.
      list-push (is_unnamed m kind) cs c (length entries) (unnamed m kind) (more_unnamed m kind) long (i.unnamed_are m kind) (g m kind);
}
  where
    long : length entries ≡ length cs
    long = entries-length ts cs entries i.each

pub indexed-none : (ts : List Template) (entries : List Entry) (named : Key → List ℕ) (unnamed : ℕ → Kind → List ℕ) → entries ≡ []
    → ((q : Key) → named q ≡ []) → ((m : ℕ) (kind : Kind) → unnamed m kind ≡ []) → IsIndexed ts [] entries named unnamed
indexed-none ts entries named unnamed e f g = record {
  each = ap (map (at_entry ts)) e;
  ranks = ap (map rank_at) e;
  certain = ap (map certain_at) e;
  named_are = λ q. f q;
  unnamed_are = λ m kind. g m kind;
}

-- the entry of an alternative
candidate-is : (ts : List Template) (number k : ℕ) (t : Template) (p : ScopedPattern) (e : Tree) → slice_get ts number ≡ Some t → t.pattern ≡ Some p
    → slice_get p.pattern k ≡ Some e → candidate_at ts number k ≡ Some (candidate number t p e)
candidate-is ts number k t p e a b c =
    ap (λ (o : Option Template). option_and_then (λ (x : Template). option_and_then (nth_of number x k) x.pattern) o) a
    ∙ ap (λ (o : Option ScopedPattern). option_and_then (nth_of number t k) o) b
    ∙ ap (λ (o : Option Tree). option_map (candidate number t p) o) c

pub entries-push : (ts : List Template) (cs : List Candidate) (c : Candidate) (entries : List Entry) (e : Entry) → AreEntries ts cs entries
    → at_entry ts e ≡ Some c → e.rank ≡ c.rank → e.is_certain ≡ is_certain c.alternative → AreEntries ts (cs ++ c ∷ []) (entries ++ e ∷ [])
entries-push ts cs c entries e i at_c rank_is certain_is = record {
  each = map-push (at_entry ts) Some entries cs e c i.each at_c;
  ranks = map-push rank_at rank_in entries cs e c i.ranks rank_is;
  certain = map-push certain_at certain_in entries cs e c i.certain certain_is;
}

-- the alternatives of a template's pattern, one after another
pub alternative-more : (ts : List Template) (cs : List Candidate) (place : ℕ) (t : Template) (p : ScopedPattern) (e : Tree) (n : Entry)
    (entries pushed : List Entry) → AreEntries ts (cs ++ map (candidate n.template t p) (take place p.pattern)) entries
    → slice_get ts n.template ≡ Some t → t.pattern ≡ Some p → slice_get p.pattern place ≡ Some e → n.alternative ≡ place
    → n.rank ≡ rank_of t e → n.is_certain ≡ is_certain e → pushed ≡ entries ++ n ∷ []
    → AreEntries ts (cs ++ map (candidate n.template t p) (take (place + 1) p.pattern)) pushed
alternative-more ts cs place t p e n entries pushed i of_number of_pattern of_place place_is rank_is certain_is pushed_is =
    subst (λ l. AreEntries ts l pushed) list_is
    (subst (λ l. AreEntries ts ((cs ++ map (candidate number t p) (take place es)) ++ c ∷ []) l) (sym pushed_is)
    (entries-push ts (cs ++ map (candidate number t p) (take place es)) c entries n i
    (ap (candidate_at ts number) place_is ∙ candidate-is ts number place t p e of_number of_pattern of_place) rank_is certain_is))
  where
    number : ℕ
    number = n.template

    es : List Tree
    es = p.pattern

    c : Candidate
    c = candidate number t p e

    taken : take (place + 1) es ≡ take place es ++ e ∷ []
    taken =
        take_more es place e (slice_get_within es place e of_place)
        ∙ ap (λ x. take place es ++ x ∷ []) (get_or_from_slice_get es place e e of_place)

    list_is : (cs ++ map (candidate number t p) (take place es)) ++ c ∷ []
        ≡ cs ++ map (candidate number t p) (take (place + 1) es)
    list_is =
        append_assoc cs (map (candidate number t p) (take place es)) (c ∷ [])
        ∙ ap (λ l. cs ++ l) (sym (map-append (candidate number t p) (take place es) (e ∷ [])))
        ∙ ap (λ l. cs ++ map (candidate number t p) l) (sym taken)

-- the templates, one after another
pub template-more : (ts : List Template) (number : ℕ) (t : Template) (entries : List Entry)
    → slice_get ts number ≡ Some t → AreEntries ts (candidates (take number ts) ++ candidates_of (number, t)) entries
    → AreEntries ts (candidates (take (number + 1) ts)) entries
template-more ts number t entries e i =
    subst (λ l. AreEntries ts l entries)
    (ap (λ n. candidates (take number ts) ++ candidates_of (n, t)) (sym (length-take-le number ts (omega (arith, within))))
    ∙ sym (candidates-push (take number ts) t)
    ∙ ap candidates (sym taken)) i
  where
    within : number < length ts
    within = slice_get_within ts number t e

    taken : take (number + 1) ts ≡ take number ts ++ t ∷ []
    taken = take_more ts number t within ∙ ap (λ x. take number ts ++ x ∷ []) (get_or_from_slice_get ts number t t e)

-- the rules by their ranks, one after another
pub entry-more : (ts : List Template) (cs : List Candidate) (entries : List Entry) (k : ℕ) (e : Entry) (before after : Lists)
    → AreEntries ts cs entries → slice_get entries k ≡ Some e
    → IsIndexed ts (take k cs) before.entries.items (named_in before.named) (unnamed_in before.unnamed)
    → IfSome (at_entry ts e) (IsAdded e before after)
    → IsIndexed ts (take (k + 1) cs) after.entries.items (named_in after.named) (unnamed_in after.unnamed)
entry-more ts cs entries k e before after i at_e so_far added =
    by_candidate (slice_get cs k) refl
    (sym (slice_get-map (at_entry ts) entries k ∙ ap (option_map (at_entry ts)) at_e) ∙ ap (λ l. slice_get l k) i.each ∙ slice_get-map Some cs k)
  where
    by_candidate : (o : Option Candidate) → slice_get cs k ≡ o → Some (at_entry ts e) ≡ option_map Some o
        → IsIndexed ts (take (k + 1) cs) after.entries.items (named_in after.named) (unnamed_in after.unnamed)
    by_candidate None a b = absurd (cc)
    by_candidate (Some c) a b =
        let q : at_entry ts e ≡ Some c = cc in
        let add : IsAdded e before after c = subst (λ (o : Option Candidate). IfSome o (IsAdded e before after)) q added in
        subst (λ l. IsIndexed ts l after.entries.items (named_in after.named) (unnamed_in after.unnamed))
        (sym (take_more cs k c (slice_get_within cs k c a) ∙ ap (λ x. take k cs ++ x ∷ []) (get_or_from_slice_get cs k c c a)))
        (add ts (take k cs) q (same-at rank_at rank_in entries cs k e c i.ranks at_e a) (same-at certain_at certain_in entries cs k e c i.certain at_e a)
        so_far)

-- what follows from three facts of a good result
pub on_all : {T E P Q R S : Type 0} (r : Result T E) → (P → Q → R → S) → OnOk r P → OnOk r Q → OnOk r R → OnOk r S
on_all (Ok x) f p q s = f p q s
on_all (Err e) f p q s = tt

-- a rule was added
pub more-indexed : (e : Entry) (before after : Lists) (t : Template) (p : ScopedPattern) (x : Tree) → after.entries.items ≡ before.entries.items ++ e ∷ []
    → ((q : Key) → named_in after.named q ≡ with_place (has_key q (key_of t.mode x)) (length before.entries.items) (named_in before.named q))
    → ((m : ℕ) (kind : Kind)
    → unnamed_in after.unnamed m kind ≡ with_place (may_match m kind t.mode x) (length before.entries.items) (unnamed_in before.unnamed m kind))
    → IsAdded e before after (candidate e.template t p x)
more-indexed e before after t p x entries_are f g = λ ts cs is rank_is certain_is i.
    subst (λ l. IsIndexed ts (cs ++ candidate e.template t p x ∷ []) l (named_in after.named) (unnamed_in after.unnamed)) (sym entries_are)
    (indexed-push ts cs (candidate e.template t p x) before.entries.items e (named_in before.named) (named_in after.named) (unnamed_in before.unnamed)
    (unnamed_in after.unnamed) i is rank_is certain_is f g)

-- ---- what an entry says

-- the rule that an entry represents
pub entry-at : (ts : List Template) (cs : List Candidate) (entries : List Entry) (named : Key → List ℕ) (unnamed : ℕ → Kind → List ℕ) (j : ℕ) (e : Entry)
    → IsIndexed ts cs entries named unnamed → slice_get entries j ≡ Some e → (c : Candidate) × (slice_get cs j ≡ Some c) × (at_entry ts e ≡ Some c)
entry-at ts cs entries named unnamed j e i s =
    by_candidate (slice_get cs j) refl
    (sym (slice_get-map (at_entry ts) entries j ∙ ap (option_map (at_entry ts)) s) ∙ ap (λ l. slice_get l j) i.each ∙ slice_get-map Some cs j)
  where
    by_candidate : (o : Option Candidate) → slice_get cs j ≡ o → Some (at_entry ts e) ≡ option_map Some o
        → (c : Candidate) × (slice_get cs j ≡ Some c) × (at_entry ts e ≡ Some c)
    by_candidate None a b = cc
    by_candidate (Some c) a b = let q : at_entry ts e ≡ Some c = cc in (c, a, q)

-- an entry has its rule's rank
pub entry-rank : (ts : List Template) (cs : List Candidate) (entries : List Entry) (named : Key → List ℕ) (unnamed : ℕ → Kind → List ℕ) (j : ℕ) (e : Entry)
    → IsIndexed ts cs entries named unnamed → slice_get entries j ≡ Some e → IfSome (at_entry ts e) (λ c. e.rank ≡ c.rank)
entry-rank ts cs entries named unnamed j e i s =
    let w : (c : Candidate) × (slice_get cs j ≡ Some c) × (at_entry ts e ≡ Some c) = entry-at ts cs entries named unnamed j e i s in
    subst (λ (o : Option Candidate). IfSome o (λ c. e.rank ≡ c.rank)) (sym w.2) (same-at rank_at rank_in entries cs j e w.0 i.ranks s w.1)

-- and the number of its template
at-pattern : (number k : ℕ) (t : Template) (o : Option ScopedPattern) → IfSome (option_and_then (nth_of number t k) o) (λ c. number ≡ c.template)
at-pattern number k t None = tt
at-pattern number k t (Some p) = by_tree (slice_get p.pattern k)
  where
    by_tree : (o : Option Tree) → IfSome (option_map (candidate number t p) o) (λ c. number ≡ c.template)
    by_tree None = tt
    by_tree (Some e) = refl

at-template : (number k : ℕ) (o : Option Template)
    → IfSome (option_and_then (λ (t : Template). option_and_then (nth_of number t k) t.pattern) o) (λ c. number ≡ c.template)
at-template number k None = tt
at-template number k (Some t) = at-pattern number k t t.pattern

entry-template : (ts : List Template) (e : Entry) (c : Candidate) → at_entry ts e ≡ Some c → e.template ≡ c.template
entry-template ts e c is =
    subst (λ (o : Option Candidate). IfSome o (λ d. e.template ≡ d.template)) is (at-template e.template e.alternative (slice_get ts e.template))

-- ---- the search

-- the lists of a node
pub named-list : (ts : List Template) (cs : List Candidate) (entries : List Entry) (named : Key → List ℕ) (unnamed : ℕ → Kind → List ℕ) (mode : ℕ)
    (r : Record) (l : List ℕ) → IsIndexed ts cs entries named unnamed → l ≡ option_map_or named (node_key mode r) []
    → reverse l ≡ down (passes_at (named_for mode r) cs) (length cs)
named-list ts cs entries named unnamed mode r l i e =
    ap reverse (e ∙ by_key (node_key mode r)) ∙ down-is (passes_at (named_for mode r) cs) (length cs)
  where
    by_key : (o : Option Key) → option_map_or named o [] ≡ places_of (λ c. option_map_or (λ q. is_named q c) o false) cs
    by_key None = sym (places-none cs)
    by_key (Some q) = i.named_are q

pub unnamed-list : (ts : List Template) (cs : List Candidate) (entries : List Entry) (named : Key → List ℕ) (unnamed : ℕ → Kind → List ℕ) (mode : ℕ)
    (kind : Kind) (l : List ℕ) → IsIndexed ts cs entries named unnamed → l ≡ unnamed mode kind
    → reverse l ≡ down (passes_at (is_unnamed mode kind) cs) (length cs)
unnamed-list ts cs entries named unnamed mode kind l i e =
    ap reverse (e ∙ i.unnamed_are mode kind) ∙ down-is (passes_at (is_unnamed mode kind) cs) (length cs)

-- each rule that takes a node is in one of its lists
pub complete : (looked : Looked) (keys : List Table) (rs : List Record) (mode n : ℕ) (cs : List Candidate) → IsTree rs → n < length rs
    → IsComplete (passes looked keys rs mode n) cs (passes_at (named_for mode (at rs n)) cs) (passes_at (is_unnamed mode (at rs n).kind) cs)
complete looked keys rs mode n cs t h = λ m c s e.
    elim (taking-listed keys rs mode n c t h (and_parts (looks_at looked c.rank.precedence) (takes keys rs mode n c) e).1) [
      | inl q ↦ inl (ap (λ o. option_map_or (named_for mode (at rs n)) o false) s ∙ q)
      | inr q ↦ inr (ap (λ o. option_map_or (is_unnamed mode (at rs n).kind) o false) s ∙ q)
    ]

-- what is searched for a node
abbrev pub IsNodeSearched : Looked → List Table → List Record → (mode n : ℕ) → List Candidate → (named unnamed : List ℕ) → Option Best → Type 0
IsNodeSearched looked keys rs mode n cs named unnamed best =
    IsSearched (passes looked keys rs mode n) cs (passes_at (named_for mode (at rs n)) cs) (passes_at (is_unnamed mode (at rs n).kind) cs) named unnamed best

pub index-step : (looked : Looked) (keys : List Table) (rs : List Record) (mode n : ℕ) (ts : List Template) (cs : List Candidate) (entries : List Entry)
    (names : Key → List ℕ) (kinds : ℕ → Kind → List ℕ) (named unnamed : List ℕ) (j : ℕ) (e : Entry) (taken : Bool) → IsTree rs → n < length rs
    → IsIndexed ts cs entries names kinds → IsNodeSearched looked keys rs mode n cs named unnamed None
    → later named unnamed ≡ Some j → slice_get entries j ≡ Some e
    → taken ≡ option_map_or (passes looked keys rs mode n) (at_entry ts e) false → taken ≡ false
    → IsNodeSearched looked keys rs mode n cs (passed j named) (passed j unnamed) None
index-step looked keys rs mode n ts cs entries names kinds named unnamed j e taken t h i s l at_e is none =
    let w : (c : Candidate) × (slice_get cs j ≡ Some c) × (at_entry ts e ≡ Some c) = entry-at ts cs entries names kinds j e i at_e in
    search-step (passes looked keys rs mode n) cs (passes_at (named_for mode (at rs n)) cs) (passes_at (is_unnamed mode (at rs n).kind) cs) named unnamed
    None None j w.0 (complete looked keys rs mode n cs t h) s l w.1
    (one-passed (passes looked keys rs mode n) w.0 None
    (sym (is ∙ ap (λ x. option_map_or (passes looked keys rs mode n) x false) w.2) ∙ none))

-- the first rule that takes the node
pub index-taken : (looked : Looked) (keys : List Table) (rs : List Record) (mode n : ℕ) (ts : List Template) (cs : List Candidate) (entries : List Entry)
    (names : Key → List ℕ) (kinds : ℕ → Kind → List ℕ) (named unnamed : List ℕ) (j : ℕ) (e : Entry) (taken : Bool) → IsTree rs → n < length rs
    → IsIndexed ts (ranked cs) entries names kinds → IsNodeSearched looked keys rs mode n (ranked cs) named unnamed None
    → later named unnamed ≡ Some j → slice_get entries j ≡ Some e
    → taken ≡ option_map_or (passes looked keys rs mode n) (at_entry ts e) false → taken ≡ true
    → OfTemplate e.template ≡ rule_of_best (best_before (passes looked keys rs mode n) cs None)
index-taken looked keys rs mode n ts cs entries names kinds named unnamed j e taken t h i s l at_e is some =
    let p : Candidate → Bool = passes looked keys rs mode n in
    let w : (c : Candidate) × (slice_get (ranked cs) j ≡ Some c) × (at_entry ts e ≡ Some c) = entry-at ts (ranked cs) entries names kinds j e i at_e in
    ap OfTemplate (entry-template ts e w.0 w.2)
    ∙ ap rule_of_best
    (search-first p (ranked cs) (passes_at (named_for mode (at rs n)) (ranked cs)) (passes_at (is_unnamed mode (at rs n).kind) (ranked cs)) named unnamed
    j w.0 (complete looked keys rs mode n (ranked cs) t h) s (ranked-rises cs) l w.1
    (sym (is ∙ ap (λ x. option_map_or p x false) w.2) ∙ some)
    ∙ ranked-best p cs)

-- where none takes it
pub index-none : (looked : Looked) (keys : List Table) (rs : List Record) (mode n : ℕ) (cs : List Candidate) (named unnamed : List ℕ) → IsTree rs
    → n < length rs → IsNodeSearched looked keys rs mode n (ranked cs) named unnamed None → later named unnamed ≡ None
    → BuiltIn ≡ rule_of_best (best_before (passes looked keys rs mode n) cs None)
index-none looked keys rs mode n cs named unnamed t h s l =
    let p : Candidate → Bool = passes looked keys rs mode n in
    ap rule_of_best
    (search-end p (ranked cs) (passes_at (named_for mode (at rs n)) (ranked cs)) (passes_at (is_unnamed mode (at rs n).kind) (ranked cs)) named unnamed
    None (complete looked keys rs mode n (ranked cs) t h) s l
    ∙ ranked-best p cs)

-- a rule that is certain takes the node
pub index-certain : (looked : Looked) (keys : List Table) (rs : List Record) (mode n : ℕ) (ts : List Template) (cs : List Candidate) (entries : List Entry)
    (names : Key → List ℕ) (kinds : ℕ → Kind → List ℕ) (named unnamed : List ℕ) (best : Option Best) (j : ℕ) (e : Entry) → IsTree rs → n < length rs
    → IsIndexed ts cs entries names kinds → IsNodeSearched looked keys rs mode n cs named unnamed best
    → later named unnamed ≡ Some j → slice_get entries j ≡ Some e → e.is_certain ≡ true
    → option_map_or (takes keys rs mode n) (at_entry ts e) false ≡ true
index-certain looked keys rs mode n ts cs entries names kinds named unnamed best j e t h i s l at_e sure =
    let w : (c : Candidate) × (slice_get cs j ≡ Some c) × (at_entry ts e ≡ Some c) = entry-at ts cs entries names kinds j e i at_e in
    let certain : is_certain w.0.alternative ≡ true = sym (same-at certain_at certain_in entries cs j e w.0 i.certain at_e w.1) ∙ sure in
    ap (λ o. option_map_or (takes keys rs mode n) o false) w.2
    ∙ certain-taken keys rs mode n w.0 t h certain
    (elim (search-found (passes looked keys rs mode n) cs (passes_at (named_for mode (at rs n)) cs) (passes_at (is_unnamed mode (at rs n).kind) cs)
    named unnamed best j s l) [
      | inl q ↦ inl (sym (ap (λ o. option_map_or (named_for mode (at rs n)) o false) w.1) ∙ q)
      | inr q ↦ inr (sym (ap (λ o. option_map_or (is_unnamed mode (at rs n).kind) o false) w.1) ∙ q)
    ])

-- the place that comes next is there
pub index-inside : (looked : Looked) (keys : List Table) (rs : List Record) (mode n : ℕ) (ts : List Template) (cs : List Candidate) (entries : List Entry)
    (names : Key → List ℕ) (kinds : ℕ → Kind → List ℕ) (named unnamed : List ℕ) (best : Option Best) (j : ℕ) → IsIndexed ts cs entries names kinds
    → IsNodeSearched looked keys rs mode n cs named unnamed best → later named unnamed ≡ Some j → j < length entries
index-inside looked keys rs mode n ts cs entries names kinds named unnamed best j i s l =
    let inside : j < length cs =
    search-place (passes looked keys rs mode n) cs (passes_at (named_for mode (at rs n)) cs) (passes_at (is_unnamed mode (at rs n).kind) cs)
    named unnamed best j s l in
    let same : length entries ≡ length cs = entries-length ts cs entries i.each in
    omega (arith, inside, same)
