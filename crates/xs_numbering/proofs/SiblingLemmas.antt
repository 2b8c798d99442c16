-- How many siblings are counted before a node.
use Rattle.std.proofs.Common.{◌≡◌, ◌≢◌, ℕ, zero, suc, ◌+◌, ◌<◌, ◌≤◌, ◌==◌, ◌&&◌, Bool, true, false, cond, List, [], ◌∷◌, ◌++◌, IfSome, Option, Some, None, filter, get_or, if◌then◌else◌, inl, inr, length, map, set, refl, sym, subst, ap, ◌∙◌, length-append, arith}
use Rattle.std.specs.List.{range_with_len}
use Rattle.std.specs.Option.{option_map_or}
use Rattle.std.proofs.lemmas.Bool.Decides.{eqb_tells}
use Rattle.std.proofs.lemmas.List.{append-nil, get_or-set_other, get_or-set_same, length-set}
use Rattle.std.proofs.lemmas.List.Elements.{filter-append}
use Rattle.std.proofs.lemmas.List.FromFn.{length-range_with_len}
use Rattle.xs_tree.specs.Kinds.{is_child_kind}
use Rattle.xs_tree.specs.Record.{Record, at, is_child, is_place}
use Rattle.xs_tree.specs.Shape.{IsTree}
use Rattle.xs_tree.proofs.WalkLemmas.{IsPlaced-at}
use Rattle.xs_numbering.specs.Counting.{sibling_number}
use Rattle.xs_numbering.specs.Passes.{children_seen, counted_on, held_by, seen_at, seen_with}
use Rattle.xs_numbering.proofs.PassLemmas.{numbers-more, range-next}

filter-never : (xs : List ℕ) → filter (λ k. false) xs ≡ []
filter-never [] = refl
filter-never (x ∷ xs) = filter-never xs

-- the siblings of a child are the children of its parent
siblings-by : (counts : ℕ → Bool) (rs : List Record) (t : Bool) (o : Option ℕ) (xs : List ℕ)
    → length (filter counts (filter (λ k. t && option_map_or (λ p. is_child rs p k) o false) xs))
    ≡ option_map_or (λ p. length (filter counts (filter (is_child rs p) xs))) (if t then o else None) 0
siblings-by counts rs true None xs = ap (λ ys. length (filter counts ys)) (filter-never xs)
siblings-by counts rs true (Some p) xs = refl
siblings-by counts rs false o xs = ap (λ ys. length (filter counts ys)) (filter-never xs)

pub number-of : (counts : ℕ → Bool) (rs : List Record) (n : ℕ)
    → sibling_number counts rs n ≡ suc (option_map_or (λ p. children_seen counts rs p n) (held_by (at rs n)) 0)
number-of counts rs n = ap suc (siblings-by counts rs (is_child_kind (at rs n).kind) (at rs n).parent (range_with_len 0 n))

-- what a table has of a parent
seen-is : (counts : ℕ → Bool) (rs : List Record) (seen : List ℕ) (n : ℕ) (o : Option ℕ)
    → ((p : ℕ) → p < length rs → get_or seen p 0 ≡ children_seen counts rs p n) → IfSome o (λ p. p < length rs)
    → seen_at seen o ≡ option_map_or (λ p. children_seen counts rs p n) o 0
seen-is counts rs seen n None facts within = refl
seen-is counts rs seen n (Some p) facts within = facts p within

pub held-within : (rs : List Record) (n : ℕ) → IsTree rs → n < length rs → IfSome (held_by (at rs n)) (λ p. p < length rs)
held-within rs n tree lt = by (is_child_kind (at rs n).kind) (at rs n).parent refl
  where
    by : (t : Bool) (o : Option ℕ) → (at rs n).parent ≡ o → IfSome (if t then o else None) (λ p. p < length rs)
    by false o e = tt
    by true None e = tt
    by true (Some p) e = let before : p < n = (IsPlaced-at rs n p tree lt e).before in omega (arith, before, lt)

-- one node more

pub children-next : (counts : ℕ → Bool) (rs : List Record) (p n : ℕ)
    → children_seen counts rs p (n + 1) ≡ counted_on (is_child rs p n && counts n) (children_seen counts rs p n)
children-next counts rs p n =
    ap (λ xs. length (filter counts (filter (is_child rs p) xs))) (range-next n)
    ∙ ap (λ xs. length (filter counts xs)) (filter-append (is_child rs p) (range_with_len 0 n) (n ∷ []))
    ∙ by (filter (is_child rs p) (range_with_len 0 n)) (is_child rs p n)
  where
    one : (ys : List ℕ) (u : Bool) → length ys + length (cond u (n ∷ []) []) ≡ counted_on u (length ys)
    one ys true = omega arith
    one ys false = omega arith

    by : (xs : List ℕ) (t : Bool) → length (filter counts (xs ++ cond t (n ∷ []) [])) ≡ counted_on (t && counts n) (length (filter counts xs))
    by xs false = ap (λ ys. length (filter counts ys)) (append-nil xs)
    by xs true =
        ap length (filter-append counts xs (n ∷ [])) ∙ length-append (filter counts xs) (filter counts (n ∷ []))
        ∙ one (filter counts xs) (counts n)

no_more : (b c : Bool) (k : ℕ) → counted_on ((b && false) && c) k ≡ k
no_more true c k = refl
no_more false c k = refl

same_place : (c : Bool) (seen : List ℕ) (q p k : ℕ) → q ≡ p → q < length seen → get_or seen p 0 ≡ k
    → get_or (if c then set seen q (get_or seen q 0 + 1) else seen) p 0 ≡ counted_on c k
same_place false seen q p k same lt is = is
same_place true seen q p k same lt is =
    subst (λ j. get_or (set seen q (get_or seen q 0 + 1)) j 0 ≡ get_or seen j 0 + 1) same (get_or-set_same seen q (get_or seen q 0 + 1) 0 lt)
    ∙ ap (λ j. j + 1) is

other_place : (c : Bool) (seen : List ℕ) (q p k : ℕ) → p ≢ q → get_or seen p 0 ≡ k
    → get_or (if c then set seen q (get_or seen q 0 + 1) else seen) p 0 ≡ k
other_place false seen q p k other is = is
other_place true seen q p k other is = get_or-set_other seen q p (get_or seen q 0 + 1) 0 other ∙ is

seen-next : (counts : ℕ → Bool) (rs : List Record) (seen : List ℕ) (n : ℕ)
    → ((p : ℕ) → p < length rs → get_or seen p 0 ≡ children_seen counts rs p n) → length seen ≡ length rs
    → IfSome (held_by (at rs n)) (λ p. p < length rs) → (p : ℕ) → p < length rs
    → get_or (seen_with (counts n) (held_by (at rs n)) seen) p 0 ≡ children_seen counts rs p (n + 1)
seen-next counts rs seen n facts len held p lt = by (is_child_kind (at rs n).kind) (at rs n).parent held ∙ sym (children-next counts rs p n)
  where
    by : (t : Bool) (o : Option ℕ) → IfSome (if t then o else None) (λ q. q < length rs)
        → get_or (seen_with (counts n) (if t then o else None) seen) p 0
        ≡ counted_on ((is_place p o && t) && counts n) (children_seen counts rs p n)
    by false o w = facts p lt ∙ sym (no_more (is_place p o) (counts n) (children_seen counts rs p n))
    by true None w = facts p lt
    by true (Some q) w =
        elim (eqb_tells q p) [
          | inl h ↦ same_place (counts n) seen q p (children_seen counts rs p n) h.1 (subst (λ k. q < k) (sym len) w) (facts p lt)
              ∙ ap (λ b. counted_on ((b && true) && counts n) (children_seen counts rs p n)) (sym h.0)
          | inr h ↦ other_place (counts n) seen q p (children_seen counts rs p n) (λ e. h.1 (sym e)) (facts p lt)
              ∙ ap (λ b. counted_on ((b && true) && counts n) (children_seen counts rs p n)) (sym h.0)
        ]

-- at most all nodes before it

filter-few : (test : ℕ → Bool) (xs : List ℕ) → length (filter test xs) ≤ length xs
filter-few test [] = let e : 0 ≤ 0 = omega arith in e
filter-few test (x ∷ xs) = by (test x) (filter-few test xs)
  where
    by : (t : Bool) → length (filter test xs) ≤ length xs → length (cond t (x ∷ filter test xs) (filter test xs)) ≤ suc (length xs)
    by true h = let e : suc (length (filter test xs)) ≤ suc (length xs) = omega (arith, h) in e
    by false h = omega (arith, h)

pub children-few : (counts : ℕ → Bool) (rs : List Record) (p n : ℕ) → children_seen counts rs p n ≤ n
children-few counts rs p n =
    omega (
      arith,
      filter-few counts (filter (is_child rs p) (range_with_len 0 n)),
      filter-few (is_child rs p) (range_with_len 0 n),
      length-range_with_len 0 n,
    )

pub seen-few : (counts : ℕ → Bool) (rs : List Record) (seen : List ℕ) (n : ℕ) (o : Option ℕ)
    → ((p : ℕ) → p < length rs → get_or seen p 0 ≡ children_seen counts rs p n) → IfSome o (λ p. p < length rs) → seen_at seen o ≤ n
seen-few counts rs seen n None facts within = omega arith
seen-few counts rs seen n (Some p) facts within = subst (λ k. k ≤ n) (sym (facts p within)) (children-few counts rs p n)

-- what one node adds
pub record IsNextSibling (counts : ℕ → Bool) (rs : List Record) (now after : List ℕ) (place : ℕ) : Type 0 where
  pub numbers : now ≡ map (sibling_number counts rs) (range_with_len 0 (place + 1))
  pub seen : (p : ℕ) → p < length rs → get_or after p 0 ≡ children_seen counts rs p (place + 1)

pub next_sibling : (counts : ℕ → Bool) (rs : List Record) (was now seen after : List ℕ) (place node x : ℕ) (parent : Option ℕ) (m : Bool)
    → IsTree rs → node < length rs → node ≡ place → was ≡ map (sibling_number counts rs) (range_with_len 0 place)
    → ((p : ℕ) → p < length rs → get_or seen p 0 ≡ children_seen counts rs p place) → length seen ≡ length rs → parent ≡ held_by (at rs node)
    → m ≡ counts node → x ≡ seen_at seen parent + 1 → now ≡ was ++ x ∷ [] → after ≡ seen_with m parent seen
    → IsNextSibling counts rs now after place
next_sibling counts rs was now seen after place node x parent m tree lt same so_far facts len held flagged is pushed saw =
    let held-at : parent ≡ held_by (at rs place) = held ∙ ap (λ k. held_by (at rs k)) same in
    let inside : place < length rs = subst (λ k. k < length rs) same lt in
    let within : IfSome (held_by (at rs place)) (λ p. p < length rs) = held-within rs place tree inside in
    let count : seen_at seen parent ≡ option_map_or (λ p. children_seen counts rs p place) (held_by (at rs place)) 0 =
    ap (seen_at seen) held-at ∙ seen-is counts rs seen place (held_by (at rs place)) facts within in
    let next : seen_at seen parent + 1 ≡ suc (seen_at seen parent) = omega arith in
    let after-is : after ≡ seen_with (counts place) (held_by (at rs place)) seen =
    saw ∙ ap (λ b. seen_with b parent seen) (flagged ∙ ap counts same) ∙ ap (λ o. seen_with (counts place) o seen) held-at in
    record {
      numbers =
          numbers-more (sibling_number counts rs) was now place x pushed so_far
          (is ∙ next ∙ ap suc count ∙ sym (number-of counts rs place));
      seen = λ p inside_p.
          ap (λ xs. get_or xs p 0) after-is ∙ seen-next counts rs seen place facts len within p inside_p;
    }

pub seen-long : (c : Bool) (o : Option ℕ) (seen after : List ℕ) (n : ℕ) → after ≡ seen_with c o seen → length seen ≡ n → length after ≡ n
seen-long c None seen after n is len = ap length is ∙ len
seen-long false (Some p) seen after n is len = ap length is ∙ len
seen-long true (Some p) seen after n is len = ap length is ∙ length-set seen p (get_or seen p 0 + 1) ∙ len
