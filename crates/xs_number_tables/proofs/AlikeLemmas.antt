-- What is seen of the nodes that are alike, in one pass.
use Rattle.std.proofs.Common.{◌≡◌, ℕ, suc, ◌+◌, ◌-◌, ◌*◌, ◌<◌, ◌≤◌, ◌==◌, ◌&&◌, Bool, true, false, cond, List, [], ◌∷◌, ◌++◌, Option, Some, None, bytes_eq, if◌then◌else◌, map, refl, sym, subst, ap, ◌∙◌, arith}
use Rattle.std.proofs.lemmas.Bool.{eq-eqb, eqb-true, ne_eqb}
use Rattle.std.specs.Cmp.Lexicographic.{bytes_decides}
use Rattle.std.specs.List.{range_with_len}
use Rattle.std.specs.Option.{option_map_or, unwrap_or}
use Rattle.xs_tree.specs.Axis.{root_of}
use Rattle.xs_tree.specs.Kinds.{is_child_kind, is_root_kind}
use Rattle.xs_tree.specs.Record.{Record, at, is_place, name_local, name_uri}
use Rattle.xs_number_tables.specs.declared.alike.Seen.{Seen}
use Rattle.xs_pattern_spec.specs.Counted.{alike_any_number, alike_number}
use Rattle.xs_numbering.specs.Counting.{has_level, is_alike, kind_number}
use Rattle.xs_number_tables.specs.steps.Alike.{KindAndName, group_after, group_at, held_count, is_likeness, likeness, seen_by, seen_in}
use Rattle.xs_numbering.specs.Passes.{carried_on, children_seen, counted_on, held_by, running}
use Rattle.xs_numbering.proofs.PassLemmas.{before-is, carried-few, carried-is, number-is, numbers-more}
use Rattle.xs_numbering.proofs.SiblingLemmas.{children-few, children-next, number-of}

-- the nodes that are alike to a record
abbrev pub alike : List Record → Record → ℕ → Bool
alike rs r k = is_alike (at rs k) r

-- ---- one more of a likeness
pub and-assoc : (a b c : Bool) → (a && (b && c)) ≡ ((a && b) && c)
and-assoc true b c = refl
and-assoc false b c = refl

left-of : (a b : Bool) → (a && b) ≡ true → a ≡ true
left-of true b h = refl
left-of false b h = absurd (cc)

right-of : (a b : Bool) → (a && b) ≡ true → b ≡ true
right-of true b h = h
right-of false b h = absurd (cc)

pub same-likeness : (a b : KindAndName) → is_likeness a b ≡ true → a ≡ b
same-likeness a b h =
    let first : ((a.0 == b.0) && bytes_eq a.1.0 b.1.0) ≡ true = left-of ((a.0 == b.0) && bytes_eq a.1.0 b.1.0) (bytes_eq a.1.1 b.1.1) h in
    let kind : a.0 ≡ b.0 = eqb-true a.0 b.0 (left-of (a.0 == b.0) (bytes_eq a.1.0 b.1.0) first) in
    let uri : a.1.0 ≡ b.1.0 = (bytes_decides a.1.0 b.1.0).0 (right-of (a.0 == b.0) (bytes_eq a.1.0 b.1.0) first) in
    let local : a.1.1 ≡ b.1.1 = (bytes_decides a.1.1 b.1.1).0 (right-of ((a.0 == b.0) && bytes_eq a.1.0 b.1.0) (bytes_eq a.1.1 b.1.1) h) in
    ap (λ k. (k, (a.1.0, a.1.1))) kind ∙ ap (λ u. (b.0, (u, a.1.1))) uri ∙ ap (λ l. (b.0, (b.1.0, l))) local

-- what a table has of a likeness, once another one was entered
pub set-is : (b : Bool) (count : ℕ) (o : Option ℕ) → unwrap_or (if b then Some count else o) 0 ≡ (if b then count else unwrap_or o 0)
set-is true count o = refl
set-is false count o = refl

pub counted-same : (seen : Seen) (group other : ℕ) (a b : KindAndName) (number : ℕ) → number ≡ seen_by seen group a + 1
    → cond ((group == other) && is_likeness a b) number (seen_by seen other b) ≡ counted_on ((group == other) && is_likeness a b) (seen_by seen other b)
counted-same seen group other a b number e = by ((group == other) && is_likeness a b) refl
  where
    by : (t : Bool) → ((group == other) && is_likeness a b) ≡ t → cond t number (seen_by seen other b) ≡ counted_on t (seen_by seen other b)
    by true h =
        e
        ∙ ap (λ g. seen_by seen g a + 1) (eqb-true group other (left-of (group == other) (is_likeness a b) h))
        ∙ ap (λ l. seen_by seen other l + 1) (same-likeness a b (right-of (group == other) (is_likeness a b) h))
    by false h = refl

-- ---- siblings
placed : (t : Bool) (o : Option ℕ) (p : ℕ) → is_place p (if t then o else None) ≡ (is_place p o && t)
placed true None p = refl
placed true (Some q) p = and-true (q == p)
  where
    and-true : (b : Bool) → b ≡ (b && true)
    and-true true = refl
    and-true false = refl
placed false None p = refl
placed false (Some q) p = and-false (q == p)
  where
    and-false : (b : Bool) → false ≡ (b && false)
    and-false true = refl
    and-false false = refl

pub seen-next : (rs : List Record) (was now : ℕ → Record → ℕ) (n : ℕ) → ((p : ℕ) (r : Record) → was p r ≡ children_seen (alike rs r) rs p n)
    → ((p : ℕ) (r : Record) → now p r ≡ counted_on (is_place p (held_by (at rs n)) && is_alike (at rs n) r) (was p r))
    → (p : ℕ) (r : Record) → now p r ≡ children_seen (alike rs r) rs p (n + 1)
seen-next rs was now n before one p r =
    one p r
    ∙ ap (counted_on (is_place p (held_by (at rs n)) && is_alike (at rs n) r)) (before p r)
    ∙ ap (λ b. counted_on (b && is_alike (at rs n) r) (children_seen (alike rs r) rs p n)) (placed (is_child_kind (at rs n).kind) (at rs n).parent p)
    ∙ sym (children-next (alike rs r) rs p n)

held-is : (rs : List Record) (seen : Seen) (n : ℕ) (o : Option ℕ) → ((p : ℕ) (r : Record) → seen_in seen p r ≡ children_seen (alike rs r) rs p n)
    → option_map_or (λ p. seen_in seen p (at rs n)) o 0 ≡ option_map_or (λ p. children_seen (alike rs (at rs n)) rs p n) o 0
held-is rs seen n None before = refl
held-is rs seen n (Some p) before = before p (at rs n)

pub sibling-is : (rs : List Record) (seen : Seen) (n number : ℕ) → ((p : ℕ) (r : Record) → seen_in seen p r ≡ children_seen (alike rs r) rs p n)
    → number ≡ held_count seen (at rs n) + 1 → number ≡ alike_number rs n
sibling-is rs seen n number before e =
    let next : held_count seen (at rs n) + 1 ≡ suc (held_count seen (at rs n)) = omega arith in
    e ∙ next ∙ ap suc (held-is rs seen n (held_by (at rs n)) before) ∙ sym (number-of (alike rs (at rs n)) rs n)

pub held-few : (rs : List Record) (seen : Seen) (n : ℕ) → ((p : ℕ) (r : Record) → seen_in seen p r ≡ children_seen (alike rs r) rs p n)
    → held_count seen (at rs n) ≤ n
held-few rs seen n before =
    subst (λ k. k ≤ n) (sym (held-is rs seen n (held_by (at rs n)) before)) (by (held_by (at rs n)))
  where
    by : (o : Option ℕ) → option_map_or (λ p. children_seen (alike rs (at rs n)) rs p n) o 0 ≤ n
    by None = omega arith
    by (Some p) = children-few (alike rs (at rs n)) rs p n

-- what one node adds
pub record IsNextAlike (rs : List Record) (after : Seen) (now : List ℕ) (place : ℕ) : Type 0 where
  pub numbers : now ≡ map (alike_number rs) (range_with_len 0 (place + 1))
  pub seen : (p : ℕ) (r : Record) → seen_in after p r ≡ children_seen (alike rs r) rs p (place + 1)

pub next-alike : (rs : List Record) (was now : List ℕ) (before after : Seen) (place node number : ℕ) → node ≡ place
    → was ≡ map (alike_number rs) (range_with_len 0 place)
    → ((p : ℕ) (r : Record) → seen_in before p r ≡ children_seen (alike rs r) rs p place) → number ≡ held_count before (at rs node) + 1
    → ((p : ℕ) (r : Record) → seen_in after p r ≡ counted_on (is_place p (held_by (at rs node)) && is_alike (at rs node) r) (seen_in before p r))
    → now ≡ was ++ number ∷ [] → IsNextAlike rs after now place
next-alike rs was now before after place node number same so_far seen is one pushed = record {
  numbers =
      numbers-more (alike_number rs) was now place number pushed so_far
      (sibling-is rs before place number seen (is ∙ ap (λ k. held_count before (at rs k) + 1) same));
  seen = seen-next rs (seen_in before) (seen_in after) place seen
      (λ p r. one p r ∙ ap (λ k. counted_on (is_place p (held_by (at rs k)) && is_alike (at rs k) r) (seen_in before p r)) same);
}

pub held-few-at : (rs : List Record) (seen : Seen) (place node : ℕ) → node ≡ place
    → ((p : ℕ) (r : Record) → seen_in seen p r ≡ children_seen (alike rs r) rs p place) → held_count seen (at rs node) ≤ place
held-few-at rs seen place node same before =
    subst (λ k. held_count seen (at rs k) ≤ place) (sym same) (held-few rs seen place before)

-- ---- any level
-- what is seen in the group of the nodes before a place, and that no group comes after it
pub record IsSeen (from : ℕ → Bool) (rs : List Record) (seen : Seen) (group n : ℕ) : Type 0 where
  pub here : (r : Record) → seen_in seen group r ≡ running (alike rs r) from rs (root_of rs (n - 1)) n
  pub later : (g : ℕ) (r : Record) → group < g → seen_in seen g r ≡ 0
  pub few : (r : Record) → seen_in seen group r ≤ n
  pub groups : group ≤ 2 * n

here-by : (seen : Seen) (r : Record) (group : ℕ) (t : Bool) → ((g : ℕ) (r : Record) → group < g → seen_in seen g r ≡ 0)
    → seen_in seen (if t then group + 1 else group) r ≡ (if t then 0 else seen_in seen group r)
here-by seen r group true later = later (group + 1) r (omega arith)
here-by seen r group false later = refl

-- at a node, whose group may be another one
pub at-node : (from : ℕ → Bool) (rs : List Record) (seen : Seen) (group n : ℕ) → IsSeen from rs seen group n → (r : Record)
    → seen_in seen (group_at (at rs n) group) r ≡ running (alike rs r) from rs (root_of rs n) n
at-node from rs seen group n s r =
    here-by seen r group (is_root_kind (at rs n).kind) s.later ∙ before-is (alike rs r) from rs n (seen_in seen group r) (s.here r)

pub any-is : (from : ℕ → Bool) (rs : List Record) (seen : Seen) (group n number : ℕ) → IsSeen from rs seen group n
    → number ≡ seen_in seen (group_at (at rs n) group) (at rs n) + 1 → is_alike (at rs n) (at rs n) ≡ true → number ≡ alike_any_number from rs n
any-is from rs seen group n number s e self =
    let run = at-node from rs seen group n s (at rs n) in
    e
    ∙ ap (λ b. counted_on b (seen_in seen (group_at (at rs n) group) (at rs n))) (sym self)
    ∙ number-is (alike rs (at rs n)) from rs n (seen_in seen (group_at (at rs n) group) (at rs n)) run

pub at-few : (from : ℕ → Bool) (rs : List Record) (seen : Seen) (group n : ℕ) → IsSeen from rs seen group n → (r : Record)
    → seen_in seen (group_at (at rs n) group) r ≤ n
at-few from rs seen group n s r = by (is_root_kind (at rs n).kind)
  where
    by : (t : Bool) → seen_in seen (if t then group + 1 else group) r ≤ n
    by true = subst (λ k. k ≤ n) (sym (s.later (group + 1) r (omega arith))) (omega arith)
    by false = s.few r

group-few : (r : Record) (group : ℕ) → group_at r group ≤ group + 1
group-few r group = by (is_root_kind r.kind)
  where
    by : (t : Bool) → (if t then group + 1 else group) ≤ group + 1
    by true = omega arith
    by false = omega arith

group-rises : (r : Record) (group : ℕ) → group ≤ group_at r group
group-rises r group = by (is_root_kind r.kind)
  where
    by : (t : Bool) → group ≤ (if t then group + 1 else group)
    by true = omega arith
    by false = omega arith

itself : (n : ℕ) → (n == n) ≡ true
itself n = eq-itself n n refl
  where
    eq-itself : (a b : ℕ) → a ≡ b → (a == b) ≡ true
    eq-itself a b e = eq-eqb a b e

-- another group has what it had
other-group : (level alike : Bool) (here g k : ℕ) → here < g → counted_on (level && ((here == g) && alike)) k ≡ k
other-group level alike here g k lt = ap (λ b. counted_on (level && (b && alike)) k) (ne_eqb here g (λ e. absurd (omega (arith, lt, e)))) ∙ by level
  where
    by : (t : Bool) → counted_on (t && (false && alike)) k ≡ k
    by true = refl
    by false = refl

-- after a node
after-by : (seen : Seen) (r : Record) (here k : ℕ) (level starts same : Bool) → seen_in seen here r ≡ counted_on (level && ((here == here) && same)) k
    → seen_in seen (here + 1) r ≡ 0
    → seen_in seen (if level then (if starts then here + 1 else here) else here) r ≡ carried_on level starts same k
after-by seen r here k true true same e z = z
after-by seen r here k true false same e z = e ∙ ap (λ b. counted_on (b && same) k) (itself here)
after-by seen r here k false starts same e z = e

pub seen-after : (from : ℕ → Bool) (rs : List Record) (was now : Seen) (group n : ℕ) → IsSeen from rs was group n
    → ((g : ℕ) (r : Record) → seen_in now g r
    ≡ counted_on (has_level (at rs n) && ((group_at (at rs n) group == g) && is_alike (at rs n) r)) (seen_in was g r))
    → IsSeen from rs now (group_after (at rs n) (from n) (group_at (at rs n) group)) (n + 1)
seen-after from rs was now group n s one =
    let here = group_at (at rs n) group in
    let rises : group ≤ here = group-rises (at rs n) group in
    let zero_later : (g : ℕ) (r : Record) → here < g → seen_in now g r ≡ 0 =
    λ g r lt. one g r ∙ other-group (has_level (at rs n)) (is_alike (at rs n) r) here g (seen_in was g r) lt ∙ s.later g r (omega (arith, lt, rises)) in
    let run : (r : Record) → seen_in now (group_after (at rs n) (from n) here) r
    ≡ carried_on (has_level (at rs n)) (from n) (is_alike (at rs n) r) (seen_in was here r) =
    λ r. after-by now r here (seen_in was here r) (has_level (at rs n)) (from n) (is_alike (at rs n) r) (one here r) (zero_later (here + 1) r (omega arith)) in
    record {
      here = λ r.
          run r ∙ carried-is (alike rs r) from rs n (seen_in was here r) (at-node from rs was group n s r);
      later = λ g r lt. zero_later g r
          (let up : here ≤ group_after (at rs n) (from n) here = after-rises (has_level (at rs n)) (from n) here in omega (arith, up, lt));
      few = λ r. subst (λ k. k ≤ n + 1) (sym (run r))
          (carried-few (has_level (at rs n)) (from n) (is_alike (at rs n) r) (seen_in was here r) n (at-few from rs was group n s r));
      groups =
          let a : here ≤ group + 1 = group-few (at rs n) group in
          let b : group_after (at rs n) (from n) here ≤ here + 1 = after-few (has_level (at rs n)) (from n) here in
          let c : group ≤ 2 * n = s.groups in
          omega (arith, a, b, c);
    }
  where
    after-rises : (level starts : Bool) (here : ℕ) → here ≤ (if level then (if starts then here + 1 else here) else here)
    after-rises true true here = omega arith
    after-rises true false here = omega arith
    after-rises false starts here = omega arith

    after-few : (level starts : Bool) (here : ℕ) → (if level then (if starts then here + 1 else here) else here) ≤ here + 1
    after-few true true here = omega arith
    after-few true false here = omega arith
    after-few false starts here = omega arith

-- a node is alike to itself
pub self-alike : (r : Record) → is_alike r r ≡ true
self-alike r =
    ap (λ b. b && bytes_eq (name_uri r) (name_uri r) && bytes_eq (name_local r) (name_local r)) (itself (kind_number r.kind))
    ∙ ap (λ b. b && bytes_eq (name_local r) (name_local r)) ((bytes_decides (name_uri r) (name_uri r)).1 refl)
    ∙ (bytes_decides (name_local r) (name_local r)).1 refl

-- before the first node
pub none-seen : (from : ℕ → Bool) (rs : List Record) (seen : Seen) → ((g : ℕ) (l : KindAndName) → seen_by seen g l ≡ 0) → IsSeen from rs seen 0 0
none-seen from rs seen none = record {
  here = λ r. none 0 (likeness r);
  later = λ g r lt. none g (likeness r);
  few = λ r. subst (λ k. k ≤ 0) (sym (none 0 (likeness r))) (omega arith);
  groups = omega arith;
}

-- what one node adds
pub record IsNextAny (from : ℕ → Bool) (rs : List Record) (after : Seen) (now : List ℕ) (group place : ℕ) : Type 0 where
  pub numbers : now ≡ map (alike_any_number from rs) (range_with_len 0 (place + 1))
  pub seen : IsSeen from rs after group (place + 1)

pub next-any : (from : ℕ → Bool) (rs : List Record) (was now : List ℕ) (before after : Seen) (place node group here next number : ℕ) → node ≡ place
    → was ≡ map (alike_any_number from rs) (range_with_len 0 place) → IsSeen from rs before group place → here ≡ group_at (at rs node) group
    → number ≡ seen_in before here (at rs node) + 1
    → ((g : ℕ) (r : Record) → seen_in after g r ≡ counted_on (has_level (at rs node) && ((here == g) && is_alike (at rs node) r)) (seen_in before g r))
    → now ≡ was ++ number ∷ [] → next ≡ group_after (at rs node) (from node) here → IsNextAny from rs after now next place
next-any from rs was now before after place node group here next number same so_far seen at_here is one pushed goes =
    let here-is : here ≡ group_at (at rs place) group = at_here ∙ ap (λ k. group_at (at rs k) group) same in
    let next-is : next ≡ group_after (at rs place) (from place) (group_at (at rs place) group) =
    goes ∙ ap (λ k. group_after (at rs k) (from k) here) same ∙ ap (group_after (at rs place) (from place)) here-is in
    let number-at : number ≡ seen_in before (group_at (at rs place) group) (at rs place) + 1 =
    is ∙ ap (λ k. seen_in before here (at rs k) + 1) same ∙ ap (λ g. seen_in before g (at rs place) + 1) here-is in
    let one-at : (g : ℕ) (r : Record) → seen_in after g r
    ≡ counted_on (has_level (at rs place) && ((group_at (at rs place) group == g) && is_alike (at rs place) r)) (seen_in before g r) =
    λ g r. one g r
    ∙ ap (λ k. counted_on (has_level (at rs k) && ((here == g) && is_alike (at rs k) r)) (seen_in before g r)) same
    ∙ ap (λ h. counted_on (has_level (at rs place) && ((h == g) && is_alike (at rs place) r)) (seen_in before g r)) here-is in
    record {
      numbers =
          numbers-more (alike_any_number from rs) was now place number pushed so_far
          (any-is from rs before group place number seen number-at (self-alike (at rs place)));
      seen = subst (λ g. IsSeen from rs after g (place + 1)) (sym next-is) (seen-after from rs before after group place seen one-at);
    }

pub here-few : (from : ℕ → Bool) (rs : List Record) (seen : Seen) (group here place node : ℕ) → node ≡ place → IsSeen from rs seen group place
    → here ≡ group_at (at rs node) group → seen_in seen here (at rs node) ≤ place
here-few from rs seen group here place node same s at_here =
    subst (λ k. seen_in seen here (at rs k) ≤ place) (sym same)
    (subst (λ g. seen_in seen g (at rs place) ≤ place) (sym (at_here ∙ ap (λ k. group_at (at rs k) group) same))
    (at-few from rs seen group place s (at rs place)))

pub groups-few : (r : Record) (group here n : ℕ) → here ≡ group_at r group → group ≤ 2 * n → here ≤ 2 * n + 1
groups-few r group here n e le = let up : group_at r group ≤ group + 1 = group-few r group in omega (arith, e, up, le)
