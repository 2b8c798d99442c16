-- What one pass over the nodes counts.
use Rattle.std.proofs.Common.{◌≡◌, ℕ, zero, suc, ◌+◌, ◌-◌, ◌<◌, ◌≤◌, ◌==◌, ◌&&◌, Bool, true, false, cond, not, List, [], ◌∷◌, ◌++◌, filter, get_or, if◌then◌else◌, length, map, reverse, take_while, refl, sym, subst, ap, ◌∙◌, length-append, append_assoc, arith}
use Rattle.std.specs.List.{range_with_len}
use Rattle.std.proofs.lemmas.Bool.{eq-eqb, ne_eqb}
use Rattle.std.proofs.lemmas.List.{append-nil, map-id, reverse-append}
use Rattle.std.proofs.lemmas.List.Elements.{filter-append}
use Rattle.std.proofs.lemmas.List.FromFn.{map-range_with_len_more}
use Rattle.std.proofs.lemmas.List.Sums.{take_while-cons}
use Rattle.xs_tree.specs.Axis.{root_of}
use Rattle.xs_tree.specs.Kinds.{is_root_kind}
use Rattle.xs_tree.specs.Record.{Record, at}
use Rattle.xs_numbering.specs.Counting.{any_number, has_level, looked_at, passed}
use Rattle.xs_numbering.specs.Passes.{carried_on, counted_on, running}

pub range-next : (n : ℕ) → range_with_len 0 (n + 1) ≡ range_with_len 0 n ++ n ∷ []
range-next n =
    sym (map-id (range_with_len 0 (n + 1))) ∙ map-range_with_len_more (λ k. k) 0 n n (omega arith)
    ∙ ap (λ xs. xs ++ n ∷ []) (map-id (range_with_len 0 n))

passed-next : (rs : List Record) (r n : ℕ) → passed rs r (n + 1) ≡ passed rs r n ++ cond ((root_of rs n == r) && has_level (at rs n)) (n ∷ []) []
passed-next rs r n =
    ap (filter (λ k. (root_of rs k == r) && has_level (at rs k))) (range-next n)
    ∙ filter-append (λ k. (root_of rs k == r) && has_level (at rs k)) (range_with_len 0 n) (n ∷ [])

count-one : (counts : ℕ → Bool) (n : ℕ) (ns : List ℕ) → length (filter counts (n ∷ ns)) ≡ counted_on (counts n) (length (filter counts ns))
count-one counts n ns = by (counts n)
  where
    by : (t : Bool) → length (cond t (n ∷ filter counts ns) (filter counts ns)) ≡ counted_on t (length (filter counts ns))
    by true = omega arith
    by false = refl

-- one node more
running-next : (counts from : ℕ → Bool) (rs : List Record) (r n : ℕ) → root_of rs n ≡ r
    → running counts from rs r (n + 1) ≡ carried_on (has_level (at rs n)) (from n) (counts n) (running counts from rs r n)
running-next counts from rs r n here =
    ap (λ xs. length (filter counts (take_while (λ k. not (from k)) (reverse xs))))
    (passed-next rs r n ∙ ap (λ t. passed rs r n ++ cond (t && has_level (at rs n)) (n ∷ []) []) (eq-eqb (root_of rs n) r here))
    ∙ by (has_level (at rs n))
  where
    stops : (t : Bool)
        → length (filter counts (cond (not t) (n ∷ looked_at from rs r n) [])) ≡ (if t then 0 else counted_on (counts n) (running counts from rs r n))
    stops true = refl
    stops false = count-one counts n (looked_at from rs r n)

    by : (level : Bool)
        → length (filter counts (take_while (λ k. not (from k)) (reverse (passed rs r n ++ cond level (n ∷ []) []))))
        ≡ carried_on level (from n) (counts n) (running counts from rs r n)
    by false = ap (λ xs. length (filter counts (take_while (λ k. not (from k)) (reverse xs)))) (append-nil (passed rs r n))
    by true =
        ap (λ xs. length (filter counts (take_while (λ k. not (from k)) xs))) (reverse-append (passed rs r n) (n ∷ []))
        ∙ ap (λ xs. length (filter counts xs)) (take_while-cons (λ k. not (from k)) n (reverse (passed rs r n))) ∙ stops (from n)

-- the root of a document comes after no node of it

root_of-le : (rs : List Record) (k : ℕ) → root_of rs k ≤ k
root_of-le rs zero = omega arith
root_of-le rs (suc k) = by (is_root_kind (at rs (suc k)).kind) (root_of-le rs k)
  where
    by : (t : Bool) → root_of rs k ≤ k → cond t (suc k) (root_of rs k) ≤ suc k
    by true le = omega arith
    by false le = omega arith

none-passed : (rs : List Record) (r n : ℕ) → n ≤ r → passed rs r n ≡ []
none-passed rs r zero le = refl
none-passed rs r (suc n) le =
    let e : suc n ≡ n + 1 = omega arith in
    let other : root_of rs n ≡ r → ⊥ = λ same. let low : root_of rs n ≤ n = root_of-le rs n in omega arith in
    ap (passed rs r) e ∙ passed-next rs r n
    ∙ ap (λ t. passed rs r n ++ cond (t && has_level (at rs n)) (n ∷ []) []) (ne_eqb (root_of rs n) r other)
    ∙ append-nil (passed rs r n) ∙ none-passed rs r n (omega arith)

root-itself : (rs : List Record) (n : ℕ) → is_root_kind (at rs n).kind ≡ true → root_of rs n ≡ n
root-itself rs zero is = refl
root-itself rs (suc n) is = rw is refl

root-before : (rs : List Record) (n : ℕ) → is_root_kind (at rs (suc n)).kind ≡ false → root_of rs (suc n) ≡ root_of rs n
root-before rs n is = rw is refl

pub before-is : (counts from : ℕ → Bool) (rs : List Record) (n carried : ℕ) → carried ≡ running counts from rs (root_of rs (n - 1)) n
    → (if is_root_kind (at rs n).kind then 0 else carried) ≡ running counts from rs (root_of rs n) n
before-is counts from rs n carried is = by (is_root_kind (at rs n).kind) refl
  where
    later : (m : ℕ) → m ≡ n → is_root_kind (at rs m).kind ≡ false → carried ≡ running counts from rs (root_of rs n) n
    later zero same at = is ∙ subst (λ k. running counts from rs (root_of rs (k - 1)) k ≡ running counts from rs (root_of rs k) k) same refl
    later (suc m) same at =
        let back : n - 1 ≡ m = omega arith in
        is
        ∙ ap (λ k. running counts from rs k n)
        (ap (root_of rs) back ∙ sym (root-before rs m at) ∙ ap (root_of rs) same)

    by : (t : Bool) → is_root_kind (at rs n).kind ≡ t → (if t then 0 else carried) ≡ running counts from rs (root_of rs n) n
    by true at =
        sym (ap (λ xs. length (filter counts (take_while (λ k. not (from k)) (reverse xs))))
        (ap (λ r. passed rs r n) (root-itself rs n at) ∙ none-passed rs n n (omega arith)))
    by false at = later n refl at

-- the numbers so far
pub numbers-more : {X : Type 0} (f : ℕ → X) (was now : List X) (place : ℕ) (x : X) → now ≡ was ++ x ∷ []
    → was ≡ map f (range_with_len 0 place) → x ≡ f place → now ≡ map f (range_with_len 0 (place + 1))
numbers-more f was now place x pushed so_far is =
    pushed ∙ ap (λ xs. xs ++ x ∷ []) so_far ∙ ap (λ y. map f (range_with_len 0 place) ++ y ∷ []) is
    ∙ sym (map-range_with_len_more f 0 place place (omega arith))

pub number-is : (counts from : ℕ → Bool) (rs : List Record) (n before : ℕ) → before ≡ running counts from rs (root_of rs n) n
    → counted_on (counts n) before ≡ any_number counts from rs n
number-is counts from rs n before is =
    ap (counted_on (counts n)) is ∙ sym (count-one counts n (looked_at from rs (root_of rs n) n))

pub carried-is : (counts from : ℕ → Bool) (rs : List Record) (n before : ℕ) → before ≡ running counts from rs (root_of rs n) n
    → carried_on (has_level (at rs n)) (from n) (counts n) before ≡ running counts from rs (root_of rs ((n + 1) - 1)) (n + 1)
carried-is counts from rs n before is =
    let back : n ≡ (n + 1) - 1 = omega arith in
    ap (carried_on (has_level (at rs n)) (from n) (counts n)) is ∙ sym (running-next counts from rs (root_of rs n) n refl)
    ∙ ap (λ k. running counts from rs (root_of rs k) (n + 1)) back

pub carried-few : (level starts counts : Bool) (before n : ℕ) → before ≤ n → carried_on level starts counts before ≤ n + 1
carried-few false starts counts before n le = omega arith
carried-few true true counts before n le = omega arith
carried-few true false true before n le = omega arith
carried-few true false false before n le = omega arith

zero-or : (t : Bool) (carried n : ℕ) → carried ≤ n → (if t then 0 else carried) ≤ n
zero-or true carried n le = omega arith
zero-or false carried n le = le

-- what one node adds
pub record IsNextNumber (counts from : ℕ → Bool) (rs : List Record) (now : List ℕ) (after place : ℕ) : Type 0 where
  pub numbers : now ≡ map (any_number counts from rs) (range_with_len 0 (place + 1))
  pub carried : after ≡ running counts from rs (root_of rs ((place + 1) - 1)) (place + 1)
  pub few : after ≤ place + 1

pub next_number : (counts from : ℕ → Bool) (rs : List Record) (was now : List ℕ) (place node carried before number after : ℕ) (m : Bool)
    → node ≡ place → was ≡ map (any_number counts from rs) (range_with_len 0 place)
    → carried ≡ running counts from rs (root_of rs (place - 1)) place → carried ≤ place
    → before ≡ (if is_root_kind (at rs node).kind then 0 else carried) → m ≡ counts node → number ≡ counted_on m before
    → now ≡ was ++ number ∷ [] → after ≡ carried_on (has_level (at rs node)) (from node) (counts node) before
    → IsNextNumber counts from rs now after place
next_number counts from rs was now place node carried before number after m same so_far ran few b c d pushed e =
    let before-at : before ≡ (if is_root_kind (at rs place).kind then 0 else carried) =
    b ∙ ap (λ k. if is_root_kind (at rs k).kind then 0 else carried) same in
    let after-at : after ≡ carried_on (has_level (at rs place)) (from place) (counts place) before =
    e ∙ ap (λ k. carried_on (has_level (at rs k)) (from k) (counts k) before) same in
    let run : before ≡ running counts from rs (root_of rs place) place = before-at ∙ before-is counts from rs place carried ran in
    let few-before : before ≤ place =
    subst (λ k. k ≤ place) (sym before-at) (zero-or (is_root_kind (at rs place).kind) carried place few) in
    record {
      numbers =
          numbers-more (any_number counts from rs) was now place number pushed so_far
          (d ∙ ap (λ t. counted_on t before) (c ∙ ap counts same) ∙ number-is counts from rs place before run);
      carried = after-at ∙ carried-is counts from rs place before run;
      few =
          subst (λ k. k ≤ place + 1) (sym after-at)
          (carried-few (has_level (at rs place)) (from place) (counts place) before place few-before);
    }
