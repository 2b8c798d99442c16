-- The characters whose positions lie in a window.
use Rattle.std.proofs.Common.{◌≡◌, ℕ, ◌+◌, ◌-◌, ◌<◌, ◌≤◌, zero, suc, Bool, true, false, cond, ◌&&◌, List, [], ◌∷◌, map, length, take, drop, refl, sym, ap, ◌∙◌, arith, nat_lt, nat_le, int_le, int_lt, Option, Some, None, ℤ, pos, negsuc, ◌+ℤ◌, inl, inr}
use Rattle.std.proofs.lemmas.Bool.{cases_lt}
use Rattle.std.proofs.lemmas.Bool.Decides.{nat_tests}
use Rattle.std.proofs.lemmas.Str.{encodes-chars, length-le-encodes}
use Rattle.std.specs.Str.{chars, IsUtf8}
use Rattle.std.specs.List.{enumerate_from, filter}
use Rattle.xs_strings.specs.Positions.{is_kept, substring_of, places_below}
use Rattle.xs_num.specs.declared.number.Number.{Number}
use Rattle.xs_num.specs.declared.number.Number.TheVariants.{Whole, NaN}

drop-nil : (n : ℕ) → drop {A = ℕ} n [] ≡ []
drop-nil zero = refl
drop-nil (suc n) = refl

take-nil : (n : ℕ) → take {A = ℕ} n [] ≡ []
take-nil zero = refl
take-nil (suc n) = refl

drop-past : (k : ℕ) (c : ℕ) (cs : List ℕ) → 0 < k → drop k (c ∷ cs) ≡ drop (k - 1) cs
drop-past k c cs some = ap (λ n. drop n (c ∷ cs)) (let e : k ≡ suc (k - 1) = omega arith in e)

take-past : (k : ℕ) (c : ℕ) (cs : List ℕ) → 0 < k → take k (c ∷ cs) ≡ c ∷ take (k - 1) cs
take-past k c cs some = ap (λ n. take n (c ∷ cs)) (let e : k ≡ suc (k - 1) = omega arith in e)

past_end : (b : Bool) (s m e : ℕ) → b ≡ nat_lt s m && nat_le m e → e < m → b ≡ false
past_end b s m e is h = grind (arith, nat_tests)

before_start : (b : Bool) (s m e : ℕ) → b ≡ nat_lt s m && nat_le m e → m ≤ s → b ≡ false
before_start b s m e is h = grind (arith, nat_tests)

inside : (b : Bool) (s m e : ℕ) → b ≡ nat_lt s m && nat_le m e → s < m → m ≤ e → b ≡ true
inside b s m e is h k = grind (arith, nat_tests)

-- the characters whose positions, from n + 1 on, pass a test
pub passing : (ℕ → Bool) → ℕ → List ℕ → List ℕ
passing test n cs = map (λ (e : ℕ × ℕ). e.1) (filter (λ (e : ℕ × ℕ). test e.0) (enumerate_from (n + 1) cs))

passing-no : (test : ℕ → Bool) (n c : ℕ) (cs : List ℕ) → test (n + 1) ≡ false → passing test n (c ∷ cs) ≡ passing test (n + 1) cs
unfolding passing
passing-no test n c cs fails =
    let more : List (ℕ × ℕ) = filter (λ (e : ℕ × ℕ). test e.0) (enumerate_from (n + 1 + 1) cs) in
    ap (λ b. map (λ (e : ℕ × ℕ). e.1) (cond b ((n + 1, c) ∷ more) more)) fails

passing-yes : (test : ℕ → Bool) (n c : ℕ) (cs : List ℕ) → test (n + 1) ≡ true → passing test n (c ∷ cs) ≡ c ∷ passing test (n + 1) cs
unfolding passing
passing-yes test n c cs passes =
    let more : List (ℕ × ℕ) = filter (λ (e : ℕ × ℕ). test e.0) (enumerate_from (n + 1 + 1) cs) in
    ap (λ b. map (λ (e : ℕ × ℕ). e.1) (cond b ((n + 1, c) ∷ more) more)) passes

-- the window of a list, and of the list without its first element
pub window_of : ℕ → ℕ → ℕ → List ℕ → List ℕ
window_of start end n cs = drop (start - n) (take (end - n) cs)

window-ended : (start end n : ℕ) (cs : List ℕ) → end ≤ n → window_of start end n cs ≡ []
unfolding window_of
window-ended start end n cs h = ap (λ k. drop (start - n) (take k cs)) (let e : end - n ≡ 0 = omega arith in e) ∙ drop-nil (start - n)

window-before : (start end n c : ℕ) (cs : List ℕ) → n < end → n < start → window_of start end n (c ∷ cs) ≡ window_of start end (n + 1) cs
unfolding window_of
window-before start end n c cs h k =
    let upto : take (end - n) (c ∷ cs) ≡ c ∷ take (end - n - 1) cs = take-past (end - n) c cs (omega arith) in
    let from : drop (start - n) (c ∷ take (end - n - 1) cs) ≡ drop (start - n - 1) (take (end - n - 1) cs) =
    drop-past (start - n) c (take (end - n - 1) cs) (omega arith) in
    let ends : end - n - 1 ≡ end - (n + 1) = omega arith in
    let starts : start - n - 1 ≡ start - (n + 1) = omega arith in
    ap (drop (start - n)) upto ∙ from ∙ ap (λ m. drop m (take (end - n - 1) cs)) starts ∙ ap (λ m. drop (start - (n + 1)) (take m cs)) ends

window-inside : (start end n c : ℕ) (cs : List ℕ) → n < end → start ≤ n → window_of start end n (c ∷ cs) ≡ c ∷ window_of start end (n + 1) cs
unfolding window_of
window-inside start end n c cs h k =
    let upto : take (end - n) (c ∷ cs) ≡ c ∷ take (end - n - 1) cs = take-past (end - n) c cs (omega arith) in
    let ends : end - n - 1 ≡ end - (n + 1) = omega arith in
    let now : start - n ≡ 0 = omega arith in
    let next : start - (n + 1) ≡ 0 = omega arith in
    ap (λ m. drop m (take (end - n) (c ∷ cs))) now ∙ upto ∙ ap (λ m. c ∷ take m cs) ends ∙ ap (λ m. c ∷ drop m (take (end - (n + 1)) cs)) (sym next)

one_more : (test : ℕ → Bool) (start end n c : ℕ) (cs : List ℕ) → test (n + 1) ≡ nat_lt start (n + 1) && nat_le (n + 1) end
    → passing test (n + 1) cs ≡ window_of start end (n + 1) cs → passing test n (c ∷ cs) ≡ window_of start end n (c ∷ cs)
one_more test start end n c cs here below =
    elim (cases_lt n end) [
      | inr ended ↦ passing-no test n c cs (past_end _ start (n + 1) end here (omega arith)) ∙ below ∙ window-ended start end (n + 1) cs (omega arith)
          ∙ sym (window-ended start end n (c ∷ cs) ended)
      | inl open_ ↦ elim (cases_lt n start) [
        | inl before ↦ passing-no test n c cs (before_start _ start (n + 1) end here (omega arith)) ∙ below ∙ sym (window-before start end n c cs open_ before)
        | inr begun ↦ passing-yes test n c cs (inside _ start (n + 1) end here (omega arith) (omega arith)) ∙ ap (λ xs. c ∷ xs) below
            ∙ sym (window-inside start end n c cs open_ begun)
      ]
    ]

-- those that pass a test which holds just above a place and up to another one
pub window : (test : ℕ → Bool) (start end n : ℕ) (cs : List ℕ) → ((p : ℕ) → n < p → p ≤ n + length cs → test p ≡ nat_lt start p && nat_le p end)
    → passing test n cs ≡ window_of start end n cs
unfolding passing window_of
window test start end n [] h = sym (ap (drop (start - n)) (take-nil (end - n)) ∙ drop-nil (start - n))
window test start end n (c ∷ cs) h =
    one_more test start end n c cs (h (n + 1) (omega arith) (omega arith)) (window test start end (n + 1) cs (λ p lt le. h p (omega arith) (omega arith)))

kept_low : (a : ℤ) (p : ℕ) → 0 < p → int_le a (pos p) ≡ nat_lt (places_below a) p
kept_low (pos n) p some = grind (arith, nat_tests)
kept_low (negsuc n) p some = grind (arith, nat_tests)

kept_high : (z : ℤ) (p : ℕ) → 0 < p → int_lt (pos p) z ≡ nat_le p (places_below z)
kept_high (pos n) p some = grind (arith, nat_tests)
kept_high (negsuc n) p some = grind (arith, nat_tests)

ap2and : {a b c d : Bool} → a ≡ c → b ≡ d → a && b ≡ c && d
ap2and {a} {b} {c} {d} p q = ap (λ x. x && b) p ∙ ap (λ x. c && x) q

within_end : (p end : ℕ) (b : Bool) → p ≤ end → b ≡ b && nat_le p end
within_end p end b h = grind (arith, nat_tests)

pub kept_from : (a : ℤ) (p end : ℕ) → 0 < p → p ≤ end → is_kept (Whole a) None p ≡ nat_lt (places_below a) p && nat_le p end
kept_from a p end some le = kept_low a p some ∙ within_end p end (nat_lt (places_below a) p) le

pub kept_between : (a b : ℤ) (p : ℕ) → 0 < p → is_kept (Whole a) (Some (Whole b)) p ≡ nat_lt (places_below a) p && nat_le p (places_below (a +ℤ b))
kept_between a b p some = ap2and (kept_low a p some) (kept_high (a +ℤ b) p some)

window_of-zero : (start end : ℕ) (cs : List ℕ) → drop start (take end cs) ≡ window_of start end 0 cs
unfolding window_of
window_of-zero start end cs =
    let starts : start ≡ start - 0 = omega arith in
    let ends : end ≡ end - 0 = omega arith in
    ap (λ k. drop k (take end cs)) starts ∙ ap (λ k. drop (start - 0) (take k cs)) ends

passing-substring : (first : Number) (count : Option Number) (cs : List ℕ) → passing (is_kept first count) 0 cs ≡ substring_of cs first count
unfolding passing
passing-substring first count cs = refl

pub substring-from : (a : ℤ) (most : ℕ) (cs : List ℕ) → length cs ≤ most → drop (places_below a) (take most cs) ≡ substring_of cs (Whole a) None
substring-from a most cs short =
    window_of-zero (places_below a) most cs
    ∙ sym (window (is_kept (Whole a) None) (places_below a) most 0 cs (λ p some le. kept_from a p most some (omega arith)))
    ∙ passing-substring (Whole a) None cs

pub substring-between : (a b : ℤ) (cs : List ℕ) → drop (places_below a) (take (places_below (a +ℤ b)) cs) ≡ substring_of cs (Whole a) (Some (Whole b))
substring-between a b cs =
    window_of-zero (places_below a) (places_below (a +ℤ b)) cs
    ∙ sym (window (is_kept (Whole a) (Some (Whole b))) (places_below a) (places_below (a +ℤ b)) 0 cs (λ p some le. kept_between a b p some))
    ∙ passing-substring (Whole a) (Some (Whole b)) cs

-- a text has no more characters than bytes
pub length-chars-le : (s : List ℕ) → IsUtf8 s → length (chars s) ≤ length s
length-chars-le s u = omega (arith, length-le-encodes (chars s), ap length (encodes-chars s u))

-- with NaN there are none
none_kept : (n : ℕ) (cs : List ℕ) → map (λ (e : ℕ × ℕ). e.1) (filter (λ (e : ℕ × ℕ). false) (enumerate_from n cs)) ≡ []
none_kept n [] = refl
none_kept n (c ∷ cs) = none_kept (n + 1) cs

pub substring-nan_first : (count : Option Number) (cs : List ℕ) → substring_of cs NaN count ≡ []
substring-nan_first count cs = none_kept 1 cs

pub substring-nan_count : (a : ℤ) (cs : List ℕ) → substring_of cs (Whole a) (Some NaN) ≡ []
substring-nan_count a cs = none_kept 1 cs
