-- The elements that mention modules, found place by place.
use Rattle.std.proofs.Common.{◌≡◌, ◌∙◌, ℕ, zero, suc, ◌+◌, ◌<◌, Bool, List, [], ◌∷◌, ◌++◌, filter, length, get_or, sym, ap, subst, arith, All}
use Rattle.std.proofs.lemmas.List.Elements.{All-filter, All-from_get_or, filter-append}
use Rattle.std.proofs.lemmas.List.FromFn.{get_or-range_with_len, length-range_with_len}
use Rattle.std.specs.List.{range_with_len}
use Rattle.xs_tree.specs.Record.{Record, places}
use Rattle.xs_modules.specs.Mentions.{elements, is_mention}

more_places : (a n : ℕ) → range_with_len a (suc n) ≡ range_with_len a n ++ (a + n) ∷ []
more_places a zero = let e : a ≡ a + 0 = omega arith in ap (λ k. k ∷ []) e
more_places a (suc n) =
    ap (λ ks. a ∷ ks) (more_places (a + 1) n ∙ ap (λ k. range_with_len (a + 1) n ++ k ∷ []) (next a n))
  where
    next : (a n : ℕ) → a + 1 + n ≡ a + suc n
    next a n = omega arith

-- one place more
pub more_passing : (test : ℕ → Bool) (n : ℕ) (found found' : List ℕ) → found ≡ filter test (range_with_len 0 n) → found' ≡ found ++ filter test (n ∷ [])
    → found' ≡ filter test (range_with_len 0 (n + 1))
more_passing test n found found' e f =
    f ∙ ap (λ ks. ks ++ filter test (n ∷ [])) e ∙ sym (filter-append test (range_with_len 0 n) (n ∷ []))
    ∙ ap (filter test) (sym (ap (λ k. range_with_len 0 k) (next n) ∙ more_places 0 n ∙ ap (λ k. range_with_len 0 n ++ k ∷ []) (here n)))
  where
    next : (n : ℕ) → n + 1 ≡ suc n
    next n = omega arith

    here : (n : ℕ) → 0 + n ≡ n
    here n = omega arith

-- all of them are in the tree
pub elements_inside : (rs : List Record) → All (λ n. n < length rs) (elements rs)
elements_inside rs = All-filter (is_mention rs) (λ n. n < length rs) (places rs)
    (All-from_get_or (λ n. n < length rs) (places rs) 0 (λ i l. inside i (length rs) (subst (λ n. i < n) (length-range_with_len 0 (length rs)) l)))
  where
    inside : (i n : ℕ) → i < n → get_or (range_with_len 0 n) i 0 < n
    inside i n l = omega (arith, get_or-range_with_len 0 n i 0 l)

pub found_inside : (rs : List Record) (found : List ℕ) → found ≡ elements rs → All (λ n. n < length rs) found
found_inside rs found e = subst (λ ns. All (λ n. n < length rs) ns) (sym e) (elements_inside rs)
