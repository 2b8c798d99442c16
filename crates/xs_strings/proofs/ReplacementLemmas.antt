-- Tables of what replaces characters.
use Rattle.std.proofs.Common.{◌≡◌, ℕ, suc, ◌+◌, ◌<◌, ◌==◌, nat_eq, Bool, true, false, cond, List, [], ◌∷◌, ◌++◌, length, take, get_or}
use Rattle.std.proofs.Common.{refl, sym, ap, subst, ◌∙◌, arith, Option, Some, None, OnOk, Result}
use Rattle.std.proofs.lemmas.Bool.{eqb-true}
use Rattle.std.proofs.lemmas.List.{take_more, length-take}
use Rattle.std.specs.List.{cons_option, filter_map, position, position_from}
use Rattle.std.specs.Option.{is_some}
use Rattle.std.specs.Str.{encode_utf8_all}
use Rattle.xs_strings.specs.Replacements.{first_of_both}

-- two maps that agree give the same list
filter_map-like : (f g : ℕ → Option ℕ) → ((c : ℕ) → f c ≡ g c) → (xs : List ℕ) → filter_map f xs ≡ filter_map g xs
filter_map-like f g h [] = refl
filter_map-like f g h (x ∷ xs) = ap (λ o. cons_option o (filter_map f xs)) (h x) ∙ ap (cons_option (g x)) (filter_map-like f g h xs)

pub appended-same : {T E : Type 0} (r : Result T E) (new before : List ℕ) (f g : ℕ → Option ℕ) (xs : List ℕ) → ((c : ℕ) → f c ≡ g c)
    → OnOk r (new ≡ before ++ encode_utf8_all (filter_map f xs)) → OnOk r (new ≡ before ++ encode_utf8_all (filter_map g xs))
appended-same r new before f g xs h k = subst (λ cs. OnOk r (new ≡ before ++ encode_utf8_all cs)) (filter_map-like f g h xs) k

-- the place in a list that is another one's
pub same-place : (d : ℕ) (xs ys zs : List ℕ) → xs ≡ ys → ys ≡ zs → position (λ e. e == d) xs ≡ position (λ e. e == d) zs
same-place d xs ys zs e f = ap (position (λ x. x == d)) (e ∙ f)

-- ---- a character that has a place already, and one that has none

pub place-known : (f : ℕ → Option ℕ) (k d place : ℕ) → is_some (f k) ≡ true → f d ≡ first_of_both (f d) (cond (nat_eq k d) (Some place) None)
place-known f k d place h = by_test (nat_eq k d) refl
  where
    kept : (o : Option ℕ) → is_some o ≡ true → o ≡ first_of_both o (Some place)
    kept None e = absurd (cc)
    kept (Some x) e = refl

    stays : (o : Option ℕ) → o ≡ first_of_both o None
    stays None = refl
    stays (Some x) = refl

    by_test : (b : Bool) → nat_eq k d ≡ b → f d ≡ first_of_both (f d) (cond (nat_eq k d) (Some place) None)
    by_test true e = rw e (kept (f d) (ap (λ x. is_some (f x)) (sym (eqb-true k d e)) ∙ h))
    by_test false e = rw e (stays (f d))

pub place-new : (f : ℕ → Option ℕ) (k d place : ℕ) (new : Option ℕ) → is_some (f k) ≡ false → new ≡ cond (nat_eq k d) (Some place) (f d)
    → new ≡ first_of_both (f d) (cond (nat_eq k d) (Some place) None)
place-new f k d place new h u = u ∙ by_test (nat_eq k d) refl
  where
    first : (o : Option ℕ) → is_some o ≡ false → Some place ≡ first_of_both o (Some place)
    first None e = refl
    first (Some x) e = absurd (cc)

    stays : (o : Option ℕ) → o ≡ first_of_both o None
    stays None = refl
    stays (Some x) = refl

    by_test : (b : Bool) → nat_eq k d ≡ b → cond (nat_eq k d) (Some place) (f d) ≡ first_of_both (f d) (cond (nat_eq k d) (Some place) None)
    by_test true e = rw e (first (f d) (ap (λ x. is_some (f x)) (sym (eqb-true k d e)) ∙ h))
    by_test false e = rw e (stays (f d))

-- ---- one character more

place-last : (d x i : ℕ) (xs : List ℕ)
    → position_from (λ e. e == d) i (xs ++ x ∷ []) ≡ first_of_both (position_from (λ e. e == d) i xs) (cond (x == d) (Some (i + length xs)) None)
place-last d x i [] = ap (λ n. cond (x == d) (Some n) None) (omega arith)
place-last d x i (y ∷ ys) =
    let further : (i + 1) + length ys ≡ i + suc (length ys) = omega arith in
    let more : position_from (λ e. e == d) (i + 1) (ys ++ x ∷ [])
    ≡ first_of_both (position_from (λ e. e == d) (i + 1) ys) (cond (x == d) (Some (i + suc (length ys))) None) =
    place-last d x (i + 1) ys ∙ ap (λ n. first_of_both (position_from (λ e. e == d) (i + 1) ys) (cond (x == d) (Some n) None)) further in
    elim (y == d) as (λ b. cond b (Some i) (position_from (λ e. e == d) (i + 1) (ys ++ x ∷ []))
    ≡ first_of_both (cond b (Some i) (position_from (λ e. e == d) (i + 1) ys)) (cond (x == d) (Some (i + suc (length ys))) None))
    [ true ↦ refl | false ↦ more ]

pub place-more : (xs : List ℕ) (i x d : ℕ) (old new : Option ℕ) → i < length xs → x ≡ get_or xs i x → old ≡ position_from (λ e. e == d) 0 (take i xs)
    → new ≡ first_of_both old (cond (x == d) (Some i) None) → new ≡ position_from (λ e. e == d) 0 (take (i + 1) xs)
place-more xs i x d old new l e h u =
    let long : 0 + length (take i xs) ≡ i = omega (arith, length-take i xs) in
    u
    ∙ ap (λ o. first_of_both o (cond (x == d) (Some i) None)) h
    ∙ ap (λ n. first_of_both (position_from (λ e. e == d) 0 (take i xs)) (cond (x == d) (Some n) None)) (sym long)
    ∙ sym (place-last d x 0 (take i xs))
    ∙ ap (λ y. position_from (λ e. e == d) 0 (take i xs ++ y ∷ [])) e
    ∙ ap (position_from (λ e. e == d) 0) (sym (take_more xs i x l))
