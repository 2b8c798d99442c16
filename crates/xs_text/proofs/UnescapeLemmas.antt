-- How a written text is read part by part, and that an escaped text is read back.
use Rattle.std.proofs.Common.{◌≡◌, ◌≢◌, ℕ, ◌+◌, ◌<◌, ◌≤◌, List, [], ◌∷◌, ◌++◌, Option, Some, None, IsSomeAnd, false, cond, eqb, length, take, drop, get_or, refl, sym, ap, subst, ◌∙◌, append_assoc, arith, ◌⊎◌, ◌↔◌, inl, inr}
use Rattle.std.proofs.lemmas.List.{take_more, drop_more, take-append-drop, take_all, drop_all, append-nil}
use Rattle.std.proofs.lemmas.Bool.Decides.{nat_tests, eqb_tells}
use Rattle.xs_text.specs.Escapes.{letter_of, byte_of, written_by, escaped, first_and_rest, unescaped, behind, Represents, nothing, itself, pair}
use Rattle.xs_text.proofs.EscapeLemmas.{escaped-nil, escaped-cons}

pub unescaped-nil : unescaped [] ≡ Some []
unfolding unescaped
unescaped-nil = refl

pub unescaped-pair : (l : ℕ) (rest : List ℕ) → unescaped (92 ∷ l ∷ rest) ≡ first_and_rest (byte_of l) (unescaped rest)
unfolding unescaped
unescaped-pair l rest = refl

pub unescaped-last : unescaped (92 ∷ []) ≡ None
unfolding unescaped
unescaped-last = refl

not_backslash : (b : ℕ) → b ≢ 92 → eqb b 92 ≡ false
not_backslash b n = grind (arith, nat_tests)

pub unescaped-plain : (b : ℕ) (rest : List ℕ) → b ≢ 92 → unescaped (b ∷ rest) ≡ first_and_rest (Some b) (unescaped rest)
unfolding unescaped
unescaped-plain b [] n = ap (λ t. cond t None (Some (b ∷ []))) (not_backslash b n)
unescaped-plain b (l ∷ rest) n = ap (λ t. cond t (first_and_rest (byte_of l) (unescaped rest)) (first_and_rest (Some b) (unescaped (l ∷ rest))))
    (not_backslash b n)

letter_of-byte : (b l : ℕ) → letter_of b ≡ Some l → byte_of l ≡ Some b
letter_of-byte b l e = grind (arith, nat_tests)

plain_is_no_backslash : (b : ℕ) → letter_of b ≡ None → b ≢ 92
plain_is_no_backslash b e is = grind (arith, nat_tests)

unescaped-written : (o : Option ℕ) (b : ℕ) (w text : List ℕ) → letter_of b ≡ o → unescaped w ≡ Some text → unescaped (written_by o b ++ w) ≡ Some (b ∷ text)
unescaped-written None b w text e h = unescaped-plain b w (plain_is_no_backslash b e) ∙ ap (λ o. first_and_rest (Some b) o) h
unescaped-written (Some l) b w text e h = unescaped-pair l w ∙ ap (λ o. first_and_rest o (unescaped w)) (letter_of-byte b l e)
    ∙ ap (λ o. first_and_rest (Some b) o) h

-- what `escaped` writes is read back
pub unescaped-escaped : (text : List ℕ) → unescaped (escaped text) ≡ Some text
unescaped-escaped [] = ap unescaped escaped-nil ∙ unescaped-nil
unescaped-escaped (b ∷ text) = ap unescaped (escaped-cons b text) ∙ unescaped-written (letter_of b) b (escaped text) text refl (unescaped-escaped text)

-- the rules say what the function says
pub unescaped-Represents : (w text : List ℕ) → Represents w text → unescaped w ≡ Some text
unescaped-Represents _ _ nothing = unescaped-nil
unescaped-Represents _ _ (itself b w text n h) = unescaped-plain b w n ∙ ap (λ o. first_and_rest (Some b) o) (unescaped-Represents w text h)
unescaped-Represents _ _ (pair l b w text e h) = unescaped-pair l w ∙ ap (λ o. first_and_rest o (unescaped w)) e
    ∙ ap (λ o. first_and_rest (Some b) o) (unescaped-Represents w text h)

-- the parts of what was read
pub first_and_rest-parts : (o : Option ℕ) (p : Option (List ℕ)) (text : List ℕ) → first_and_rest o p ≡ Some text → (b : ℕ) × (more : List ℕ) × (o ≡ Some b)
    × (p ≡ Some more) × (b ∷ more ≡ text)
first_and_rest-parts None p text e = absurd (cc)
first_and_rest-parts (Some b) None text e = absurd (cc)
first_and_rest-parts (Some b) (Some more) text e = (b, more, refl, refl, cc)

Represents-itself : (b : ℕ) (w text : List ℕ) → b ≢ 92 → ((t : List ℕ) → unescaped w ≡ Some t → Represents w t) → unescaped (b ∷ w) ≡ Some text
    → Represents (b ∷ w) text
Represents-itself b w text n rest e =
    let p = first_and_rest-parts (Some b) (unescaped w) text (sym (unescaped-plain b w n) ∙ e) in
    let same : b ∷ p.1 ≡ text = let first : b ≡ p.0 = cc in ap (λ x. x ∷ p.1) first ∙ p.4 in
    subst (λ (t : List ℕ). Represents (b ∷ w) t) same (itself b w p.1 n (rest p.1 p.3))

Represents-pair : (l : ℕ) (w text : List ℕ) → ((t : List ℕ) → unescaped w ≡ Some t → Represents w t) → unescaped (92 ∷ l ∷ w) ≡ Some text
    → Represents (92 ∷ l ∷ w) text
Represents-pair l w text rest e =
    let p = first_and_rest-parts (byte_of l) (unescaped w) text (sym (unescaped-pair l w) ∙ e) in
    subst (λ (t : List ℕ). Represents (92 ∷ l ∷ w) t) p.4 (pair l p.0 w p.1 p.2 (rest p.1 p.3))

pub by_byte : (b : ℕ) → (b ≡ 92) ⊎ (b ≢ 92)
by_byte b = elim (eqb_tells b 92) [ inl h ↦ inl h.1 | inr h ↦ inr h.1 ]

pub Represents-unescaped : (w text : List ℕ) → unescaped w ≡ Some text → Represents w text
Represents-unescaped [] text e =
    let same : [] ≡ text = let said : Some [] ≡ Some text = sym unescaped-nil ∙ e in cc in
    subst (λ (t : List ℕ). Represents [] t) same nothing
Represents-unescaped (b ∷ []) text e =
    elim (by_byte b) [
      | inl is ↦ let said : None ≡ Some text = sym (ap (λ x. unescaped (x ∷ [])) is ∙ unescaped-last) ∙ e in absurd (cc)
      | inr n ↦ Represents-itself b [] text n (λ t h. Represents-unescaped [] t h) e
    ]
Represents-unescaped (b ∷ l ∷ w) text e =
    elim (by_byte b) [
      | inl is ↦ subst (λ (x : ℕ). Represents (x ∷ l ∷ w) text) (sym is)
          (Represents-pair l w text (λ t h. Represents-unescaped w t h) (sym (ap (λ x. unescaped (x ∷ l ∷ w)) is) ∙ e))
      | inr n ↦ Represents-itself b (l ∷ w) text n (λ t h. Represents-unescaped (l ∷ w) t h) e
    ]

pub unescaped_by_rules : (w text : List ℕ) → (unescaped w ≡ Some text) ↔ Represents w text
unescaped_by_rules w text = (Represents-unescaped w text, unescaped-Represents w text)

-- a front of bytes that represent themselves
abbrev pub IsPlain : List ℕ → Type 0
IsPlain xs = (w : List ℕ) → unescaped (xs ++ w) ≡ behind xs (unescaped w)

pub behind-nil : (o : Option (List ℕ)) → behind [] o ≡ o
behind-nil None = refl
behind-nil (Some more) = refl

pub behind-behind : (xs ys : List ℕ) (o : Option (List ℕ)) → behind xs (behind ys o) ≡ behind (xs ++ ys) o
behind-behind xs ys None = refl
behind-behind xs ys (Some more) = ap (λ w. Some w) (sym (append_assoc xs ys more))

behind-one : (b : ℕ) (o : Option (List ℕ)) → first_and_rest (Some b) o ≡ behind (b ∷ []) o
behind-one b None = refl
behind-one b (Some more) = refl

pub IsPlain-nil : IsPlain []
IsPlain-nil w = sym (behind-nil (unescaped w))

-- one byte more
pub IsPlain-more : (xs : List ℕ) (i d : ℕ) → i < length xs → get_or xs i d ≢ 92 → IsPlain (take i xs) → IsPlain (take (i + 1) xs)
IsPlain-more xs i d l n h w =
    let b = get_or xs i d in
    let front = take i xs in
    let cut = take_more xs i d l in
    ap (λ v. unescaped (v ++ w)) cut ∙ ap unescaped (append_assoc front (b ∷ []) w) ∙ h (b ∷ w)
    ∙ ap (behind front) (unescaped-plain b w n ∙ behind-one b (unescaped w))
    ∙ behind-behind front (b ∷ []) (unescaped w) ∙ ap (λ v. behind v (unescaped w)) (sym cut)

pub unescaped-IsPlain : (xs : List ℕ) (n : ℕ) → length xs ≤ n → IsPlain (take n xs) → unescaped xs ≡ Some xs
unescaped-IsPlain xs n l h =
    let whole = take_all n xs l in
    ap unescaped (sym (append-nil xs) ∙ ap (λ v. v ++ []) (sym whole)) ∙ h [] ∙ ap (behind (take n xs)) unescaped-nil
    ∙ ap (λ v. Some v) (append-nil (take n xs) ∙ whole)

-- a plain front, and then a backslash
at_backslash : (xs : List ℕ) (i d : ℕ) → i < length xs → get_or xs i d ≡ 92 → IsPlain (take i xs)
    → unescaped xs ≡ behind (take i xs) (unescaped (92 ∷ drop (i + 1) xs))
at_backslash xs i d l is h =
    ap unescaped (sym (take-append-drop i xs)) ∙ h (drop i xs)
    ∙ ap (λ v. behind (take i xs) (unescaped v)) (drop_more xs i d l ∙ ap (λ b. b ∷ drop (i + 1) xs) is)

pub unescaped-at_pair : (xs : List ℕ) (i d e b : ℕ) → i + 1 < length xs → get_or xs i d ≡ 92 → byte_of (get_or xs (i + 1) e) ≡ Some b → IsPlain (take i xs)
    → unescaped xs ≡ behind (take i xs ++ b ∷ []) (unescaped (drop (i + 2) xs))
unescaped-at_pair xs i d e b l is reads h =
    let letter = get_or xs (i + 1) e in
    let two : i + 1 + 1 ≡ i + 2 = omega arith in
    let short : i < length xs = omega arith in
    at_backslash xs i d short is h
    ∙ ap (λ v. behind (take i xs) (unescaped (92 ∷ v))) (drop_more xs (i + 1) e l)
    ∙ ap (behind (take i xs)) (unescaped-pair letter (drop (i + 1 + 1) xs) ∙ ap (λ o. first_and_rest o (unescaped (drop (i + 1 + 1) xs))) reads
    ∙ behind-one b (unescaped (drop (i + 1 + 1) xs)))
    ∙ behind-behind (take i xs) (b ∷ []) (unescaped (drop (i + 1 + 1) xs))
    ∙ ap (λ n. behind (take i xs ++ b ∷ []) (unescaped (drop n xs))) two

pub unescaped-at_other : (xs : List ℕ) (i d e : ℕ) → i + 1 < length xs → get_or xs i d ≡ 92 → byte_of (get_or xs (i + 1) e) ≡ None → IsPlain (take i xs)
    → unescaped xs ≡ None
unescaped-at_other xs i d e l is reads h =
    let letter = get_or xs (i + 1) e in
    let short : i < length xs = omega arith in
    at_backslash xs i d short is h
    ∙ ap (λ v. behind (take i xs) (unescaped (92 ∷ v))) (drop_more xs (i + 1) e l)
    ∙ ap (behind (take i xs)) (unescaped-pair letter (drop (i + 1 + 1) xs) ∙ ap (λ o. first_and_rest o (unescaped (drop (i + 1 + 1) xs))) reads)

pub unescaped-at_last : (xs : List ℕ) (i d : ℕ) → i < length xs → length xs ≤ i + 1 → get_or xs i d ≡ 92 → IsPlain (take i xs) → unescaped xs ≡ None
unescaped-at_last xs i d l last is h =
    at_backslash xs i d l is h
    ∙ ap (λ v. behind (take i xs) (unescaped (92 ∷ v))) (drop_all (i + 1) xs last)
    ∙ ap (behind (take i xs)) unescaped-last

-- what a caller of `unescape_into` learns of the data
pub unescaped-appended : (o : Option (List ℕ)) (was now : List ℕ) → IsSomeAnd o (λ read. now ≡ was ++ read) → (read : List ℕ) × (o ≡ Some read)
    × (now ≡ was ++ read)
unescaped-appended None was now h = absurd h
unescaped-appended (Some read) was now h = (read, refl, h)

-- the same where there was nothing before
pub unescaped-appended_first : (o : Option (List ℕ)) (was now : List ℕ) → was ≡ [] → IsSomeAnd o (λ read. now ≡ was ++ read) → o ≡ Some now
unescaped-appended_first None was now e h = absurd h
unescaped-appended_first (Some read) was now e h = ap (λ t. Some t) (sym (h ∙ ap (λ t. t ++ read) e))
