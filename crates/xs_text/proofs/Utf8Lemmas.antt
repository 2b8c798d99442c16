-- A text is UTF-8 escaped and read back too, since the bytes of the four pairs are ASCII.
use Rattle.std.proofs.Common.{◌≡◌, ◌≢◌, ℕ, zero, suc, ◌+◌, ◌<◌, ◌≤◌, List, [], ◌∷◌, ◌++◌, Option, Some, None, Bool, true, false, cond, Result, Ok, Err, is_ok, is_err, OnOk, OnErr, ◌&&◌, inl, inr, length, take, get_or, refl, sym, ap, subst, ◌∙◌, lit<, arith}
use Rattle.std.specs.Prelude.{encode_utf8, encode_utf8_all}
use Rattle.std.specs.Char.{IsScalar}
use lib.Utf8.{scalar}
use Rattle.std.proofs.lemmas.Bool.{cases_lt}
use Rattle.std.specs.Str.{IsUtf8, all_scalars}
use Rattle.std.proofs.lemmas.Bool.Decides.{nat_tests}
use Rattle.std.proofs.lemmas.List.{take_all, append-nil}
use Rattle.std.proofs.lemmas.Str.{IsUtf8-nil, IsUtf8-append, IsUtf8-encode, encode_ascii, inside_one, char_from_byte}
use Rattle.xs_text.specs.Escapes.{letter_of, byte_of, written_by, escaped_byte, escaped, unescaped, behind}
use Rattle.xs_text.proofs.EscapeLemmas.{escaped-nil, escaped-cons, escaped-append, plain_more}
use Rattle.xs_text.proofs.UnescapeLemmas.{unescaped-nil, unescaped-pair, unescaped-last, first_and_rest-parts, by_byte, IsPlain, IsPlain-nil, IsPlain-more}

both_true : (a b : Bool) → (a && b) ≡ true → (a ≡ true) × (b ≡ true)
both_true true b e = (refl, e)
both_true false b e = absurd (cc)

one_byte : (b : ℕ) → b < 128 → IsUtf8 (b ∷ [])
one_byte b l =
    let scalar : IsScalar b = grind (arith, nat_tests) in
    subst IsUtf8 (encode_ascii b l) (IsUtf8-encode b scalar)

-- a byte of a character's code below 128 is the character
ascii_inside : (c k : ℕ) → k < length (encode_utf8 c) → get_or (encode_utf8 c) k 0 < 128 → c ≡ get_or (encode_utf8 c) k 0
ascii_inside c k l small = inside_one c [] (encode_utf8 c) k (sym (append-nil (encode_utf8 c))) l small

IsPlain-to : (xs : List ℕ) → ((k : ℕ) → k < length xs → get_or xs k 0 ≢ 92) → (n : ℕ) → n ≤ length xs → IsPlain (take n xs)
IsPlain-to xs each zero l = IsPlain-nil
IsPlain-to xs each (suc n) l =
    let short : n < length xs = omega arith in
    let below : n ≤ length xs = omega arith in
    let e : n + 1 ≡ suc n = omega arith in
    subst (λ (m : ℕ). IsPlain (take m xs)) e (IsPlain-more xs n 0 short (each n short) (IsPlain-to xs each n below))

IsPlain-encode : (c : ℕ) → c ≢ 92 → IsPlain (encode_utf8 c)
IsPlain-encode c n =
    let each : (k : ℕ) → k < length (encode_utf8 c) → get_or (encode_utf8 c) k 0 ≢ 92 =
    λ k l is. let small : get_or (encode_utf8 c) k 0 < 128 = omega arith in n (ascii_inside c k l small ∙ is) in
    let whole : length (encode_utf8 c) ≤ length (encode_utf8 c) = omega arith in
    subst IsPlain (take_all (length (encode_utf8 c)) (encode_utf8 c) whole) (IsPlain-to (encode_utf8 c) each (length (encode_utf8 c)) whole)

behind-parts : (front : List ℕ) (o : Option (List ℕ)) (read : List ℕ) → behind front o ≡ Some read → (more : List ℕ) × (o ≡ Some more) × (front ++ more ≡ read)
behind-parts front None read e = absurd (cc)
behind-parts front (Some more) read e = (more, refl, cc)

byte_of-ascii : (l b : ℕ) → byte_of l ≡ Some b → (l < 128) × (b < 128)
byte_of-ascii l b e = (grind (arith, nat_tests), grind (arith, nat_tests))

-- the letter after a backslash, where it and the backslash are a pair
letter_cut : (xs rest read : List ℕ) (c : ℕ) → xs ≡ encode_utf8 c ++ rest → unescaped (92 ∷ xs) ≡ Some read → (b : ℕ) × (more : List ℕ) × (b < 128)
    × (unescaped rest ≡ Some more) × (b ∷ more ≡ read)
letter_cut [] rest read c cut e = let said : None ≡ Some read = sym unescaped-last ∙ e in absurd (cc)
letter_cut (l ∷ xs) rest read c cut e =
    let p = first_and_rest-parts (byte_of l) (unescaped xs) read (sym (unescaped-pair l xs) ∙ e) in
    let ascii = byte_of-ascii l p.0 p.2 in
    let some : 0 < length (l ∷ xs) = omega arith in
    let is : c ≡ l = char_from_byte (l ∷ xs) rest c cut ascii.0 some in
    let small : c < 128 = omega (arith, ascii.0) in
    let same : l ∷ xs ≡ c ∷ rest = cut ∙ ap (λ t. t ++ rest) (encode_ascii c small) in
    let tail : xs ≡ rest = cc in
    (p.0, p.1, ascii.1, ap unescaped (sym tail) ∙ p.3, p.4)

IsUtf8-behind_char : (c : ℕ) (rest read : List ℕ) → IsScalar c → c ≢ 92 → ((r : List ℕ) → unescaped rest ≡ Some r → IsUtf8 r)
    → unescaped (encode_utf8 c ++ rest) ≡ Some read → IsUtf8 read
IsUtf8-behind_char c rest read s n ih e =
    let p = behind-parts (encode_utf8 c) (unescaped rest) read (sym (IsPlain-encode c n rest) ∙ e) in
    subst IsUtf8 p.2 (IsUtf8-append (encode_utf8 c) p.0 (IsUtf8-encode c s) (ih p.0 p.1))

IsUtf8-behind_pair : (d : ℕ) (rest read : List ℕ) → ((r : List ℕ) → unescaped rest ≡ Some r → IsUtf8 r) → unescaped (92 ∷ (encode_utf8 d ++ rest)) ≡ Some read
    → IsUtf8 read
IsUtf8-behind_pair d rest read ih e =
    let p = letter_cut (encode_utf8 d ++ rest) rest read d refl e in
    subst IsUtf8 p.4 (IsUtf8-append (p.0 ∷ []) p.1 (one_byte p.0 p.2) (ih p.1 p.3))

backslash : (c : ℕ) → c ≡ 92 → encode_utf8 c ≡ 92 ∷ []
backslash c is = ap encode_utf8 is ∙ encode_ascii 92 (lit< tt)

IsUtf8-read : (cs read : List ℕ) → all_scalars cs ≡ true → unescaped (encode_utf8_all cs) ≡ Some read → IsUtf8 read
IsUtf8-read [] read s e =
    let said : Some [] ≡ Some read = sym unescaped-nil ∙ e in
    let same : [] ≡ read = cc in
    subst IsUtf8 same IsUtf8-nil
IsUtf8-read (c ∷ []) read s e =
    elim (by_byte c) [
      | inl is ↦ let said : None ≡ Some read = sym (ap (λ v. unescaped (v ++ [])) (backslash c is) ∙ unescaped-last) ∙ e in absurd (cc)
      | inr n ↦ IsUtf8-behind_char c [] read (both_true (scalar c) true s).0 n (λ r h. IsUtf8-read [] r refl h) e
    ]
IsUtf8-read (c ∷ d ∷ cs) read s e =
    let p = both_true (scalar c) (all_scalars (d ∷ cs)) s in
    let q = both_true (scalar d) (all_scalars cs) p.1 in
    elim (by_byte c) [
      | inl is ↦ IsUtf8-behind_pair d (encode_utf8_all cs) read (λ r h. IsUtf8-read cs r q.1 h)
          (sym (ap (λ v. unescaped (v ++ (encode_utf8 d ++ encode_utf8_all cs))) (backslash c is)) ∙ e)
      | inr n ↦ IsUtf8-behind_char c (encode_utf8_all (d ∷ cs)) read p.0 n (λ r h. IsUtf8-read (d ∷ cs) r p.1 h) e
    ]

-- what a UTF-8 text represents is UTF-8
pub IsUtf8-unescaped : (written read : List ℕ) → IsUtf8 written → unescaped written ≡ Some read → IsUtf8 read
IsUtf8-unescaped written read u e = IsUtf8-read u.0 read u.1.0 (ap unescaped u.1.1 ∙ e)

letter_of-past_ascii : (b : ℕ) → 128 ≤ b → letter_of b ≡ None
letter_of-past_ascii b h = grind (arith, nat_tests)

letter_of-ascii : (b l : ℕ) → letter_of b ≡ Some l → l < 128
letter_of-ascii b l e = grind (arith, nat_tests)

escaped-plain_to : (xs : List ℕ) → ((k : ℕ) → k < length xs → letter_of (get_or xs k 0) ≡ None) → (n : ℕ) → n ≤ length xs → escaped (take n xs) ≡ take n xs
escaped-plain_to xs each zero l = escaped-nil
escaped-plain_to xs each (suc n) l =
    let short : n < length xs = omega arith in
    let below : n ≤ length xs = omega arith in
    let e : n + 1 ≡ suc n = omega arith in
    subst (λ (m : ℕ). escaped (take m xs) ≡ take m xs) e (plain_more xs n 0 short (each n short) (escaped-plain_to xs each n below))

IsUtf8-written_by : (o : Option ℕ) (b : ℕ) → letter_of b ≡ o → b < 128 → IsUtf8 (written_by o b)
IsUtf8-written_by None b e h = one_byte b h
IsUtf8-written_by (Some l) b e h = IsUtf8-append (92 ∷ []) (l ∷ []) (one_byte 92 (lit< tt)) (one_byte l (letter_of-ascii b l e))

IsUtf8-escaped_char : (c : ℕ) → IsScalar c → IsUtf8 (escaped (encode_utf8 c))
IsUtf8-escaped_char c s = elim (cases_lt c 128) [ inl h ↦ small h | inr h ↦ large h ]
  where
    small : c < 128 → IsUtf8 (escaped (encode_utf8 c))
    small h = subst IsUtf8 (sym (ap escaped (encode_ascii c h) ∙ escaped-cons c [] ∙ ap (λ w. escaped_byte c ++ w) escaped-nil
        ∙ append-nil (escaped_byte c))) (IsUtf8-written_by (letter_of c) c refl h)

    large : 128 ≤ c → IsUtf8 (escaped (encode_utf8 c))
    large h =
        let code = encode_utf8 c in
        let each : (k : ℕ) → k < length code → letter_of (get_or code k 0) ≡ None =
        λ k l. elim (cases_lt (get_or code k 0) 128) [
          | inl low ↦ let is : c ≡ get_or code k 0 = ascii_inside c k l low in absurd (omega arith)
          | inr high ↦ letter_of-past_ascii (get_or code k 0) high
        ] in
        let whole : length code ≤ length code = omega arith in
        let all : take (length code) code ≡ code = take_all (length code) code whole in
        subst IsUtf8 (sym (ap escaped (sym all) ∙ escaped-plain_to code each (length code) whole ∙ all)) (IsUtf8-encode c s)

IsUtf8-written : (cs : List ℕ) → all_scalars cs ≡ true → IsUtf8 (escaped (encode_utf8_all cs))
IsUtf8-written [] s = subst IsUtf8 (sym escaped-nil) IsUtf8-nil
IsUtf8-written (c ∷ cs) s =
    let p = both_true (scalar c) (all_scalars cs) s in
    subst IsUtf8 (sym (escaped-append (encode_utf8 c) (encode_utf8_all cs)))
    (IsUtf8-append (escaped (encode_utf8 c)) (escaped (encode_utf8_all cs)) (IsUtf8-escaped_char c p.0) (IsUtf8-written cs p.1))

-- a UTF-8 text is written in UTF-8
pub IsUtf8-escaped : (text : List ℕ) → IsUtf8 text → IsUtf8 (escaped text)
IsUtf8-escaped text u = subst (λ (t : List ℕ). IsUtf8 (escaped t)) u.1.1 (IsUtf8-written u.0 u.1.0)

-- an append that ended well leaves text where there was text
pub IsUtf8-append_escaped : {T E : Type 0} (r : Result T E) (was now text : List ℕ) → is_err r ≡ false → OnOk r (now ≡ was ++ escaped text) → IsUtf8 text
    → IsUtf8 was → IsUtf8 now
IsUtf8-append_escaped (Ok x) was now text e h u v = subst IsUtf8 (sym h) (IsUtf8-append was (escaped text) v (IsUtf8-escaped text u))
IsUtf8-append_escaped (Err x) was now text e h u v = absurd (cc)

pub IsUtf8-append_unescaped : {T E : Type 0} (r : Result T E) (was now written : List ℕ) → is_ok r ≡ true → OnOk r (behind was (unescaped written) ≡ Some now)
    → IsUtf8 written → IsUtf8 was → IsUtf8 now
IsUtf8-append_unescaped (Ok x) was now written e h u v =
    let p = behind-parts was (unescaped written) now h in
    subst IsUtf8 p.2 (IsUtf8-append was p.0 v (IsUtf8-unescaped written p.0 u p.1))
IsUtf8-append_unescaped (Err x) was now written e h u v = absurd (cc)

-- what a call that appends to a buffer, or leaves it as it was, makes of a buffer of UTF-8
pub IsUtf8-appended : {T E : Type 0} (r : Result T E) (was now more : List ℕ) → OnOk r (now ≡ was ++ more) → OnErr r (now ≡ was)
    → IsUtf8 more → IsUtf8 was → IsUtf8 now
IsUtf8-appended (Ok x) was now more ok err u v = subst IsUtf8 (sym ok) (IsUtf8-append was more v u)
IsUtf8-appended (Err x) was now more ok err u v = subst IsUtf8 (sym err) v

-- the same in the words of `extend_from_slice`
pub IsUtf8-extended : {T E : Type 0} (r : Result T E) (was now more : List ℕ) → now ≡ cond (is_ok r) (was ++ more) was → IsUtf8 more → IsUtf8 was
    → IsUtf8 now
IsUtf8-extended (Ok x) was now more e u v = subst IsUtf8 (sym e) (IsUtf8-append was more v u)
IsUtf8-extended (Err x) was now more e u v = subst IsUtf8 (sym e) v

-- the same where it ended well
pub IsUtf8-appended_ok : {T E : Type 0} (r : Result T E) (was now more : List ℕ) → is_err r ≡ false → OnOk r (now ≡ was ++ more) → IsUtf8 more
    → IsUtf8 was → IsUtf8 now
IsUtf8-appended_ok (Ok x) was now more e ok u v = subst IsUtf8 (sym ok) (IsUtf8-append was more v u)
IsUtf8-appended_ok (Err x) was now more e ok u v = absurd (cc)
