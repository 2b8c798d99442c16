-- The pieces of a value template: the rules and the function say the same.
use Rattle.std.proofs.Common.{◌≡◌, ◌≢◌, ℕ, zero, suc, ◌+◌, ◌-◌, ◌<◌, ◌≤◌, Bool, true, false, List, [], ◌∷◌, ◌++◌, Option, Some, None, option_map, length, get_or, take, drop, refl, sym, ◌∙◌, ap, subst, arith, append_assoc}
use Rattle.std.specs.Prelude.{◌==◌, not, if◌then◌else◌, option_and_then}
use Rattle.std.specs.List.{prefix_len}
use Rattle.std.proofs.lemmas.List.{length-append}
use Rattle.std.specs.Str.{IsCharBoundary}
use Rattle.std.proofs.lemmas.Str.{IsCharBoundary-before_ascii}
use Rattle.std.proofs.Math.Seq.{take-append_seam, drop-append_seam}
use Rattle.std.proofs.lemmas.Bool.Decides.{nat_tests}
use Rattle.xs_xpath.proofs.RunLemmas.{before-ascii}
use Rattle.xs_parser.specs.declared.avt.Written.{Written}
use Rattle.xs_parser.specs.declared.avt.Written.TheVariants.{Plain, Braced}
use Rattle.xs_parser.specs.declared.bytes.Class.TheVariants.{Until}
use Rattle.xs_parser.specs.Lexing.{is_quote, first}
use Rattle.xs_parser.specs.Spelling.{AllPass, past}
use Rattle.xs_parser.specs.Templates.{is_bracket, is_fixed, AllFixed, EndsFixed, Inside, nothing, other_byte, a_literal, IsPiece, fixed_text, doubled, expression, Piece, piece_of, Pieces, end, piece, open_behind, inside, fixed_at, doubled_at, braced_at, bracket_at, piece_at, cut}
use Rattle.xs_parser.proofs.TokenLemmas.{none-some, some-same, true-false, byte-is, same-byte}

one-add : (n : ℕ) → 1 + n ≡ suc n
one-add n = omega arith

not-true : (b : Bool) → not b ≡ true → b ≡ false
not-true false h = refl
not-true true h = absurd (cc)

-- ---- fixed text
fixed-all : (bytes rest : List ℕ) → AllFixed bytes → EndsFixed rest → prefix_len is_fixed (bytes ++ rest) ≡ length bytes
fixed-all [] [] h s = refl
fixed-all [] (b ∷ rest) h s = rw s refl
fixed-all (b ∷ bytes) rest h s = rw (h.0, fixed-all bytes rest h.1 s) (one-add (length bytes))

abbrev front : List ℕ → List ℕ
front bytes = take (prefix_len is_fixed bytes) bytes

abbrev back : List ℕ → List ℕ
back bytes = drop (prefix_len is_fixed bytes) bytes

record Fixes (bytes : List ℕ) : Type 0 where
  pub all : AllFixed (front bytes)
  pub stops : EndsFixed (back bytes)
  pub whole : bytes ≡ front bytes ++ back bytes

front-more : (b : ℕ) (bs : List ℕ) → is_fixed b ≡ true → front (b ∷ bs) ≡ b ∷ front bs
front-more b bs h = rw (h, one-add (prefix_len is_fixed bs)) refl

back-more : (b : ℕ) (bs : List ℕ) → is_fixed b ≡ true → back (b ∷ bs) ≡ back bs
back-more b bs h = rw (h, one-add (prefix_len is_fixed bs)) refl

front-none : (b : ℕ) (bs : List ℕ) → is_fixed b ≡ false → front (b ∷ bs) ≡ []
front-none b bs h = rw h refl

back-none : (b : ℕ) (bs : List ℕ) → is_fixed b ≡ false → back (b ∷ bs) ≡ b ∷ bs
back-none b bs h = rw h refl

fixes : (bytes : List ℕ) → Fixes bytes
fixes [] = record { all = tt; stops = tt; whole = refl }
fixes (b ∷ bs) = go (is_fixed b) refl (fixes bs)
  where
    go : (t : Bool) → is_fixed b ≡ t → Fixes bs → Fixes (b ∷ bs)
    go true e r =
        let f = front-more b bs e in
        let d = back-more b bs e in record {
          all = subst AllFixed (sym f) (e, r.all);
          stops = subst EndsFixed (sym d) r.stops;
          whole = ap (λ xs. b ∷ xs) r.whole ∙ sym (ap (λ xs. xs ++ back (b ∷ bs)) f ∙ ap (λ xs. (b ∷ front bs) ++ xs) d);
        }
    go false e r =
        let f = front-none b bs e in
        let d = back-none b bs e in record {
          all = subst AllFixed (sym f) tt;
          stops = subst EndsFixed (sym d) e;
          whole = sym (ap (λ xs. xs ++ back (b ∷ bs)) f ∙ d);
        }

-- ---- what stands between brackets
quote-open : (q : ℕ) → is_quote q ≡ true → (q == 125) ≡ false
quote-open q h = grind (arith, nat_tests)

literal-inside : (q k : ℕ) (inner more : List ℕ) → AllPass (Until q) inner → inside None more ≡ Some k
    → inside (Some q) (inner ++ q ∷ more) ≡ Some (length inner + suc k)
literal-inside q k [] more all h =
    let e : suc k ≡ 0 + suc k = omega arith in
    rw (same-byte q) (ap (option_map suc) h ∙ ap Some e)
literal-inside q k (c ∷ inner) more all h =
    let e : suc (length inner + suc k) ≡ length (c ∷ inner) + suc k = omega arith in
    rw (not-true (c == q) all.0) (ap (option_map suc) (literal-inside q k inner more all.1 h) ∙ ap Some e)

inside-all : (inner rest : List ℕ) → Inside inner → inside None (inner ++ 125 ∷ rest) ≡ Some (length inner)
inside-all _ rest nothing = refl
inside-all _ rest (other_byte b bs q e more) = rw (e, q) (ap (option_map suc) (inside-all bs rest more))
inside-all _ rest (a_literal quote inner bs q all more) =
    let l : suc (length inner + suc (length bs)) ≡ length (quote ∷ (inner ++ quote ∷ bs)) = omega (arith, length-append inner (quote ∷ bs)) in
    rw (quote-open quote q, q)
    (ap (λ x. option_map suc (inside (Some quote) x)) (append_assoc inner (quote ∷ bs) (125 ∷ rest))
    ∙ ap (option_map suc) (literal-inside quote (length bs) inner (bs ++ 125 ∷ rest) all (inside-all bs rest more)) ∙ ap Some l)

-- what stands before the end, where a literal may be open
abbrev Ended : Option ℕ → List ℕ → Type 0
Ended None inner = Inside inner
Ended (Some q) inner = (a : List ℕ) × (bs : List ℕ) × (inner ≡ a ++ q ∷ bs) × AllPass (Until q) a × Inside bs

abbrev IsOpen : Option ℕ → Type 0
IsOpen None = Unit {0}
IsOpen (Some q) = is_quote q ≡ true

record Closed (quote : Option ℕ) (bytes : List ℕ) (n : ℕ) : Type 0 where
  pub inner : List ℕ
  pub rest : List ℕ
  pub whole : bytes ≡ inner ++ 125 ∷ rest
  pub count : n ≡ length inner
  pub ended : Ended quote inner

map-some : {A B : Type 0} (f : A → B) (o : Option A) (b : B) → option_map f o ≡ Some b → (a : A) × (o ≡ Some a) × (f a ≡ b)
map-some f None b h = absurd (none-some b h)
map-some f (Some a) b h = (a, refl, some-same (f a) b h)

-- one byte more in front
more-closed : (quote next : Option ℕ) (b : ℕ) (bs : List ℕ) (n : ℕ) (c : Closed next bs n) → Ended quote (b ∷ c.inner) → Closed quote (b ∷ bs) (suc n)
more-closed quote next b bs n c e = record {
  inner = b ∷ c.inner;
  rest = c.rest;
  whole = ap (λ xs. b ∷ xs) c.whole;
  count = ap suc c.count;
  ended = e;
}

abbrev ClosesBehind : List ℕ → Type 0
ClosesBehind bs = (quote : Option ℕ) (n : ℕ) → IsOpen quote → inside quote bs ≡ Some n → Closed quote bs n

closed-plain : (b : ℕ) (bs : List ℕ) (n : ℕ) → ClosesBehind bs → inside None (b ∷ bs) ≡ Some n → Closed None (b ∷ bs) n
closed-plain b bs n behind h = go (b == 125) refl (is_quote b) refl
  where
    go : (t : Bool) → (b == 125) ≡ t → (u : Bool) → is_quote b ≡ u → Closed None (b ∷ bs) n
    go true e u q =
        let z : Some 0 ≡ Some n = sym (ap (λ (t : Bool). if t then Some 0 else option_map suc (inside (open_behind None b) bs)) e) ∙ h in
        record { inner = []; rest = bs; whole = ap (λ x. x ∷ bs) (byte-is b 125 e); count = sym (some-same 0 n z); ended = nothing }
    go false e true q =
        let m = map-some suc (inside (Some b) bs) n (sym (ap (λ (u : Bool). option_map suc (inside (if u then Some b else None) bs)) q)
        ∙ sym (ap (λ (t : Bool). if t then Some 0 else option_map suc (inside (open_behind None b) bs)) e) ∙ h) in
        let c = behind (Some b) m.0 q m.1 in
        subst (Closed None (b ∷ bs)) m.2 (more-closed None (Some b) b bs m.0 c
        (subst (λ x. Inside (b ∷ x)) (sym c.ended.2) (a_literal b c.ended.0 c.ended.1 q c.ended.3 c.ended.4)))
    go false e false q =
        let m = map-some suc (inside None bs) n (sym (ap (λ (u : Bool). option_map suc (inside (if u then Some b else None) bs)) q)
        ∙ sym (ap (λ (t : Bool). if t then Some 0 else option_map suc (inside (open_behind None b) bs)) e) ∙ h) in
        let c = behind None m.0 tt m.1 in
        subst (Closed None (b ∷ bs)) m.2 (more-closed None None b bs m.0 c (other_byte b c.inner q e c.ended))

closed-quoted : (q b : ℕ) (bs : List ℕ) (n : ℕ) → is_quote q ≡ true → ClosesBehind bs → inside (Some q) (b ∷ bs) ≡ Some n → Closed (Some q) (b ∷ bs) n
closed-quoted q b bs n is behind h = go (b == q) refl
  where
    go : (t : Bool) → (b == q) ≡ t → Closed (Some q) (b ∷ bs) n
    go true e =
        let m = map-some suc (inside None bs) n (sym (ap (λ (t : Bool). option_map suc (inside (if t then None else Some q) bs)) e) ∙ h) in
        let c = behind None m.0 tt m.1 in
        subst (Closed (Some q) (b ∷ bs)) m.2 (more-closed (Some q) None b bs m.0 c ([], c.inner, ap (λ x. x ∷ c.inner) (byte-is b q e), tt, c.ended))
    go false e =
        let m = map-some suc (inside (Some q) bs) n (sym (ap (λ (t : Bool). option_map suc (inside (if t then None else Some q) bs)) e) ∙ h) in
        let c = behind (Some q) m.0 is m.1 in
        subst (Closed (Some q) (b ∷ bs)) m.2 (more-closed (Some q) (Some q) b bs m.0 c
        (b ∷ c.ended.0, c.ended.1, ap (λ xs. b ∷ xs) c.ended.2, (ap not e, c.ended.3), c.ended.4))

closed-step : (b : ℕ) (bs : List ℕ) → ClosesBehind bs → ClosesBehind (b ∷ bs)
closed-step b bs behind None n is h = closed-plain b bs n behind h
closed-step b bs behind (Some q) n is h = closed-quoted q b bs n is behind h

closed : (bytes : List ℕ) → ClosesBehind bytes
closed [] = λ quote n is h. absurd (none-some n h)
closed (b ∷ bs) = closed-step b bs (closed bs)

-- where a text may be cut
at-seam : (inner rest : List ℕ) → get_or (inner ++ 125 ∷ rest) (length inner) 0 ≡ 125
at-seam [] rest = refl
at-seam (b ∷ inner) rest = at-seam inner rest

pub end-boundary : (bs : List ℕ) (n : ℕ) → Some n ≡ inside None bs → IsCharBoundary bs n
end-boundary bs n h =
    let c = closed bs None n tt (sym h) in
    let l : length bs ≡ length c.inner + length (125 ∷ c.rest) = ap length c.whole ∙ length-append c.inner (125 ∷ c.rest) in
    let k : n ≡ length c.inner = c.count in
    let g : get_or bs n 0 ≡ 125 = ap (λ xs. get_or xs n 0) c.whole ∙ ap (λ m. get_or (c.inner ++ 125 ∷ c.rest) m 0) c.count ∙ at-seam c.inner c.rest in
    IsCharBoundary-before_ascii bs n (omega arith) (omega arith)

pub end-first : (bs : List ℕ) (n : ℕ) → Some n ≡ inside None bs → first (drop n bs) ≡ 125
end-first bs n h =
    let c = closed bs None n tt (sym h) in
    ap (λ m. first (drop m bs)) c.count ∙ ap (λ xs. first (drop (length c.inner) xs)) c.whole ∙ ap first (drop-append_seam c.inner (125 ∷ c.rest))

fixed-ascii : (b : ℕ) → is_fixed b ≡ false → b < 128
fixed-ascii b h = grind (arith, nat_tests)

pub fixed-boundary : (bs : List ℕ) → IsCharBoundary bs (prefix_len is_fixed bs)
fixed-boundary bs = before-ascii is_fixed bs fixed-ascii

-- ---- pieces
first-inner : (inner more : List ℕ) → (first inner == 123) ≡ false → (first (inner ++ 125 ∷ more) == 123) ≡ false
first-inner [] more h = refl
first-inner (b ∷ inner) more h = h

inner-first : (inner more : List ℕ) → (first (inner ++ 125 ∷ more) == 123) ≡ false → (first inner == 123) ≡ false
inner-first [] more h = refl
inner-first (b ∷ inner) more h = h

at-fixed : (bytes : List ℕ) → is_bracket (first bytes) ≡ false → piece_at bytes ≡ Some (fixed_at bytes)
unfolding piece_at
at-fixed bytes h = ap (λ (t : Bool). if t then bracket_at bytes else Some (fixed_at bytes)) h

at-bracket : (bytes : List ℕ) → is_bracket (first bytes) ≡ true → piece_at bytes ≡ bracket_at bytes
unfolding piece_at
at-bracket bytes h = ap (λ (t : Bool). if t then bracket_at bytes else Some (fixed_at bytes)) h

abbrev some_piece : Written → List ℕ → List ℕ → Option (Written × List ℕ × List ℕ)
some_piece written inner rest = Some (written, inner, rest)

found-fixed : (b : ℕ) (bytes rest : List ℕ) → AllFixed (b ∷ bytes) → EndsFixed rest → piece_at ((b ∷ bytes) ++ rest) ≡ Some (Plain, b ∷ bytes, rest)
found-fixed b bytes rest all stops =
    let n = fixed-all (b ∷ bytes) rest all stops in
    at-fixed ((b ∷ bytes) ++ rest) (not-true (is_bracket b) all.0)
    ∙ ap (λ k. some_piece Plain (take k ((b ∷ bytes) ++ rest)) (drop k ((b ∷ bytes) ++ rest))) n
    ∙ ap (λ xs. some_piece Plain xs (drop (length (b ∷ bytes)) ((b ∷ bytes) ++ rest))) (take-append_seam (b ∷ bytes) rest)
    ∙ ap (λ xs. some_piece Plain (b ∷ bytes) xs) (drop-append_seam (b ∷ bytes) rest)

found-doubled : (b : ℕ) (rest : List ℕ) → is_bracket b ≡ true → piece_at (b ∷ b ∷ rest) ≡ Some (Plain, b ∷ [], rest)
found-doubled b rest h = at-bracket (b ∷ b ∷ rest) h ∙ rw (same-byte b) refl

found-braced : (inner rest : List ℕ) → (first inner == 123) ≡ false → Inside inner → piece_at (123 ∷ (inner ++ 125 ∷ rest)) ≡ Some (Braced, inner, rest)
found-braced inner rest start h =
    at-bracket (123 ∷ (inner ++ 125 ∷ rest)) refl
    ∙ ap (λ (t : Bool). if t then Some (doubled_at (inner ++ 125 ∷ rest)) else braced_at (inner ++ 125 ∷ rest) (inside None (inner ++ 125 ∷ rest)))
    (first-inner inner rest start)
    ∙ ap (braced_at (inner ++ 125 ∷ rest)) (inside-all inner rest h)
    ∙ ap (λ xs. some_piece Braced xs (drop 1 (drop (length inner) (inner ++ 125 ∷ rest)))) (take-append_seam inner (125 ∷ rest))
    ∙ ap (λ xs. some_piece Braced inner (drop 1 xs)) (drop-append_seam inner (125 ∷ rest))

pub found-piece : (bytes rest : List ℕ) (written : Written) (inner : List ℕ) → bytes ≢ [] → IsPiece bytes rest written inner
    → piece_at (bytes ++ rest) ≡ Some (written, inner, rest)
found-piece _ _ _ _ some (fixed_text [] rest all stops) = absurd (some refl)
found-piece _ _ _ _ some (fixed_text (b ∷ bytes) rest all stops) = found-fixed b bytes rest all stops
found-piece _ _ _ _ some (doubled b rest h) = found-doubled b rest h
found-piece _ _ _ _ some (expression inner rest start h) = ap (λ xs. piece_at (123 ∷ xs)) (append_assoc inner (125 ∷ []) rest) ∙ found-braced inner rest start h

-- a piece that was found, and the bytes that it is
abbrev pub PieceReported : List ℕ → Written × List ℕ × List ℕ → Type 0
PieceReported bytes p = (text : List ℕ) × (bytes ≡ text ++ p.2) × (text ≢ []) × IsPiece text p.2 p.0 p.1

cons-some : (b : ℕ) (bs : List ℕ) → b ∷ bs ≢ []
cons-some b bs h = cc

reported-fixed : (b : ℕ) (bs : List ℕ) → is_fixed b ≡ true → PieceReported (b ∷ bs) (fixed_at (b ∷ bs))
reported-fixed b bs h =
    let f = fixes (b ∷ bs) in (
      front (b ∷ bs),
      f.whole,
      subst (λ xs. xs ≢ []) (sym (front-more b bs h)) (cons-some b (front bs)),
      fixed_text (front (b ∷ bs))
          (back (b ∷ bs)) f.all f.stops,
    )

bracket-some : (b : ℕ) → is_bracket b ≡ true → (0 == b) ≡ true → ⊥
bracket-some b h e = true-false (is_bracket 0) (ap is_bracket (byte-is 0 b e) ∙ h) refl

reported-doubled : (b : ℕ) (bs : List ℕ) → is_bracket b ≡ true → (first bs == b) ≡ true → PieceReported (b ∷ bs) (doubled_at bs)
reported-doubled b [] h e = absurd (bracket-some b h e)
reported-doubled b (c ∷ cs) h e =
    let s : c ≡ b = byte-is c b e in
    (b ∷ b ∷ [], ap (λ x. b ∷ x ∷ cs) s, cons-some b (b ∷ []), subst (λ x. IsPiece (b ∷ b ∷ []) cs Plain (x ∷ [])) (sym s) (doubled b cs h))

reported-braced : (bs : List ℕ) (n : ℕ) → (first bs == 123) ≡ false → inside None bs ≡ Some n → PieceReported (123 ∷ bs) (Braced, take n bs, drop 1 (drop n bs))
reported-braced bs n start h =
    let c = closed bs None n tt h in
    let t : take n bs ≡ c.inner = ap (λ k. take k bs) c.count ∙ ap (take (length c.inner)) c.whole ∙ take-append_seam c.inner (125 ∷ c.rest) in
    let d : drop 1 (drop n bs) ≡ c.rest = ap (λ k. drop 1 (drop k bs)) c.count ∙ ap (λ xs. drop 1 (drop (length c.inner) xs)) c.whole
    ∙ ap (drop 1) (drop-append_seam c.inner (125 ∷ c.rest)) in
    let f : (first c.inner == 123) ≡ false = inner-first c.inner c.rest (ap (λ xs. first xs == 123) (sym c.whole) ∙ start) in
    let reported : PieceReported (123 ∷ bs) (Braced, c.inner, c.rest) = (
      123 ∷ (c.inner ++ 125 ∷ []),
      ap (λ xs. 123 ∷ xs) (c.whole ∙ sym (append_assoc c.inner (125 ∷ []) c.rest)),
      cons-some 123
          (c.inner ++ 125 ∷ []),
      expression c.inner c.rest f c.ended,
    ) in
    subst (λ xs. PieceReported (123 ∷ bs) (Braced, xs, drop 1 (drop n bs))) (sym t) (subst (λ xs. PieceReported (123 ∷ bs) (Braced, c.inner, xs))
    (sym d) reported)

reported-bracket : (b : ℕ) (bs : List ℕ) (p : Written × List ℕ × List ℕ) → is_bracket b ≡ true → bracket_at (b ∷ bs) ≡ Some p → PieceReported (b ∷ bs) p
reported-bracket b bs p is h = go (first bs == b) refl (b == 123) refl
  where
    closes : (o : Option ℕ) → (first bs == 123) ≡ false → inside None bs ≡ o → braced_at bs o ≡ Some p → PieceReported (123 ∷ bs) p
    closes None start i e = absurd (none-some p e)
    closes (Some n) start i e =
        subst (PieceReported (123 ∷ bs)) (some-same {A = Written × List ℕ × List ℕ} (Braced, take n bs, drop 1 (drop n bs)) p e) (reported-braced bs n start i)

    go : (t : Bool) → (first bs == b) ≡ t → (u : Bool) → (b == 123) ≡ u → PieceReported (b ∷ bs) p
    go true e u f =
        let s = some-same (doubled_at bs) p (sym (ap (λ (t : Bool). if t then Some (doubled_at bs) else if b == 123 then braced_at bs
        (inside None bs) else None) e) ∙ h) in
        subst (PieceReported (b ∷ bs)) s (reported-doubled b bs is e)
    go false e true f =
        let s = sym (ap (λ (t : Bool). if t then Some (doubled_at bs) else if b == 123 then braced_at bs (inside None bs) else None) e) ∙ h in
        let r = sym (ap (λ (u : Bool). if u then braced_at bs (inside None bs) else None) f) ∙ s in
        let same : b ≡ 123 = byte-is b 123 f in
        subst (λ x. PieceReported (x ∷ bs) p) (sym same) (closes (inside None bs) (ap (λ x. first bs == x) (sym same) ∙ e) refl r)
    go false e false f =
        let s = sym (ap (λ (t : Bool). if t then Some (doubled_at bs) else if b == 123 then braced_at bs (inside None bs) else None) e) ∙ h in
        absurd (none-some p (sym (ap (λ (u : Bool). if u then braced_at bs (inside None bs) else None) f) ∙ s))

pub piece-reported : (b : ℕ) (bs : List ℕ) (p : Written × List ℕ × List ℕ) → piece_at (b ∷ bs) ≡ Some p → PieceReported (b ∷ bs) p
piece-reported b bs p h = go (is_bracket b) refl
  where
    go : (t : Bool) → is_bracket b ≡ t → PieceReported (b ∷ bs) p
    go true e = reported-bracket b bs p e (sym (at-bracket (b ∷ bs) e) ∙ h)
    go false e = subst (PieceReported (b ∷ bs)) (some-same (fixed_at (b ∷ bs)) p (sym (at-fixed (b ∷ bs) e) ∙ h)) (reported-fixed b bs (ap not e))

-- ---- steps of the cut
cut-skip : (bytes rest : List ℕ) (at : ℕ) → cut at (length bytes) (bytes ++ rest) ≡ cut (past bytes at) 0 rest
unfolding cut
cut-skip [] rest at = refl
cut-skip (b ∷ bytes) rest at = cut-skip bytes rest (suc at)

pub cut-begun : (at b : ℕ) (bs : List ℕ) (o : Option (Written × List ℕ × List ℕ)) → piece_at (b ∷ bs) ≡ o
    → cut at 0 (b ∷ bs) ≡ option_and_then (λ (p : Written × List ℕ × List ℕ). option_map {U = List Piece} (λ (ps : List Piece). piece_of at p.0 p.1 ∷ ps)
    (cut (suc at) (length bs - length p.2) bs)) o
unfolding cut
cut-begun at b bs o is =
    ap (option_and_then (λ (p : Written × List ℕ × List ℕ). option_map {U = List Piece} (λ (ps : List Piece). piece_of at p.0 p.1 ∷ ps)
    (cut (suc at) (length bs - length p.2) bs))) is

behind-bytes : (bytes rest : List ℕ) → length (bytes ++ rest) - length rest ≡ length bytes
behind-bytes bytes rest = let e : length (bytes ++ rest) ≡ length bytes + length rest = length-append bytes rest in omega arith

pub cut-front : (at b : ℕ) (bytes rest : List ℕ) (written : Written) (inner : List ℕ) → piece_at ((b ∷ bytes) ++ rest) ≡ Some (written, inner, rest)
    → cut at 0 ((b ∷ bytes) ++ rest) ≡ option_map {U = List Piece} (λ (ps : List Piece). piece_of at written inner ∷ ps) (cut (past (b ∷ bytes) at) 0 rest)
cut-front at b bytes rest written inner is =
    cut-begun at b (bytes ++ rest) (Some (written, inner, rest)) is
    ∙ ap (option_map {U = List Piece} (λ (ps : List Piece). piece_of at written inner ∷ ps))
    (ap (λ n. cut (suc at) n (bytes ++ rest)) (behind-bytes bytes rest) ∙ cut-skip bytes rest (suc at))

-- ---- the rules and the function
pub cut-Pieces : (at : ℕ) (bytes : List ℕ) (ps : List Piece) → Pieces at bytes ps → cut at 0 bytes ≡ Some ps
unfolding cut
cut-Pieces _ _ _ (end at) = refl
cut-Pieces _ _ _ (piece at b bytes rest written inner ps p more) =
    cut-front at b bytes rest written inner (found-piece (b ∷ bytes) rest written inner (cons-some b bytes) p)
    ∙ ap (option_map {U = List Piece} (λ (qs : List Piece). piece_of at written inner ∷ qs)) (cut-Pieces (past (b ∷ bytes) at) rest ps more)

abbrev Cuts : List ℕ → Type 0
Cuts rest = (at : ℕ) (ps : List Piece) → cut at 0 rest ≡ Some ps → Pieces at rest ps

front-cut : (at : ℕ) (text rest : List ℕ) (written : Written) (inner : List ℕ) (ps : List Piece) → text ≢ [] → IsPiece text rest written inner → Cuts rest
    → cut at 0 (text ++ rest) ≡ Some ps → Pieces at (text ++ rest) ps
front-cut at [] rest written inner ps some p cuts is = absurd (some refl)
front-cut at (b ∷ bytes) rest written inner ps some p cuts is =
    let m = map-some (λ (qs : List Piece). piece_of at written inner ∷ qs) (cut (past (b ∷ bytes) at) 0 rest) ps
    (sym (cut-front at b bytes rest written inner (found-piece (b ∷ bytes) rest written inner some p)) ∙ is) in
    subst (Pieces at ((b ∷ bytes) ++ rest)) m.2 (piece at b bytes rest written inner m.0 p (cuts (past (b ∷ bytes) at) m.0 m.1))

length-some : (text : List ℕ) → text ≢ [] → 0 < length text
length-some [] h = absurd (h refl)
length-some (b ∷ text) h = omega arith

pub shorter-parts : (bytes text rest : List ℕ) → text ≢ [] → bytes ≡ text ++ rest → length rest < length bytes
shorter-parts bytes text rest some h =
    let e : length bytes ≡ length text + length rest = ap length h ∙ length-append text rest in
    let l : 0 < length text = length-some text some in
    omega arith

cuts-step : (n : ℕ) → ((rest : List ℕ) → length rest ≤ n → Cuts rest) → (b : ℕ) (bs : List ℕ) → length (b ∷ bs) ≤ suc n → Cuts (b ∷ bs)
cuts-step n cuts b bs le at ps m = go (piece_at (b ∷ bs)) refl
  where
    go : (o : Option (Written × List ℕ × List ℕ)) → piece_at (b ∷ bs) ≡ o → Pieces at (b ∷ bs) ps
    go None is = absurd (none-some ps (sym (cut-begun at b bs None is) ∙ m))
    go (Some p) is =
        let t = piece-reported b bs p is in
        let less : length p.2 < length (b ∷ bs) = shorter-parts (b ∷ bs) t.0 p.2 t.2 t.1 in
        let within : length p.2 ≤ n = omega arith in
        subst (λ all. Pieces at all ps) (sym t.1) (front-cut at t.0 p.2 p.0 p.1 ps t.2 t.3 (cuts p.2 within) (subst (λ all. cut at 0 all ≡ Some ps) t.1 m))

cuts-nil : Cuts []
unfolding cut
cuts-nil at ps m = subst (Pieces at []) (some-same [] ps m) (end at)

cuts-within : (n : ℕ) (bytes : List ℕ) → length bytes ≤ n → Cuts bytes
cuts-within n [] le = cuts-nil
cuts-within zero (b ∷ bs) le = absurd (omega arith)
cuts-within (suc n) (b ∷ bs) le = cuts-step n (cuts-within n) b bs le

pub Pieces-cut : (at : ℕ) (bytes : List ℕ) (ps : List Piece) → cut at 0 bytes ≡ Some ps → Pieces at bytes ps
Pieces-cut at bytes ps m = cuts-within (length bytes) bytes (omega arith) at ps m
