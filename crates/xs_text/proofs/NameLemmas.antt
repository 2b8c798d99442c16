-- Names, character by character, and where a QName is cut.
use Rattle.std.proofs.Common.{◌≡◌, ◌≢◌, ℕ, suc, ◌<◌, List, [], ◌∷◌, ◌++◌, Bool, true, false, cond, ◌&&◌, inl, inr, eqb, ◌||◌, Option, Some, None, IfSome, IfNone, option_map, Bor, lit<, length, take, get_or, refl, sym, ap, subst, ◌∙◌, arith}
use Rattle.std.proofs.lemmas.Bool.Decides.{eqb_tells}
use Rattle.std.proofs.lemmas.List.{get_or_at, take_at, length-append}
use Rattle.std.proofs.lemmas.Str.{IsUtf8-take, IsCharBoundary-before_ascii, encodes-chars}
use Rattle.std.proofs.lemmas.Str.Pattern.{NoCharPasses-char}
use Rattle.std.proofs.lemmas.Bool.{cases_Bool}
use Rattle.std.specs.List.{list_all, list_any, position_or_len, before_first, after_first}
use Rattle.std.specs.Str.{chars, IsUtf8, NonePass}
use Rattle.xs_text.specs.Names.{starts_name, name_more_ranges, is_among, continues_name, spells_ncname, is_ncname, IsNcName, IsQName, QName, is_colon, prefixed, unprefixed, qname_of, qname_parts}
use Rattle.xs_text.proofs.FirstByteLemmas.{any-nowhere, any-at, before-at, after-at, first_of_any, is_the}

-- a text whose first character may begin a name is an NCName just where the others may stand in one
pub is_ncname-first : (text rest : List ℕ) (c : ℕ) (r : Bool) → chars text ≡ c ∷ chars rest → starts_name c ≡ true → r ≡ list_all continues_name (chars rest)
    → r ≡ is_ncname text
is_ncname-first text rest c r cut starts all =
    all ∙ sym (ap spells_ncname cut ∙ ap (λ t. t && list_all continues_name (chars rest)) starts)

both_true : (a b : Bool) → (a && b) ≡ true → (a ≡ true) × (b ≡ true)
both_true true b e = (refl, e)
both_true false b e = absurd (cc)

-- a colon stands in no name
not_colon : (c : ℕ) → continues_name c ≡ true → eqb c 58 ≡ false
not_colon c e = elim (eqb_tells c 58) [
  | inl h ↦ let said : continues_name 58 ≡ true = subst (λ (x : ℕ). continues_name x ≡ true) h.1 e in absurd (cc)
  | inr h ↦ h.0
]

no_colons : (cs : List ℕ) → list_all continues_name cs ≡ true → NonePass (λ d. eqb d 58) cs
no_colons [] e = tt
no_colons (c ∷ cs) e = let p = both_true (continues_name c) (list_all continues_name cs) e in (not_colon c p.0, no_colons cs p.1)

continues-starts : (cs : List ℕ) → spells_ncname cs ≡ true → list_all continues_name cs ≡ true
continues-starts [] e = absurd (cc)
continues-starts (c ∷ cs) e =
    let p = both_true (starts_name c) (list_all continues_name cs) e in
    ap (λ t. (t || is_among name_more_ranges c) && list_all continues_name cs) p.0 ∙ p.1

abbrev HasNoColon : List ℕ → Type 0
HasNoColon text = (i : ℕ) → i < length text → get_or text i 0 ≢ 58

HasNoColon-name : (text : List ℕ) → IsUtf8 text → IsNcName text → HasNoColon text
HasNoColon-name text u n i l = NoCharPasses-char 58 text i (chars text, encodes-chars text u, no_colons (chars text) (continues-starts (chars text) n))
    (lit< tt) l

colon_at : (text front rest : List ℕ) → text ≡ front ++ 58 ∷ rest → (length front < length text) × (get_or text (length front) 0 ≡ 58)
colon_at text front rest cut =
    (omega (arith, ap length cut, length-append front (58 ∷ rest)), ap (λ t. get_or t (length front) 0) cut ∙ get_or_at front 58 rest 0 (length front) refl)

IsUtf8-before_colon : (text front rest : List ℕ) → IsUtf8 text → text ≡ front ++ 58 ∷ rest → IsUtf8 front
IsUtf8-before_colon text front rest u cut =
    let at = colon_at text front rest cut in
    let ascii : get_or text (length front) 0 < 128 = omega (arith, at.1) in
    let same : take (length front) text ≡ front = ap (take (length front)) cut ∙ take_at front (58 ∷ rest) (length front) refl in
    subst IsUtf8 same (IsUtf8-take text (length front) u (IsCharBoundary-before_ascii text (length front) at.0 ascii))

some_byte : (c : ℕ) (cs : List ℕ) → 0 < length (c ∷ cs)
some_byte c cs = omega arith

no_colon-tail : (c : ℕ) (cs : List ℕ) → HasNoColon (c ∷ cs) → HasNoColon cs
no_colon-tail c cs f i l = let more : suc i < length (c ∷ cs) = omega arith in f (suc i) more

-- where two cuts at a colon leave no colon in front, they are one
first_colon : (p q l m : List ℕ) → HasNoColon p → HasNoColon q → p ++ 58 ∷ l ≡ q ++ 58 ∷ m → (p ≡ q) × (l ≡ m)
first_colon [] [] l m f g e = (refl, cc)
first_colon [] (c ∷ q) l m f g e = let is : 58 ≡ c = cc in absurd (g 0 (some_byte c q) (sym is))
first_colon (c ∷ p) [] l m f g e = let is : c ≡ 58 = cc in absurd (f 0 (some_byte c p) is)
first_colon (c ∷ p) (d ∷ q) l m f g e =
    let head : c ≡ d = cc in
    let tail : p ++ 58 ∷ l ≡ q ++ 58 ∷ m = cc in
    let rest = first_colon p q l m (no_colon-tail c p f) (no_colon-tail d q g) tail in
    (ap (λ x. x ∷ p) head ∙ ap (λ t. d ∷ t) rest.0, rest.1)

-- a text is a QName in one way at most
pub QName-unique : (text prefix local prefix' local' : List ℕ) → IsUtf8 text → IsQName text prefix local → IsQName text prefix' local' → (prefix ≡ prefix')
    × (local ≡ local')
QName-unique text p l q m u (inl a) (inl b) = (a.0 ∙ sym b.0, a.1 ∙ sym b.1)
QName-unique text p l q m u (inl a) (inr b) = let at = colon_at text q m b.0 in absurd (HasNoColon-name text u a.2 (length q) at.0 at.1)
QName-unique text p l q m u (inr a) (inl b) = let at = colon_at text p l a.0 in absurd (HasNoColon-name text u b.2 (length p) at.0 at.1)
QName-unique text p l q m u (inr a) (inr b) =
    first_colon p q l m (HasNoColon-name p (IsUtf8-before_colon text p l u a.0) a.1) (HasNoColon-name q (IsUtf8-before_colon text q m u b.0) b.1) (sym a.0
    ∙ b.0)

-- ---- the parts by the function are the parts by the productions
pub any-past : (p : ℕ → Bool) (xs : List ℕ) → position_or_len p xs ≡ length xs → list_any p xs ≡ false
any-past p [] e = refl
any-past p (x ∷ xs) e = elim (cases_Bool (p x)) [
  | inl t ↦ absurd (omega (arith, rw t at e))
  | inr f ↦ rw f (any-past p xs (omega (arith, rw f at e)))
]

pub any-before : (p : ℕ → Bool) (xs : List ℕ) → position_or_len p xs < length xs → list_any p xs ≡ true
any-before p [] e = absurd (omega arith)
any-before p (x ∷ xs) e = elim (cases_Bool (p x)) [
  | inl t ↦ rw t refl
  | inr f ↦ rw f (any-before p xs (omega (arith, rw f at e)))
]

-- a name with no colon
pub qname-whole : (text : List ℕ) → position_or_len is_colon text ≡ length text → unprefixed text ≡ qname_of text
unfolding qname_of
qname-whole text e = rw (any-past is_colon text e) refl

-- a name with a colon
pub qname-cut : (text front rest : List ℕ) → front ≡ before_first is_colon text → rest ≡ after_first is_colon text
    → position_or_len is_colon text < length text → prefixed front rest ≡ qname_of text
unfolding qname_of
qname-cut text front rest before after e = rw (before, after, any-before is_colon text e) refl

no_colon-any : (text : List ℕ) → HasNoColon text → list_any is_colon text ≡ false
no_colon-any text none = any-nowhere is_colon text (λ j l is. none j l (is_the (get_or text j 0) 58 is))

qname-joined : (prefix local : List ℕ) → list_any is_colon prefix ≡ false → IsNcName prefix → IsNcName local
    → qname_of (prefix ++ 58 ∷ local) ≡ Some (record { prefix = prefix; local = local })
unfolding qname_of
qname-joined prefix local plain p l =
    rw (any-at is_colon prefix 58 local refl, before-at is_colon prefix 58 local plain refl, after-at is_colon prefix 58 local plain refl, p, l) refl

qname-alone : (text : List ℕ) → list_any is_colon text ≡ false → IsNcName text → qname_of text ≡ Some (record { prefix = []; local = text })
unfolding qname_of
qname-alone text none n = rw (none, n) refl

abbrev named : List ℕ → List ℕ → QName
named prefix local = record { prefix = prefix; local = local }

pub qname_of-IsQName : (text prefix local : List ℕ) → IsUtf8 text → IsQName text prefix local → qname_of text ≡ Some (named prefix local)
qname_of-IsQName text prefix local u (inl q) =
    qname-alone text (no_colon-any text (HasNoColon-name text u q.2)) q.2
    ∙ ap (λ p. Some (named p text)) (sym q.0) ∙ ap (λ l. Some (named prefix l)) (sym q.1)
qname_of-IsQName text prefix local u (inr q) =
    ap qname_of q.0 ∙ qname-joined prefix local (no_colon-any prefix (HasNoColon-name prefix (IsUtf8-before_colon text prefix local u q.0) q.1)) q.1 q.2

prefixed-is : (a b : Bool) (r q : QName) → cond (a && b) (Some r) None ≡ Some q → (a ≡ true) × (b ≡ true) × (r ≡ q)
prefixed-is true true r q e = (refl, refl, cc)
prefixed-is true false r q e = absurd (cc)
prefixed-is false b r q e = absurd (cc)

unprefixed-is : (a : Bool) (r q : QName) → cond a (Some r) None ≡ Some q → (a ≡ true) × (r ≡ q)
unprefixed-is true r q e = (refl, cc)
unprefixed-is false r q e = absurd (cc)

joined-parts : (text : List ℕ) (q : QName) → qname_of text ≡ Some q → list_any is_colon text ≡ true → IsQName text q.prefix q.local
unfolding qname_of
joined-parts text q e any =
    let cut = first_of_any is_colon text any in
    let colon : cut.at ≡ 58 = is_the cut.at 58 cut.passes in
    let whole : text ≡ cut.front ++ 58 ∷ cut.back = cut.whole ∙ ap (λ b. cut.front ++ b ∷ cut.back) colon in
    let said : cond (is_ncname cut.front && is_ncname cut.back) (Some (named cut.front cut.back)) None ≡ Some q =
    rw (
      any-at is_colon cut.front 58 cut.back refl,
      before-at is_colon cut.front 58 cut.back cut.none refl,
      after-at is_colon cut.front 58 cut.back cut.none refl,
    ) at (ap qname_of (sym whole) ∙ e) in
    let p = prefixed-is (is_ncname cut.front) (is_ncname cut.back) (named cut.front cut.back) q said in
    subst (λ (r : QName). IsQName text r.prefix r.local) p.2 (inr (whole, p.0, p.1))

alone-parts : (text : List ℕ) (q : QName) → qname_of text ≡ Some q → list_any is_colon text ≡ false → IsQName text q.prefix q.local
unfolding qname_of
alone-parts text q e none =
    let said : cond (is_ncname text) (Some (named [] text)) None ≡ Some q = rw none at e in
    let p = unprefixed-is (is_ncname text) (named [] text) q said in
    subst (λ (r : QName). IsQName text r.prefix r.local) p.1 (inl (refl, refl, p.0))

pub IsQName-qname_of : (text : List ℕ) (q : QName) → qname_of text ≡ Some q → IsQName text q.prefix q.local
IsQName-qname_of text q e = elim (cases_Bool (list_any is_colon text)) [ inl any ↦ joined-parts text q e any | inr none ↦ alone-parts text q e none ]

-- what a caller learns of the parts, from those that the function gives
pub parts-said : (text : List ℕ) (r : Option (Bor (List ℕ) × Bor (List ℕ))) → option_map qname_parts r ≡ qname_of text
    → IfSome r (λ name. IsQName text name.0.now name.1.now)
parts-said text None e = tt
parts-said text (Some name) e = IsQName-qname_of text (qname_parts name) (sym e)

pub none-said : (text : List ℕ) (r : Option (Bor (List ℕ) × Bor (List ℕ))) → IsUtf8 text → option_map qname_parts r ≡ qname_of text
    → IfNone r ((prefix local : List ℕ) → ¬ IsQName text prefix local)
none-said text None u e = λ prefix local q. let said : None ≡ Some (named prefix local) = e ∙ qname_of-IsQName text prefix local u q in absurd (cc)
none-said text (Some name) u e = tt
