-- Names and prefixes that can be written: what may be bound, new prefixes, and how written names are read.
use Rattle.std.proofs.Common.{◌≡◌, ◌≢◌, ℕ, zero, suc, ◌+◌, ◌<◌, ◌^◌, List, [], ◌∷◌, ◌++◌, Bool, true, false, if◌then◌else◌, Some, refl, sym, ◌∙◌, ap, subst}
use Rattle.std.proofs.Common.{arith, eqb, get_or, inl, inr, length, lit<, map}
use Rattle.std.specs.Prelude.{not, ◌&&◌, ◌||◌, ◌==◌, codes}
use Rattle.std.specs.Fmt.{decimal}
use Rattle.std.specs.Int.Digits.{AllBelowBase, digits_of}
use Rattle.std.specs.List.{list_all, list_any}
use Rattle.std.specs.Str.{bytes_eq, chars, IsAscii, IsUtf8, NonePass}
use Rattle.std.proofs.lemmas.Bool.{and_parts, false_from_ne_true, or_from, or_left, or_parts}
use Rattle.std.proofs.lemmas.Bool.Decides.{eqb_tells}
use Rattle.std.proofs.lemmas.Fmt.{IsAscii-decimal, decimal_digit, decimal-digits_of}
use Rattle.std.proofs.lemmas.Int.Digits.{all_below_base_digits_of}
use Rattle.std.proofs.lemmas.List.Folds.{list_any-append}
use Rattle.std.proofs.lemmas.Slice.Eq.{bytes_eq-Decides}
use Rattle.std.proofs.lemmas.Str.{chars-IsAscii, encodes-chars, IsUtf8-append, IsUtf8-from_ascii}
use Rattle.std.proofs.lemmas.Str.Ascii.{IsAscii-cons, IsAscii-nil}
use Rattle.std.proofs.lemmas.Str.Pattern.{NoCharPasses-char}
use Rattle.xs_text.specs.Names.{continues_name, is_among, is_ncname, name_more_ranges, qname_of, spells_ncname, starts_name}
use Rattle.xs_text.proofs.FirstByteLemmas.{any-nowhere, is_the}
use Rattle.xs_text.proofs.NameLemmas.{qname_of-IsQName}
use Rattle.xs_pyx.specs.Writing.{IsPlainName, breaks_name}
use Rattle.xs_trace.specs.Label.{Label}
use Rattle.xs_build.specs.DocumentTree.{is_prefix, may_be_bound}
use Rattle.xs_build.specs.Namespaces.{QName, is_bad_binding, is_empty, xml_uri, xmlns_uri}
use Rattle.xs_making.specs.Labels.{is_reserved, put_prefix, unreserved}
use Rattle.xs_making.specs.Laws as made
use Rattle.xs_making.specs.Laws.{IsWellNamed, IsWellSpace}
use Rattle.xs_making.specs.Texts as texts
use Rattle.xs_result_lines.specs.Bindings.{new_prefix}
use Rattle.xs_result_lines.specs.Lines.{declaration_name, name_with}
use Rattle.xs_result_laws.specs.Events.{HasLabelTexts}

pub no_bool : {P : Type 0} (b : Bool) → b ≡ true → b ≡ false → P
no_bool true h k = absurd (cc)
no_bool false h k = absurd (cc)

-- ---- what may be bound
pub record IsBindable (p u : List ℕ) : Type 0 where
  pub allowed : may_be_bound p u ≡ true
  pub named : is_empty p ≡ false → is_ncname p ≡ true
  pub other : bytes_eq p (codes "xmlns") ≡ false
  pub none : is_empty u ≡ true → p ≡ []
  pub xml : bytes_eq u xml_uri ≡ true → p ≡ codes "xml"
  pub not_xmlns : bytes_eq u xmlns_uri ≡ false
  pub prefix_text : IsUtf8 p
  pub uri_text : IsUtf8 u

none_of_five : (q a b c d e : Bool) → q ≡ true → a ≡ false → b ≡ false → c ≡ false → d ≡ false → e ≡ false → (q && not (a || b || c || d || e)) ≡ true
none_of_five q a b c d e hq ha hb hc hd he = rw (hq, ha, hb, hc, hd, he) refl

full_or_none : (p u : List ℕ) → (is_empty u ≡ true → p ≡ []) → (not (is_empty p) && is_empty u) ≡ false
full_or_none [] u h = refl
full_or_none (b ∷ p) [] h = absurd (let e : b ∷ p ≡ [] = h refl in cc)
full_or_none (b ∷ p) (c ∷ u) h = refl

not_without : (s t : Bool) → (s ≡ true → t ≡ true) → (s && not t) ≡ false
not_without true true h = refl
not_without true false h = absurd (let e : false ≡ true = h refl in cc)
not_without false t h = refl

not_without-flipped : (s t : Bool) → (t ≡ true → s ≡ true) → (not s && t) ≡ false
not_without-flipped true t h = refl
not_without-flipped false true h = absurd (let e : false ≡ true = h refl in cc)
not_without-flipped false false h = refl

prefix_named : (p : List ℕ) → is_prefix p ≡ true → is_empty p ≡ false → is_ncname p ≡ true
prefix_named [] h n = absurd (cc)
prefix_named (b ∷ p) h n = h

xml_bytes : (p : List ℕ) → p ≡ codes "xml" → bytes_eq p (codes "xml") ≡ true
xml_bytes p h = (bytes_eq-Decides p (codes "xml")).1 h

pub bindable : (p u : List ℕ) → is_prefix p ≡ true → (is_empty u ≡ true → p ≡ []) → bytes_eq p (codes "xmlns") ≡ false
    → (bytes_eq u xml_uri ≡ true → p ≡ codes "xml") → (bytes_eq p (codes "xml") ≡ true → bytes_eq u xml_uri ≡ true) → bytes_eq u xmlns_uri ≡ false
    → IsUtf8 p → IsUtf8 u → IsBindable p u
unfolding is_bad_binding
bindable p u spelled none other xml back not_xmlns s t = record {
  allowed =
      none_of_five (is_prefix p) (not (is_empty p) && is_empty u) (bytes_eq p (codes "xmlns")) (bytes_eq p (codes "xml") && not (bytes_eq u xml_uri))
      (not (bytes_eq p (codes "xml")) && bytes_eq u xml_uri) (bytes_eq u xmlns_uri) spelled (full_or_none p u none) other
      (not_without (bytes_eq p (codes "xml")) (bytes_eq u xml_uri) back)
      (not_without-flipped (bytes_eq p (codes "xml")) (bytes_eq u xml_uri) (λ h. xml_bytes p (xml h))) not_xmlns;
  named = prefix_named p spelled;
  other = other;
  none = none;
  xml = xml;
  not_xmlns = not_xmlns;
  prefix_text = s;
  uri_text = t;
}

-- ---- of a name that is put
same_prefix : (p : List ℕ) → made.is_prefix p ≡ true → is_prefix p ≡ true
same_prefix [] h = refl
same_prefix (b ∷ p) h = h

put_none : (p u : List ℕ) → put_prefix u p ≡ p → is_empty u ≡ true → p ≡ []
put_none p [] h e = sym h
put_none p (b ∷ u) h e = absurd (cc)

put_xml : (p u : List ℕ) → put_prefix u p ≡ p → bytes_eq u xml_uri ≡ true → p ≡ codes "xml"
put_xml p u h e = let at : put_prefix xml_uri p ≡ p = subst (λ x. put_prefix x p ≡ p) ((bytes_eq-Decides u xml_uri).0 e) h in sym at

-- a reserved prefix has the URI of `xml`
put_reserved : (p u : List ℕ) → put_prefix u p ≡ p → is_reserved p ≡ true → bytes_eq u xml_uri ≡ true
put_reserved p u h r = by_uri (texts.is_empty u) (bytes_eq u xml_uri) h
  where
    not_empty : [] ≡ p → ⊥
    not_empty e = no_bool (is_reserved p) r (ap is_reserved (sym e))

    by_uri : (s t : Bool) → (if s then [] else if t then codes "xml" else unreserved p) ≡ p → t ≡ true
    by_uri true t g = absurd (not_empty g)
    by_uri false true g = refl
    by_uri false false g = absurd (not_empty (rw r at g))

put_other : (p u : List ℕ) → put_prefix u p ≡ p → bytes_eq p (codes "xmlns") ≡ false
put_other p u h = false_from_ne_true (bytes_eq p (codes "xmlns")) (λ e.
    let is : p ≡ codes "xml" = put_xml p u h (put_reserved p u h (rw e (or_last (bytes_eq p (codes "xml"))))) in
    no_bool (bytes_eq p (codes "xmlns")) e (ap (λ x. bytes_eq x (codes "xmlns")) is))
  where
    or_last : (b : Bool) → (b || true) ≡ true
    or_last true = refl
    or_last false = refl

pub name_bindable : (name : Label) → IsWellNamed name → HasLabelTexts name → IsBindable name.prefix name.uri
name_bindable name h t =
    bindable name.prefix name.uri (same_prefix name.prefix h.prefix) (put_none name.prefix name.uri h.fits) (put_other name.prefix name.uri h.fits)
    (put_xml name.prefix name.uri h.fits)
    (λ e. put_reserved name.prefix name.uri h.fits (or_left (bytes_eq name.prefix (codes "xml")) (bytes_eq name.prefix (codes "xmlns")) e)) h.uri t.2 t.0

-- ---- of a namespace node
same_empty : (u : List ℕ) → texts.is_empty u ≡ is_empty u
same_empty [] = refl
same_empty (b ∷ u) = refl

pub space_bindable : (p u : List ℕ) → IsWellSpace p u → IsUtf8 p → IsUtf8 u → IsBindable p u
space_bindable p u h s t =
    let free = or_parts (bytes_eq p (codes "xml")) (bytes_eq p (codes "xmlns")) h.free in
    bindable p u (same_prefix p h.spelled) (λ e. no_bool (is_empty u) e (sym (same_empty u) ∙ h.full)) free.1
    (λ e. no_bool (bytes_eq u xml_uri) e h.not_xml) (λ e. no_bool (bytes_eq p (codes "xml")) e free.0) h.not_xmlns s t

-- ---- new prefixes
digit_continues : (d : ℕ) → d < 10 → continues_name (48 + d) ≡ true
digit_continues zero h = refl
digit_continues (suc zero) h = refl
digit_continues (suc (suc zero)) h = refl
digit_continues (suc (suc (suc zero))) h = refl
digit_continues (suc (suc (suc (suc zero)))) h = refl
digit_continues (suc (suc (suc (suc (suc zero))))) h = refl
digit_continues (suc (suc (suc (suc (suc (suc zero)))))) h = refl
digit_continues (suc (suc (suc (suc (suc (suc (suc zero))))))) h = refl
digit_continues (suc (suc (suc (suc (suc (suc (suc (suc zero)))))))) h = refl
digit_continues (suc (suc (suc (suc (suc (suc (suc (suc (suc zero))))))))) h = refl
digit_continues (suc (suc (suc (suc (suc (suc (suc (suc (suc (suc n)))))))))) h = absurd (omega (arith, h))

digits_continue : (ds : List ℕ) → AllBelowBase 10 ds → list_all continues_name (map (λ d. 48 + d) ds) ≡ true
digits_continue [] h = refl
digits_continue (d ∷ ds) h = ap (λ b. b && list_all continues_name (map (λ x. 48 + x) ds)) (digit_continues d h.0) ∙ digits_continue ds h.1

decimal_continues : (k : ℕ) → k < 2 ^ 64 → list_all continues_name (decimal k) ≡ true
decimal_continues zero small = ap (list_all continues_name) (decimal_digit 0 (lit< tt))
decimal_continues (suc k) small =
    ap (list_all continues_name) (decimal-digits_of (suc k) (omega arith) small)
    ∙ digits_continue (digits_of 10 (suc k)) (all_below_base_digits_of 10 (suc k) (omega arith))

new_ascii : (k : ℕ) → k < 2 ^ 64 → IsAscii (new_prefix k)
new_ascii k small = IsAscii-cons 110 (115 ∷ decimal k) (lit< tt) (IsAscii-cons 115 (decimal k) (lit< tt) (IsAscii-decimal k small))

new_named : (k : ℕ) → k < 2 ^ 64 → is_ncname (new_prefix k) ≡ true
new_named k small = ap spells_ncname (chars-IsAscii (new_prefix k) (new_ascii k small)) ∙ decimal_continues k small

pub new_bindable : (k : ℕ) (u : List ℕ) → k < 2 ^ 64 → is_empty u ≡ false → bytes_eq u xml_uri ≡ false → bytes_eq u xmlns_uri ≡ false → IsUtf8 u
    → IsBindable (new_prefix k) u
new_bindable k u small full not_xml not_xmlns t =
    bindable (new_prefix k) u (new_named k small) (λ e. no_bool (is_empty u) e full) refl (λ e. no_bool (bytes_eq u xml_uri) e not_xml)
    (λ e. absurd (cc)) not_xmlns (IsUtf8-from_ascii (new_prefix k) (new_ascii k small)) t

-- ---- a byte that stands in no name
other_char : (b c : ℕ) → continues_name b ≡ false → continues_name c ≡ true → eqb c b ≡ false
other_char b c out within = elim (eqb_tells c b) [
  | inl h ↦ no_bool (continues_name c) within (subst (λ x. continues_name x ≡ false) (sym h.1) out)
  | inr h ↦ h.0
]

none_is : (b : ℕ) (cs : List ℕ) → continues_name b ≡ false → list_all continues_name cs ≡ true → NonePass (λ d. eqb d b) cs
none_is b [] out h = tt
none_is b (c ∷ cs) out h = let p = and_parts (continues_name c) (list_all continues_name cs) h in (other_char b c out p.0, none_is b cs out p.1)

all_continue : (cs : List ℕ) → spells_ncname cs ≡ true → list_all continues_name cs ≡ true
all_continue [] h = absurd (cc)
all_continue (c ∷ cs) h =
    let p = and_parts (starts_name c) (list_all continues_name cs) h in
    ap (λ t. (t || is_among name_more_ranges c) && list_all continues_name cs) p.0 ∙ p.1

not_in_name : (b : ℕ) (name : List ℕ) → b < 128 → continues_name b ≡ false → IsUtf8 name → is_ncname name ≡ true → (i : ℕ) → i < length name
    → get_or name i 0 ≢ b
not_in_name b name small out t n i within =
    NoCharPasses-char b name i (chars name, encodes-chars name t, none_is b (chars name) out (all_continue (chars name) n)) small within

-- a byte that breaks a name is one of three
breaks_none : (b : ℕ) → b ≢ 32 → b ≢ 10 → b ≢ 92 → breaks_name b ≡ true → ⊥
breaks_none b x y z h = by_test (b == 32) refl (b == 10) refl (b == 92) refl h
  where
    by_test : (s : Bool) → (b == 32) ≡ s → (t : Bool) → (b == 10) ≡ t → (u : Bool) → (b == 92) ≡ u → (s || t || u) ≡ true → ⊥
    by_test true e t f u g h = x (is_the b 32 e)
    by_test false e true f u g h = y (is_the b 10 f)
    by_test false e false f true g h = z (is_the b 92 g)
    by_test false e false f false g h = absurd (cc)

pub ncname_plain : (name : List ℕ) → IsUtf8 name → is_ncname name ≡ true → IsPlainName name
ncname_plain name t n =
    any-nowhere breaks_name name (λ i within breaks. breaks_none (get_or name i 0) (not_in_name 32 name (lit< tt) refl t n i within)
    (not_in_name 10 name (lit< tt) refl t n i within) (not_in_name 92 name (lit< tt) refl t n i within) breaks)

-- ---- a name as it is written
abbrev pub qname : List ℕ → List ℕ → QName
qname prefix local = record { prefix = prefix; local = local }

pub record IsWritten (bytes prefix local : List ℕ) : Type 0 where
  pub read : qname_of bytes ≡ Some (qname prefix local)
  pub text : IsUtf8 bytes
  pub plain : IsPlainName bytes

colon_text : (local : List ℕ) → IsUtf8 local → IsUtf8 (58 ∷ local)
colon_text local t = IsUtf8-append (58 ∷ []) local (IsUtf8-from_ascii (58 ∷ []) (IsAscii-cons 58 [] (lit< tt) IsAscii-nil)) t

pub written_alone : (local : List ℕ) → is_ncname local ≡ true → IsUtf8 local → IsWritten local [] local
written_alone local n t = record {
  read = qname_of-IsQName local [] local t (inl (refl, refl, n));
  text = t;
  plain = ncname_plain local t n;
}

written_joined : (p local : List ℕ) → is_ncname p ≡ true → is_ncname local ≡ true → IsUtf8 p → IsUtf8 local → IsWritten (p ++ 58 ∷ local) p local
written_joined p local a b s t =
    let whole : IsUtf8 (p ++ 58 ∷ local) = IsUtf8-append p (58 ∷ local) s (colon_text local t) in
    record {
      read = qname_of-IsQName (p ++ 58 ∷ local) p local whole (inr (refl, a, b));
      text = whole;
      plain =
          list_any-append breaks_name p (58 ∷ local)
          ∙ or_from (list_any breaks_name p) (list_any breaks_name (58 ∷ local)) (ncname_plain p s a) (ncname_plain local t b);
    }

pub name_written : (p local : List ℕ) → (is_empty p ≡ false → is_ncname p ≡ true) → is_ncname local ≡ true → IsUtf8 p → IsUtf8 local
    → IsWritten (name_with p local) p local
name_written [] local a b s t = written_alone local b t
name_written (c ∷ p) local a b s t = written_joined (c ∷ p) local (a refl) b s t

xmlns_ascii : IsAscii (codes "xmlns")
xmlns_ascii = IsAscii-cons 120 (109 ∷ 108 ∷ 110 ∷ 115 ∷ []) (lit< tt) (IsAscii-cons 109 (108 ∷ 110 ∷ 115 ∷ []) (lit< tt)
    (IsAscii-cons 108 (110 ∷ 115 ∷ []) (lit< tt) (IsAscii-cons 110 (115 ∷ []) (lit< tt) (IsAscii-cons 115 [] (lit< tt) IsAscii-nil))))

xmlns_named : is_ncname (codes "xmlns") ≡ true
xmlns_named = ap spells_ncname (chars-IsAscii (codes "xmlns") xmlns_ascii)

xmlns_text : IsUtf8 (codes "xmlns")
xmlns_text = IsUtf8-from_ascii (codes "xmlns") xmlns_ascii

-- that of a declaration
abbrev pub declared_parts : List ℕ → QName
declared_parts [] = qname [] (codes "xmlns")
declared_parts (b ∷ p) = qname (codes "xmlns") (b ∷ p)

pub declaration_written : (p : List ℕ) → (is_empty p ≡ false → is_ncname p ≡ true) → IsUtf8 p
    → IsWritten (declaration_name p) (declared_parts p).prefix (declared_parts p).local
declaration_written [] n t = written_alone (codes "xmlns") xmlns_named xmlns_text
declaration_written (b ∷ p) n t = written_joined (codes "xmlns") (b ∷ p) xmlns_named (n refl) xmlns_text t
