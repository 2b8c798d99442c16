-- The tokens that the rules spell are found by the function.
use Rattle.std.proofs.Common.{◌≡◌, ℕ, Bool, true, false, List, [], ◌∷◌, ◌++◌, Option, Some, None, option_map, drop, refl, sym, ◌∙◌, ap, subst, inl, inr, arith, append_assoc}
use Rattle.std.specs.Prelude.{◌==◌, ◌&&◌, not, if◌then◌else◌, option_and_then, ◌⊎◌}
use Rattle.std.proofs.lemmas.Bool.Decides.{nat_tests}
use Rattle.xs_tree.specs.declared.axes.Axis.{Axis}
use Rattle.xs_xpath.specs.declared.name.NodeTest.{NodeTest}
use Rattle.xs_xpath.specs.declared.name.NodeTest.TheVariants.{Pi, Target}
use Rattle.xs_xpath.specs.declared.token.Operator.{Operator}
use Rattle.xs_xpath.specs.declared.token.Atom.TheVariants.{Literal}
use Rattle.xs_parser.specs.declared.token.QName.{QName}
use Rattle.xs_parser.specs.declared.token.Token.{Token}
use Rattle.xs_parser.specs.declared.token.Token.TheVariants.{Infix, OnAxis, Test, Atom}
use Rattle.xs_parser.specs.declared.token.Lexeme.{Lexeme}
use Rattle.xs_parser.specs.declared.token.Lexeme.TheVariants.{Ready, AnyOf, Named, Called, Variable, Number}
use Rattle.xs_parser.specs.declared.bytes.Class.TheVariants.{Space, Digit, Until}
use Rattle.xs_parser.specs.declared.bytes.Kind.{Kind}
use Rattle.xs_parser.specs.declared.bytes.Kind.TheVariants.{ANumber, AName, ALiteral, AVariable, ASign}
use Rattle.xs_parser.specs.declared.signs.Before.{Before}
use Rattle.xs_parser.specs.declared.signs.Before.TheVariants.{NoOperand, Operand}
use Rattle.xs_parser.specs.Lexing.{is_space, is_quote, passes, first, run, behind, strip, kind, is_operand, Found, found, two, one, of_two, sign_found, pointed, number_found, quoted_in, quoted, literal_found, qname, qualified, unprefixed, operator_named, kind_named, axis_named, target_found, closed, bracketed, colons_at, before_colons, before_bracket, star_at, before_star, operator_found, named, name_found, found_by, begun}
use Rattle.xs_parser.specs.Spelling.{AllPass, Stops, IsName, IsToken, one_sign, two_signs, whole_number, pointed_number, a_literal, a_variable, an_operator, any_of, a_name, an_axis, a_call, a_kind, a_target}
use Rattle.xs_parser.proofs.TokenLemmas.{run-all, behind-all, same-byte, byte-is, qualified-IsName}

started : (k : Kind) (before : Before) (bytes : List ℕ) → kind bytes ≡ k → begun before bytes ≡ found_by k before bytes
unfolding begun
started k before bytes h = ap (λ j. found_by j before bytes) h

-- ---- signs
sign-one : (before after : Before) (b : ℕ) (rest : List ℕ) (t : Token) → two b (first rest) ≡ None → one before b ≡ Some (t, after)
    → sign_found before (b ∷ rest) ≡ Some (found (Ready t) rest after)
sign-one before after b rest t h l =
    ap (of_two before (b ∷ rest)) h ∙ ap (option_map {U = Found} (λ (sign : Token × Before). found (Ready sign.0) rest sign.1)) l

sign-two : (before after : Before) (b c : ℕ) (rest : List ℕ) (t : Token) → two b c ≡ Some (t, after)
    → sign_found before (b ∷ c ∷ rest) ≡ Some (found (Ready t) rest after)
sign-two before after b c rest t h = ap (of_two before (b ∷ c ∷ rest)) h

-- ---- numbers
number-whole : (whole rest bytes : List ℕ) → run Digit bytes ≡ whole → behind Digit bytes ≡ rest → strip 46 rest ≡ None
    → number_found bytes ≡ found (Number whole) rest Operand
number-whole whole rest bytes r d h =
    ap (λ x. pointed x (behind Digit bytes) (strip 46 (behind Digit bytes))) r ∙ ap (λ x. pointed whole x (strip 46 x)) d ∙ ap (pointed whole rest) h

number-pointed : (whole fraction rest more bytes : List ℕ) → run Digit bytes ≡ whole → behind Digit bytes ≡ 46 ∷ more → run Digit more ≡ fraction
    → behind Digit more ≡ rest → number_found bytes ≡ found (Number (whole ++ 46 ∷ fraction)) rest Operand
number-pointed whole fraction rest more bytes r d s e =
    ap (λ x. pointed x (behind Digit bytes) (strip 46 (behind Digit bytes))) r ∙ ap (λ x. pointed whole x (strip 46 x)) d
    ∙ ap (λ x. found (Number (whole ++ 46 ∷ x)) (behind Digit more) Operand) s ∙ ap (λ x. found (Number (whole ++ 46 ∷ fraction)) x Operand) e

point-stops : (bytes : List ℕ) → Stops Digit (46 ∷ bytes)
point-stops bytes = refl

-- ---- literals

quote-is : (q : ℕ) → is_quote q ≡ true → (q ≡ 34) ⊎ (q ≡ 39)
quote-is q h = go (q == 34) refl (q == 39) refl h
  where
    go : (s : Bool) → (q == 34) ≡ s → (t : Bool) → (q == 39) ≡ t → is_quote q ≡ true → (q ≡ 34) ⊎ (q ≡ 39)
    go true e t f h = inl (byte-is q 34 e)
    go false e true f h = inr (byte-is q 39 f)
    go false e false f h = absurd (grind (arith, nat_tests))

quote-kind : (q : ℕ) (bs : List ℕ) → is_quote q ≡ true → kind (q ∷ bs) ≡ ALiteral
quote-kind q bs h =
    elim (quote-is q h) [
      | inl e ↦ subst (λ x. kind (x ∷ bs) ≡ ALiteral) (sym e) refl
      | inr e ↦ subst (λ x. kind (x ∷ bs) ≡ ALiteral) (sym e) refl
    ]

quote-stops : (q : ℕ) (rest : List ℕ) → Stops (Until q) (q ∷ rest)
quote-stops q rest = ap not (same-byte q)

strip-same : (q : ℕ) (rest : List ℕ) → strip q (q ∷ rest) ≡ Some rest
strip-same q rest = ap (λ (t : Bool). if t then Some rest else None) (same-byte q)

quoted-in-is : (q : ℕ) (text rest : List ℕ) → AllPass (Until q) text → quoted_in q (text ++ q ∷ rest) ≡ Some (text, rest)
quoted-in-is q text rest h =
    let r = run-all (Until q) text (q ∷ rest) h (quote-stops q rest) in
    let d = behind-all (Until q) text (q ∷ rest) h (quote-stops q rest) in
    ap (λ x. option_map {U = List ℕ × List ℕ} (λ (more : List ℕ). (x, more)) (strip q (behind (Until q) (text ++ q ∷ rest)))) r
    ∙ ap (λ x. option_map {U = List ℕ × List ℕ} (λ (more : List ℕ). (text, more)) (strip q x)) d
    ∙ ap (option_map {U = List ℕ × List ℕ} (λ (more : List ℕ). (text, more))) (strip-same q rest)

pub quoted-is : (q : ℕ) (text rest : List ℕ) → is_quote q ≡ true → AllPass (Until q) text → quoted (q ∷ (text ++ q ∷ rest)) ≡ Some (text, rest)
quoted-is q text rest is h =
    ap (λ (t : Bool). if t then quoted_in q (text ++ q ∷ rest) else None) is ∙ quoted-in-is q text rest h

-- ---- names
name-first : (before : Before) (bytes rest : List ℕ) (q : QName) → qualified bytes ≡ Some (q, rest) → name_found before bytes ≡ named before q rest
name-first before bytes rest q h = ap (option_and_then (λ (p : QName × List ℕ). named before p.0 p.1)) h

named-operator : (before : Before) (q : QName) (rest : List ℕ) (op : Operator) → is_operand before ≡ true → unprefixed operator_named q ≡ Some op
    → named before q rest ≡ Some (found (Ready (Infix op)) rest NoOperand)
named-operator before q rest op is h =
    ap (λ (t : Bool). if t then operator_found q rest else before_star q rest (star_at rest)) is
    ∙ ap (option_map {U = Found} (λ (o : Operator). found (Ready (Infix o)) rest NoOperand)) h

-- a name that is no operator's and before no star
named-spaced : (before : Before) (q : QName) (rest more : List ℕ) → is_operand before ≡ false → star_at rest ≡ None → behind Space rest ≡ more
    → named before q rest ≡ before_bracket q rest (strip 40 more)
named-spaced before q rest more is none d =
    ap (λ (t : Bool). if t then operator_found q rest else before_star q rest (star_at rest)) is ∙ ap (before_star q rest) none
    ∙ ap (λ x. before_bracket q rest (strip 40 x)) d

no-bracket : (q : QName) (rest more : List ℕ) → behind Space rest ≡ more → strip 40 more ≡ None
    → before_bracket q rest (strip 40 more) ≡ before_colons q rest (colons_at more)
no-bracket q rest more d none = ap (before_bracket q rest) none ∙ ap (λ x. before_colons q rest (colons_at x)) d

space-no-colon : (b : ℕ) → passes Space b ≡ true → (b == 58) ≡ false
space-no-colon b h = grind (arith, nat_tests)

no-star-first : (b : ℕ) (bs : List ℕ) → (b == 58) ≡ false → star_at (b ∷ bs) ≡ None
no-star-first b bs h = ap (λ (t : Bool). if t && first bs == 42 then Some (drop 1 bs) else None) h

-- no star is after white space, or what is no colon
no-star : (spaces : List ℕ) (c : ℕ) (rest : List ℕ) → AllPass Space spaces → star_at (c ∷ rest) ≡ None → star_at (spaces ++ c ∷ rest) ≡ None
no-star [] c rest h none = none
no-star (b ∷ spaces) c rest h none = no-star-first b (spaces ++ c ∷ rest) (space-no-colon b h.0)

-- ---- a name and what is after it
-- a name at the front of bytes
name-starts : (before : Before) (text rest bytes : List ℕ) (q : QName) (o : Option Found) → bytes ≡ text ++ rest → kind bytes ≡ AName → IsName text rest q
    → named before q rest ≡ o → begun before bytes ≡ o
name-starts before text rest bytes q o is k name h =
    started AName before bytes k ∙ ap (name_found before) is ∙ name-first before (text ++ rest) rest q (qualified-IsName text rest q name) ∙ h

any-of-found : (before : Before) (text rest : List ℕ) → is_operand before ≡ false
    → named before (qname [] text) (58 ∷ 42 ∷ rest) ≡ Some (found (AnyOf text) rest Operand)
any-of-found before text rest is =
    ap (λ (t : Bool). if t then operator_found (qname [] text) (58 ∷ 42 ∷ rest) else before_star (qname [] text) (58 ∷ 42 ∷ rest) (star_at (58 ∷ 42 ∷ rest))) is

name-found : (before : Before) (q : QName) (rest : List ℕ) → is_operand before ≡ false → star_at rest ≡ None → strip 40 (behind Space rest) ≡ None
    → colons_at (behind Space rest) ≡ None → named before q rest ≡ Some (found (Named q) rest Operand)
name-found before q rest is none bracket colons =
    named-spaced before q rest (behind Space rest) is none refl ∙ no-bracket q rest (behind Space rest) refl bracket ∙ ap (before_colons q rest) colons

axis-found : (before : Before) (q : QName) (spaces rest : List ℕ) (axis : Axis) → is_operand before ≡ false → AllPass Space spaces
    → unprefixed axis_named q ≡ Some axis
    → named before q (spaces ++ 58 ∷ 58 ∷ rest) ≡ Some (found (Ready (OnAxis axis)) rest NoOperand)
axis-found before q spaces rest axis is blank h =
    let d : behind Space (spaces ++ 58 ∷ 58 ∷ rest) ≡ 58 ∷ 58 ∷ rest = behind-all Space spaces (58 ∷ 58 ∷ rest) blank refl in
    named-spaced before q (spaces ++ 58 ∷ 58 ∷ rest) (58 ∷ 58 ∷ rest) is (no-star spaces 58 (58 ∷ rest) blank refl) d
    ∙ no-bracket q (spaces ++ 58 ∷ 58 ∷ rest) (58 ∷ 58 ∷ rest) d refl
    ∙ ap (option_map {U = Found} (λ (a : Axis). found (Ready (OnAxis a)) rest NoOperand)) h

bracket-found : (before : Before) (q : QName) (spaces inside : List ℕ) → is_operand before ≡ false → AllPass Space spaces
    → named before q (spaces ++ 40 ∷ inside) ≡ bracketed q inside (unprefixed kind_named q)
bracket-found before q spaces inside is blank =
    let d : behind Space (spaces ++ 40 ∷ inside) ≡ 40 ∷ inside = behind-all Space spaces (40 ∷ inside) blank refl in
    named-spaced before q (spaces ++ 40 ∷ inside) (40 ∷ inside) is (no-star spaces 40 inside blank refl) d

call-found : (before : Before) (q : QName) (spaces rest : List ℕ) → is_operand before ≡ false → AllPass Space spaces → unprefixed kind_named q ≡ None
    → named before q (spaces ++ 40 ∷ rest) ≡ Some (found (Called q) rest NoOperand)
call-found before q spaces rest is blank h = bracket-found before q spaces rest is blank ∙ ap (bracketed q rest) h

kind-found : (before : Before) (q : QName) (test : NodeTest) (spaces more rest : List ℕ) → is_operand before ≡ false → AllPass Space spaces
    → AllPass Space more → unprefixed kind_named q ≡ Some test
    → named before q (spaces ++ 40 ∷ (more ++ 41 ∷ rest)) ≡ Some (found (Ready (Test test)) rest Operand)
kind-found before q test spaces more rest is blank white h =
    let d : behind Space (more ++ 41 ∷ rest) ≡ 41 ∷ rest = behind-all Space more (41 ∷ rest) white refl in
    bracket-found before q spaces (more ++ 41 ∷ rest) is blank ∙ ap (bracketed q (more ++ 41 ∷ rest)) h ∙ ap (λ x. closed test x (strip 41 x)) d

quote-stops-space : (q : ℕ) (bs : List ℕ) → is_quote q ≡ true → Stops Space (q ∷ bs)
quote-stops-space q bs h =
    elim (quote-is q h) [
      | inl e ↦ subst (λ x. is_space x ≡ false) (sym e) refl
      | inr e ↦ subst (λ x. is_space x ≡ false) (sym e) refl
    ]

quote-no-end : (q : ℕ) (bs : List ℕ) → is_quote q ≡ true → strip 41 (q ∷ bs) ≡ None
quote-no-end q bs h =
    elim (quote-is q h) [
      | inl e ↦ subst (λ x. strip 41 (x ∷ bs) ≡ None) (sym e) refl
      | inr e ↦ subst (λ x. strip 41 (x ∷ bs) ≡ None) (sym e) refl
    ]

target-is : (target last rest : List ℕ) → AllPass Space last → target_found (Some (target, last ++ 41 ∷ rest)) ≡ Some
    (found (Ready (Test (Target target))) rest Operand)
target-is target last rest h =
    ap (λ x. option_map {U = Found} (λ (more : List ℕ). found (Ready (Test (Target target))) more Operand) (strip 41 x))
    (behind-all Space last (41 ∷ rest) h refl)

target-found : (before : Before) (q : QName) (quote : ℕ) (spaces more target last rest : List ℕ) → is_operand before ≡ false → AllPass Space spaces
    → AllPass Space more → AllPass Space last → is_quote quote ≡ true → AllPass (Until quote) target
    → unprefixed kind_named q ≡ Some Pi → named before q (spaces ++ 40 ∷ (more ++ quote ∷ (target ++ quote ∷ (last ++ 41 ∷ rest)))) ≡ Some
    (found (Ready (Test (Target target))) rest Operand)
target-found before q quote spaces more target last rest is blank white end quotes inside h =
    let literal : List ℕ = quote ∷ (target ++ quote ∷ (last ++ 41 ∷ rest)) in
    let d : behind Space (more ++ literal) ≡ literal = behind-all Space more literal white
    (quote-stops-space quote (target ++ quote ∷ (last ++ 41 ∷ rest)) quotes) in
    bracket-found before q spaces (more ++ literal) is blank ∙ ap (bracketed q (more ++ literal)) h ∙ ap (λ x. closed Pi x (strip 41 x)) d
    ∙ ap (closed Pi literal) (quote-no-end quote (target ++ quote ∷ (last ++ 41 ∷ rest)) quotes)
    ∙ ap target_found (quoted-is quote target (last ++ 41 ∷ rest) quotes inside) ∙ target-is target last rest end

-- ---- the text of a token and what is after it, by their parts
two-parts : (text spaces tail rest : List ℕ) → (text ++ (spaces ++ tail)) ++ rest ≡ text ++ (spaces ++ (tail ++ rest))
two-parts text spaces tail rest = append_assoc text (spaces ++ tail) rest ∙ ap (λ xs. text ++ xs) (append_assoc spaces tail rest)

three-parts : (text spaces more tail rest : List ℕ) → (text ++ (spaces ++ 40 ∷ (more ++ tail))) ++ rest ≡ text ++ (spaces ++ 40 ∷ (more ++ (tail ++ rest)))
three-parts text spaces more tail rest = two-parts text spaces (40 ∷ (more ++ tail)) rest ∙ ap (λ xs. text ++ (spaces ++ 40 ∷ xs)) (append_assoc more tail rest)

target-parts : (target last rest : List ℕ) (quote : ℕ) → (quote ∷ (target ++ quote ∷ (last ++ 41 ∷ []))) ++ rest ≡ quote ∷
    (target ++ quote ∷ (last ++ 41 ∷ rest))
target-parts target last rest quote =
    ap (λ xs. quote ∷ xs) (append_assoc target (quote ∷ (last ++ 41 ∷ [])) rest ∙ ap (λ xs. target ++ quote ∷ xs) (append_assoc last (41 ∷ []) rest))

-- what the rules say is a token is found
pub begun-IsToken : (before : Before) (text rest : List ℕ) (l : Lexeme) (after : Before) → IsToken before text rest l after
    → begun before (text ++ rest) ≡ Some (found l rest after)
begun-IsToken _ _ _ _ _ (one_sign before after b rest t k none is) = started ASign before (b ∷ rest) k ∙ sign-one before after b rest t none is
begun-IsToken _ _ _ _ _ (two_signs before after b c rest t k is) = started ASign before (b ∷ c ∷ rest) k ∙ sign-two before after b c rest t is
begun-IsToken _ _ _ _ _ (whole_number before whole rest k all stops none) =
    started ANumber before (whole ++ rest) k ∙ ap Some (number-whole whole rest (whole ++ rest) (run-all Digit whole rest all stops)
    (behind-all Digit whole rest all stops) none)
begun-IsToken _ _ _ _ _ (pointed_number before whole fraction rest k all more stops) =
    let is : (whole ++ 46 ∷ fraction) ++ rest ≡ whole ++ 46 ∷ (fraction ++ rest) = append_assoc whole (46 ∷ fraction) rest in
    started ANumber before ((whole ++ 46 ∷ fraction) ++ rest) k ∙ ap (λ bytes. Some (number_found bytes)) is
    ∙ ap Some (number-pointed whole fraction rest (fraction ++ rest) (whole ++ 46 ∷ (fraction ++ rest))
    (run-all Digit whole (46 ∷ (fraction ++ rest)) all (point-stops (fraction ++ rest)))
    (behind-all Digit whole (46 ∷ (fraction ++ rest)) all (point-stops (fraction ++ rest)))
    (run-all Digit fraction rest more stops) (behind-all Digit fraction rest more stops))
begun-IsToken _ _ _ _ _ (a_literal before quote text rest is all) =
    started ALiteral before ((quote ∷ (text ++ quote ∷ [])) ++ rest) (quote-kind quote ((text ++ quote ∷ []) ++ rest) is)
    ∙ ap (λ xs. literal_found (quote ∷ xs)) (append_assoc text (quote ∷ []) rest)
    ∙ ap (option_map {U = Found} (λ (q : List ℕ × List ℕ). found (Ready (Atom (Literal q.0))) q.1 Operand)) (quoted-is quote text rest is all)
begun-IsToken _ _ _ _ _ (a_variable before text rest q name) =
    started AVariable before (36 ∷ (text ++ rest)) refl ∙ ap (option_map {U = Found} (λ (p : QName × List ℕ). found (Variable p.0) p.1 Operand))
    (qualified-IsName text rest q name)
begun-IsToken _ _ _ _ _ (an_operator before text rest q op k is name h) =
    name-starts before text rest (text ++ rest) q _ refl k name (named-operator before q rest op is h)
begun-IsToken _ _ _ _ _ (any_of before text rest k is name) =
    name-starts before text (58 ∷ 42 ∷ rest) ((text ++ 58 ∷ 42 ∷ []) ++ rest) (qname [] text) _ (append_assoc text (58 ∷ 42 ∷ []) rest) k name
    (any-of-found before text rest is)
begun-IsToken _ _ _ _ _ (a_name before text rest q k is name star bracket colons) =
    name-starts before text rest (text ++ rest) q _ refl k name (name-found before q rest is star bracket colons)
begun-IsToken _ _ _ _ _ (an_axis before text spaces rest q axis k is name blank h) =
    name-starts before text (spaces ++ 58 ∷ 58 ∷ rest) ((text ++ (spaces ++ 58 ∷ 58 ∷ [])) ++ rest) q _ (two-parts text spaces (58 ∷ 58 ∷ []) rest) k name
    (axis-found before q spaces rest axis is blank h)
begun-IsToken _ _ _ _ _ (a_call before text spaces rest q k is name blank h) =
    name-starts before text (spaces ++ 40 ∷ rest) ((text ++ (spaces ++ 40 ∷ [])) ++ rest) q _ (two-parts text spaces (40 ∷ []) rest) k name
    (call-found before q spaces rest is blank h)
begun-IsToken _ _ _ _ _ (a_kind before text spaces more rest q test k is name blank white h) =
    name-starts before text (spaces ++ 40 ∷ (more ++ 41 ∷ rest)) ((text ++ (spaces ++ 40 ∷ (more ++ 41 ∷ []))) ++ rest) q _
    (three-parts text spaces more (41 ∷ []) rest) k name (kind-found before q test spaces more rest is blank white h)
begun-IsToken _ _ _ _ _ (a_target before text spaces more target last rest quote q k is name blank white end quotes inside h) =
    name-starts before text (spaces ++ 40 ∷ (more ++ quote ∷ (target ++ quote ∷ (last ++ 41 ∷ rest))))
    ((text ++ (spaces ++ 40 ∷ (more ++ quote ∷ (target ++ quote ∷ (last ++ 41 ∷ []))))) ++ rest) q _
    (three-parts text spaces more (quote ∷ (target ++ quote ∷ (last ++ 41 ∷ []))) rest
    ∙ ap (λ xs. text ++ (spaces ++ 40 ∷ (more ++ xs))) (target-parts target last rest quote)) k name
    (target-found before q quote spaces more target last rest is blank white end quotes inside h)
