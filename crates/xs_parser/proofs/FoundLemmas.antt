-- The tokens that the function finds are those that the rules spell.
use Rattle.std.proofs.Common.{◌≡◌, ℕ, ◌<◌, Bool, true, false, List, [], ◌∷◌, ◌++◌, Option, Some, None, option_map, refl, sym, ◌∙◌, ap, subst, inl, inr, lit<, arith, append_assoc}
use Rattle.std.specs.Prelude.{◌==◌, ◌&&◌, ◌||◌, if◌then◌else◌, option_and_then, ◌⊎◌}
use Rattle.std.proofs.lemmas.List.{append-nil}
use Rattle.std.proofs.lemmas.Bool.Decides.{nat_tests}
use Rattle.xs_tree.specs.declared.axes.Axis.{Axis}
use Rattle.xs_xpath.specs.declared.name.NodeTest.{NodeTest}
use Rattle.xs_xpath.specs.declared.name.NodeTest.TheVariants.{Any, Uri, Name, Node, Text, Comment, Pi, Target}
use Rattle.xs_xpath.specs.declared.token.Operator.{Operator}
use Rattle.xs_xpath.specs.declared.token.Atom.TheVariants.{Literal}
use Rattle.xs_xpath.specs.Digits.{is_digit}
use Rattle.xs_xpath.specs.Names.{is_nil}
use Rattle.xs_parser.specs.declared.token.QName.{QName}
use Rattle.xs_parser.specs.declared.token.Token.{Token}
use Rattle.xs_parser.specs.declared.token.Token.TheVariants.{Infix, OnAxis, Test, Atom}
use Rattle.xs_parser.specs.declared.token.Lexeme.TheVariants.{Ready, AnyOf, Named, Called, Variable}
use Rattle.xs_parser.specs.declared.bytes.Class.TheVariants.{Space, Digit, Until}
use Rattle.xs_parser.specs.declared.bytes.Kind.{Kind}
use Rattle.xs_parser.specs.declared.bytes.Kind.TheVariants.{ANumber, AName, ALiteral, AVariable, ASign}
use Rattle.xs_parser.specs.declared.signs.Before.{Before}
use Rattle.xs_parser.specs.declared.signs.Before.TheVariants.{NoOperand, Operand}
use Rattle.xs_parser.specs.Lexing.{is_quote, starts_name, first, second, run, behind, strip, kind, is_operand, Found, found, two, one, of_two, sign_found, pointed, number_found, quoted_in, quoted, literal_found, qname, qualified, variable_found, unprefixed, operator_named, kind_named, axis_named, is_pi, target_found, closed, bracketed, colons_at, before_colons, before_bracket, star_at, before_star, operator_found, named, name_found, found_by, begun}
use Rattle.xs_parser.specs.Spelling.{AllPass, IsName, IsToken, one_sign, two_signs, whole_number, pointed_number, a_literal, a_variable, an_operator, any_of, a_name, an_axis, a_call, a_kind, a_target}
use Rattle.xs_parser.proofs.TokenLemmas.{none-some, some-same, runs, byte-is, strip-some, pair-at, qualified-sound, unprefixed-name}

map-some : {A B : Type 0} (f : A → B) (o : Option A) (b : B) → option_map f o ≡ Some b → (a : A) × (o ≡ Some a) × (f a ≡ b)
map-some f None b h = absurd (none-some b h)
map-some f (Some a) b h = (a, refl, some-same (f a) b h)

and-then-some : {A B : Type 0} (f : A → Option B) (o : Option A) (b : B) → option_and_then f o ≡ Some b → (a : A) × (o ≡ Some a) × (f a ≡ Some b)
and-then-some f None b h = absurd (none-some b h)
and-then-some f (Some a) b h = (a, refl, h)

-- a text before what is left is a token by the rules
abbrev pub Reported : Before → List ℕ → Found → Type 0
Reported before bytes f = (text : List ℕ) × (bytes ≡ text ++ f.rest) × IsToken before text f.rest f.lexeme f.after

-- ---- signs
chosen : {A : Type 0} (t : Bool) (a : A) (o : Option A) (b : A) → (if t then Some a else o) ≡ Some b → (t ≡ true) ⊎ (o ≡ Some b)
chosen true a o b h = inl refl
chosen false a o b h = inr h

both-true : (a b : Bool) → (a && b) ≡ true → (a ≡ true) × (b ≡ true)
both-true true b h = (refl, h)
both-true false b h = absurd (cc)

second-some : (b c x y : ℕ) → 0 < y → (b == x && c == y) ≡ true → 0 < c
second-some b c x y some h =
    let e : c ≡ y = byte-is c y ((both-true (b == x) (c == y) h).1) in
    subst (λ n. 0 < n) (sym e) some

-- a token of two bytes has a second byte
two-some : (b c : ℕ) (sign : Token × Before) → two b c ≡ Some sign → 0 < c
two-some b c sign h =
    elim (chosen (b == 47 && c == 47) _ _ sign h) [
      | inl e ↦ second-some b c 47 47 (lit< tt) e
      | inr g ↦ elim (chosen (b == 46 && c == 46) _ _ sign g) [
        | inl e ↦ second-some b c 46 46 (lit< tt) e
        | inr i ↦ elim (chosen (b == 33 && c == 61) _ _ sign i) [
          | inl e ↦ second-some b c 33 61 (lit< tt) e
          | inr j ↦ elim (chosen (b == 60 && c == 61) _ _ sign j) [
            | inl e ↦ second-some b c 60 61 (lit< tt) e
            | inr l ↦ elim (chosen (b == 62 && c == 61) _ _ sign l) [
              | inl e ↦ second-some b c 62 61 (lit< tt) e
              | inr n ↦ absurd (none-some sign n)
            ]
          ]
        ]
      ]
    ]

two-reported : (before : Before) (b : ℕ) (bs : List ℕ) (sign : Token × Before) (f : Found) → kind (b ∷ bs) ≡ ASign → two b (first bs) ≡ Some sign
    → of_two before (b ∷ bs) (Some sign) ≡ Some f → Reported before (b ∷ bs) f
two-reported before b [] sign f k e h = let some : 0 < 0 = two-some b 0 sign e in absurd (omega arith)
two-reported before b (c ∷ cs) sign f k e h =
    subst (Reported before (b ∷ c ∷ cs)) (some-same (found (Ready sign.0) cs sign.1) f h) (b ∷ c ∷ [], refl, two_signs before sign.1 b c cs sign.0 k e)

sign-reported : (before : Before) (bytes : List ℕ) (f : Found) → kind bytes ≡ ASign → sign_found before bytes ≡ Some f → Reported before bytes f
sign-reported before [] f k h = absurd (none-some f h)
sign-reported before (b ∷ bs) f k h = go (two b (first bs)) refl h
  where
    go : (o : Option (Token × Before)) → two b (first bs) ≡ o → of_two before (b ∷ bs) o ≡ Some f → Reported before (b ∷ bs) f
    go None e g =
        let m = map-some (λ (sign : Token × Before). found (Ready sign.0) bs sign.1) (one before b) f g in
        subst (Reported before (b ∷ bs)) m.2 (b ∷ [], refl, one_sign before m.0.1 b bs m.0.0 k e m.1)
    go (Some sign) e g = two-reported before b bs sign f k e g

-- ---- numbers
number-reported : (before : Before) (bytes : List ℕ) → kind bytes ≡ ANumber → Reported before bytes (number_found bytes)
number-reported before bytes k = go (strip 46 (behind Digit bytes)) refl
  where
    go : (o : Option (List ℕ)) → strip 46 (behind Digit bytes) ≡ o → Reported before bytes (pointed (run Digit bytes) (behind Digit bytes) o)
    go None e =
        let r = runs Digit bytes in
        (run Digit bytes, r.whole, whole_number before (run Digit bytes) (behind Digit bytes) (subst (λ all. kind all ≡ ANumber) r.whole k) r.all r.stops e)
    go (Some more) e =
        let r = runs Digit bytes in
        let s = runs Digit more in
        let whole : bytes ≡ (run Digit bytes ++ 46 ∷ run Digit more) ++ behind Digit more =
        r.whole ∙ ap (λ xs. run Digit bytes ++ xs) (strip-some 46 (behind Digit bytes) more (lit< tt) e ∙ ap (λ xs. 46 ∷ xs) s.whole)
        ∙ sym (append_assoc (run Digit bytes) (46 ∷ run Digit more) (behind Digit more)) in (
          run Digit bytes ++ 46 ∷ run Digit more,
          whole,
          pointed_number before (run Digit bytes) (run Digit more) (behind Digit more)
              (subst (λ all. kind all ≡ ANumber) whole k) r.all s.all s.stops,
        )

-- ---- literals
quote-some : (q : ℕ) → is_quote q ≡ true → 0 < q
quote-some q h = grind (arith, nat_tests)

if-true : {A : Type 0} (t : Bool) (o : Option A) (a : A) → (if t then o else None) ≡ Some a → (t ≡ true) × (o ≡ Some a)
if-true true o a h = (refl, h)
if-true false o a h = absurd (none-some a h)

-- a literal and what is after it
abbrev QuoteReported : List ℕ → List ℕ × List ℕ → Type 0
QuoteReported bytes q = (quote : ℕ) × (is_quote quote ≡ true) × (bytes ≡ quote ∷ (q.0 ++ quote ∷ q.1)) × AllPass (Until quote) q.0

quoted-sound : (bytes : List ℕ) (q : List ℕ × List ℕ) → quoted bytes ≡ Some q → QuoteReported bytes q
quoted-sound [] q h = absurd (none-some q h)
quoted-sound (b ∷ bs) q h =
    let t = if-true (is_quote b) (quoted_in b bs) q h in
    let m = map-some {B = List ℕ × List ℕ} (λ (rest : List ℕ). (run (Until b) bs, rest)) (strip b (behind (Until b) bs)) q t.1 in
    let r = runs (Until b) bs in
    let is : bs ≡ run (Until b) bs ++ b ∷ m.0 = r.whole ∙ ap (λ xs. run (Until b) bs ++ xs) (strip-some b (behind (Until b) bs) m.0 (quote-some b t.0) m.1) in
    subst (QuoteReported (b ∷ bs)) m.2 (b, t.0, ap (λ xs. b ∷ xs) is, r.all)

literal-reported : (before : Before) (bytes : List ℕ) (f : Found) → literal_found bytes ≡ Some f → Reported before bytes f
literal-reported before bytes f h =
    let m = map-some (λ (q : List ℕ × List ℕ). found (Ready (Atom (Literal q.0))) q.1 Operand) (quoted bytes) f h in
    let q = quoted-sound bytes m.0 m.1 in
    subst (Reported before bytes) m.2 (
      q.0 ∷ (m.0.0 ++ q.0 ∷ []),
      q.2 ∙ sym
          (ap (λ xs. q.0 ∷ xs) (append_assoc m.0.0 (q.0 ∷ []) m.0.1)),
      a_literal before q.0 m.0.0 m.0.1 q.1 q.3,
    )

-- ---- variables
dollar : (s d q v : Bool) → (if s then AName else if d then ANumber else if q then ALiteral else if v then AVariable else ASign) ≡ AVariable → v ≡ true
dollar true d q v h = absurd (cc)
dollar false true q v h = absurd (cc)
dollar false false true v h = absurd (cc)
dollar false false false true h = refl
dollar false false false false h = absurd (cc)

pub kind-dollar : (bytes : List ℕ) → kind bytes ≡ AVariable → first bytes ≡ 36
kind-dollar bytes k =
    byte-is (first bytes) 36 (dollar (starts_name (first bytes)) (is_digit (first bytes) || (first bytes == 46 && is_digit (second bytes)))
    (is_quote (first bytes)) (first bytes == 36) k)

variable-reported : (before : Before) (bytes : List ℕ) (f : Found) → kind bytes ≡ AVariable → variable_found bytes ≡ Some f → Reported before bytes f
variable-reported before [] f k h = absurd (cc)
variable-reported before (b ∷ bs) f k h =
    let m = map-some (λ (q : QName × List ℕ). found (Variable q.0) q.1 Operand) (qualified bs) f h in
    let n = qualified-sound bs m.0 m.1 in
    let is : b ≡ 36 = kind-dollar (b ∷ bs) k in
    subst (Reported before (b ∷ bs)) m.2 (36 ∷ n.0, ap (λ x. x ∷ bs) is ∙ ap (λ xs. 36 ∷ xs) n.1, a_variable before n.0 m.0.1 m.0.0 n.2)

-- ---- names
-- what was found after a name, where the name and what is after it are all the bytes
abbrev Behind : Before → List ℕ → List ℕ → Found → Type 0
Behind before text rest f = (more : List ℕ) × (rest ≡ more ++ f.rest) × IsToken before (text ++ more) f.rest f.lexeme f.after

operator-reported : (before : Before) (text rest : List ℕ) (q : QName) (f : Found) → kind (text ++ rest) ≡ AName → IsName text rest q → is_operand before ≡ true
    → operator_found q rest ≡ Some f → Behind before text rest f
operator-reported before text rest q f k name is h =
    let m = map-some (λ (op : Operator). found (Ready (Infix op)) rest NoOperand) (unprefixed operator_named q) f h in
    subst (Behind before text rest) m.2 (
      [],
      refl,
      subst (λ t. IsToken before t rest (Ready (Infix m.0)) NoOperand) (sym (append-nil text))
          (an_operator before text rest q m.0 k is name m.1),
    )

name-parts : (text rest more : List ℕ) (xs : List ℕ) → rest ≡ more ++ xs → text ++ rest ≡ (text ++ more) ++ xs
name-parts text rest more xs h = ap (λ ys. text ++ ys) h ∙ sym (append_assoc text more xs)

star-reported : (before : Before) (text rest : List ℕ) (q : QName) (more : List ℕ) (f : Found) → kind (text ++ rest) ≡ AName → IsName text rest q
    → is_operand before ≡ false → star_at rest ≡ Some more
    → (if is_nil q.prefix then Some (found (AnyOf q.local) more Operand) else None) ≡ Some f → Behind before text rest f
star-reported before text rest q more f k name is star h =
    let t = if-true (is_nil q.prefix) (Some (found (AnyOf q.local) more Operand)) f h in
    let own : q ≡ qname [] text = unprefixed-name text rest q name t.0 in
    let parts : rest ≡ 58 ∷ 42 ∷ more = pair-at 58 42 rest more (lit< tt) (lit< tt) star in
    let same : found (AnyOf text) more Operand ≡ f = ap (λ (p : QName). found (AnyOf p.local) more Operand) (sym own)
    ∙ some-same (found (AnyOf q.local) more Operand) f t.1 in
    let n : IsName text (58 ∷ 42 ∷ more) (qname [] text) = subst (IsName text (58 ∷ 42 ∷ more)) own (subst (λ r. IsName text r q) parts name) in
    let kinds : kind ((text ++ 58 ∷ 42 ∷ []) ++ more) ≡ AName = subst (λ all. kind all ≡ AName) (name-parts text rest (58 ∷ 42 ∷ []) more parts) k in
    subst (Behind before text rest) same (58 ∷ 42 ∷ [], parts, any_of before text more kinds is n)

-- white space, and what is after it
abbrev Blank : List ℕ → List ℕ → Type 0
Blank rest more = (spaces : List ℕ) × (rest ≡ spaces ++ more) × AllPass Space spaces

blank : (rest more : List ℕ) → behind Space rest ≡ more → Blank rest more
blank rest more h =
    let r = runs Space rest in
    (run Space rest, r.whole ∙ ap (λ xs. run Space rest ++ xs) h, r.all)

colons-reported : (before : Before) (text rest : List ℕ) (q : QName) (f : Found) → kind (text ++ rest) ≡ AName → IsName text rest q → is_operand before ≡ false
    → star_at rest ≡ None → strip 40 (behind Space rest) ≡ None
    → before_colons q rest (colons_at (behind Space rest)) ≡ Some f → Behind before text rest f
colons-reported before text rest q f k name is star bracket h = go (colons_at (behind Space rest)) refl h
  where
    go : (o : Option (List ℕ)) → colons_at (behind Space rest) ≡ o → before_colons q rest o ≡ Some f → Behind before text rest f
    go None e g =
        subst (Behind before text rest) (some-same (found (Named q) rest Operand) f g)
        ([], refl, subst (λ t. IsToken before t rest (Named q) Operand) (sym (append-nil text)) (a_name before text rest q k is name star bracket e))
    go (Some step) e g =
        let m = map-some (λ (axis : Axis). found (Ready (OnAxis axis)) step NoOperand) (unprefixed axis_named q) f g in
        let b = blank rest (58 ∷ 58 ∷ step) (pair-at 58 58 (behind Space rest) step (lit< tt) (lit< tt) e) in
        let parts : rest ≡ (b.0 ++ 58 ∷ 58 ∷ []) ++ step = b.1 ∙ sym (append_assoc b.0 (58 ∷ 58 ∷ []) step) in
        let kinds : kind ((text ++ (b.0 ++ 58 ∷ 58 ∷ [])) ++ step) ≡ AName = subst (λ all. kind all ≡ AName)
        (name-parts text rest (b.0 ++ 58 ∷ 58 ∷ []) step parts) k in
        subst (Behind before text rest) m.2 (
          b.0 ++ 58 ∷ 58 ∷ [],
          parts,
          an_axis before text b.0 step q m.0 kinds is
              (subst (λ r. IsName text r q) b.1 name) b.2 m.1,
        )

pi-is : (which : NodeTest) → is_pi which ≡ true → which ≡ Pi
pi-is Any h = absurd (cc)
pi-is (Uri uri) h = absurd (cc)
pi-is (Name uri local) h = absurd (cc)
pi-is Node h = absurd (cc)
pi-is Text h = absurd (cc)
pi-is Comment h = absurd (cc)
pi-is Pi h = refl
pi-is (Target target) h = absurd (cc)

-- a bracket after a name, and what is after it
bracket-reported : (before : Before) (text rest spaces inside : List ℕ) (q : QName) (f : Found) → kind (text ++ rest) ≡ AName → IsName text rest q
    → is_operand before ≡ false → rest ≡ spaces ++ 40 ∷ inside → AllPass Space spaces
    → bracketed q inside (unprefixed kind_named q) ≡ Some f → Behind before text rest f
bracket-reported before text rest spaces inside q f k name is whole white h = go (unprefixed kind_named q) refl h
  where
    call-reported : unprefixed kind_named q ≡ None → found (Called q) inside NoOperand ≡ f → Behind before text rest f
    call-reported e same =
        let parts : rest ≡ (spaces ++ 40 ∷ []) ++ inside = whole ∙ sym (append_assoc spaces (40 ∷ []) inside) in
        let kinds : kind ((text ++ (spaces ++ 40 ∷ [])) ++ inside) ≡ AName = subst (λ all. kind all ≡ AName)
        (name-parts text rest (spaces ++ 40 ∷ []) inside parts) k in
        subst (Behind before text rest) same (
          spaces ++ 40 ∷ [],
          parts,
          a_call before text spaces inside q kinds is
              (subst (λ r. IsName text r q) whole name) white e,
        )

    kind-reported : (which : NodeTest) (end : List ℕ) → unprefixed kind_named q ≡ Some which → strip 41 (behind Space inside) ≡ Some end
        → found (Ready (Test which)) end Operand ≡ f → Behind before text rest f
    kind-reported which end e s same =
        let b = blank inside (41 ∷ end) (strip-some 41 (behind Space inside) end (lit< tt) s) in
        let all : rest ≡ spaces ++ 40 ∷ (b.0 ++ 41 ∷ end) = whole ∙ ap (λ xs. spaces ++ 40 ∷ xs) b.1 in
        let parts : rest ≡ (spaces ++ 40 ∷ (b.0 ++ 41 ∷ [])) ++ end = all
        ∙ sym (append_assoc spaces (40 ∷ (b.0 ++ 41 ∷ [])) end ∙ ap (λ xs. spaces ++ 40 ∷ xs) (append_assoc b.0 (41 ∷ []) end)) in
        let kinds : kind ((text ++ (spaces ++ 40 ∷ (b.0 ++ 41 ∷ []))) ++ end) ≡ AName = subst (λ all. kind all ≡ AName)
        (name-parts text rest (spaces ++ 40 ∷ (b.0 ++ 41 ∷ [])) end parts) k in
        subst (Behind before text rest) same (
          spaces ++ 40 ∷ (b.0 ++ 41 ∷ []),
          parts,
          a_kind before text spaces b.0 end q which kinds is
              (subst (λ r. IsName text r q) all name) white b.2 e,
        )

    target-reported : (p : List ℕ × List ℕ) (end : List ℕ) → unprefixed kind_named q ≡ Some Pi → quoted (behind Space inside) ≡ Some p
        → strip 41 (behind Space p.1) ≡ Some end → found (Ready (Test (Target p.0))) end Operand ≡ f → Behind before text rest f
    target-reported p end e l s same =
        let t = quoted-sound (behind Space inside) p l in
        let b = blank inside (t.0 ∷ (p.0 ++ t.0 ∷ p.1)) t.2 in
        let c = blank p.1 (41 ∷ end) (strip-some 41 (behind Space p.1) end (lit< tt) s) in
        let all : rest ≡ spaces ++ 40 ∷ (b.0 ++ t.0 ∷ (p.0 ++ t.0 ∷ (c.0 ++ 41 ∷ end))) =
        whole ∙ ap (λ xs. spaces ++ 40 ∷ xs) (b.1 ∙ ap (λ xs. b.0 ++ t.0 ∷ (p.0 ++ t.0 ∷ xs)) c.1) in
        let mine : List ℕ = spaces ++ 40 ∷ (b.0 ++ t.0 ∷ (p.0 ++ t.0 ∷ (c.0 ++ 41 ∷ []))) in
        let back : mine ++ end ≡ spaces ++ 40 ∷ (b.0 ++ t.0 ∷ (p.0 ++ t.0 ∷ (c.0 ++ 41 ∷ end))) =
        append_assoc spaces (40 ∷ (b.0 ++ t.0 ∷ (p.0 ++ t.0 ∷ (c.0 ++ 41 ∷ [])))) end
        ∙ ap (λ xs. spaces ++ 40 ∷ xs) (append_assoc b.0 (t.0 ∷ (p.0 ++ t.0 ∷ (c.0 ++ 41 ∷ []))) end
        ∙ ap (λ xs. b.0 ++ t.0 ∷ xs) (append_assoc p.0 (t.0 ∷ (c.0 ++ 41 ∷ [])) end ∙ ap (λ xs. p.0 ++ t.0 ∷ xs) (append_assoc c.0 (41 ∷ []) end))) in
        let parts : rest ≡ mine ++ end = all ∙ sym back in
        let kinds : kind ((text ++ mine) ++ end) ≡ AName = subst (λ all. kind all ≡ AName) (name-parts text rest mine end parts) k in
        subst (Behind before text rest) same (
          mine,
          parts,
          a_target before text spaces b.0 p.0 c.0 end t.0 q kinds is
              (subst (λ r. IsName text r q) all name) white b.2 c.2 t.1 t.3 e,
        )

    inner : (which : NodeTest) → unprefixed kind_named q ≡ Some which → (o : Option (List ℕ)) → strip 41 (behind Space inside) ≡ o
        → closed which (behind Space inside) o ≡ Some f → Behind before text rest f
    inner which e (Some end) s g = kind-reported which end e s (some-same (found (Ready (Test which)) end Operand) f g)
    inner which e None s g =
        let t = if-true (is_pi which) (target_found (quoted (behind Space inside))) f g in
        last (quoted (behind Space inside)) refl (e ∙ ap Some (pi-is which t.0)) t.1
      where
        last : (o : Option (List ℕ × List ℕ)) → quoted (behind Space inside) ≡ o → unprefixed kind_named q ≡ Some Pi → target_found o ≡ Some f
            → Behind before text rest f
        last None l e g = absurd (none-some f g)
        last (Some p) l e g =
            let m = map-some (λ (end : List ℕ). found (Ready (Test (Target p.0))) end Operand) (strip 41 (behind Space p.1)) f g in
            target-reported p m.0 e l m.1 m.2

    go : (o : Option NodeTest) → unprefixed kind_named q ≡ o → bracketed q inside o ≡ Some f → Behind before text rest f
    go None e g = call-reported e (some-same (found (Called q) inside NoOperand) f g)
    go (Some which) e g = inner which e (strip 41 (behind Space inside)) refl g

spaced-reported : (before : Before) (text rest : List ℕ) (q : QName) (f : Found) → kind (text ++ rest) ≡ AName → IsName text rest q → is_operand before ≡ false
    → star_at rest ≡ None → before_bracket q rest (strip 40 (behind Space rest)) ≡ Some f → Behind before text rest f
spaced-reported before text rest q f k name is star h = go (strip 40 (behind Space rest)) refl h
  where
    go : (o : Option (List ℕ)) → strip 40 (behind Space rest) ≡ o → before_bracket q rest o ≡ Some f → Behind before text rest f
    go None e g = colons-reported before text rest q f k name is star e g
    go (Some inside) e g =
        let b = blank rest (40 ∷ inside) (strip-some 40 (behind Space rest) inside (lit< tt) e) in
        bracket-reported before text rest b.0 inside q f k name is b.1 b.2 g

named-reported : (before : Before) (text rest : List ℕ) (q : QName) (f : Found) → kind (text ++ rest) ≡ AName → IsName text rest q → named before q rest
    ≡ Some f
    → Behind before text rest f
named-reported before text rest q f k name h = go (is_operand before) refl h
  where
    star : is_operand before ≡ false → (o : Option (List ℕ)) → star_at rest ≡ o → before_star q rest o ≡ Some f → Behind before text rest f
    star is None e g = spaced-reported before text rest q f k name is e g
    star is (Some more) e g = star-reported before text rest q more f k name is e g

    go : (t : Bool) → is_operand before ≡ t → (if t then operator_found q rest else before_star q rest (star_at rest)) ≡ Some f → Behind before text rest f
    go true e g = operator-reported before text rest q f k name e g
    go false e g = star e (star_at rest) refl g

name-reported : (before : Before) (bytes : List ℕ) (f : Found) → kind bytes ≡ AName → name_found before bytes ≡ Some f → Reported before bytes f
name-reported before bytes f k h =
    let m = and-then-some (λ (q : QName × List ℕ). named before q.0 q.1) (qualified bytes) f h in
    let n = qualified-sound bytes m.0 m.1 in
    let b = named-reported before n.0 m.0.1 m.0.0 f (subst (λ all. kind all ≡ AName) n.1 k) n.2 m.2 in
    (n.0 ++ b.0, n.1 ∙ name-parts n.0 m.0.1 b.0 f.rest b.1, b.2)

-- what is found is a token by the rules
pub IsToken-begun : (before : Before) (bytes : List ℕ) (f : Found) → begun before bytes ≡ Some f → Reported before bytes f
unfolding begun
IsToken-begun before bytes f h = go (kind bytes) refl h
  where
    go : (k : Kind) → kind bytes ≡ k → found_by k before bytes ≡ Some f → Reported before bytes f
    go AName e g = name-reported before bytes f e g
    go ANumber e g = subst (Reported before bytes) (some-same (number_found bytes) f g) (number-reported before bytes e)
    go ALiteral e g = literal-reported before bytes f g
    go AVariable e g = variable-reported before bytes f e g
    go ASign e g = sign-reported before bytes f e g
