-- Operands as they are kept to be compared as strings.
use Rattle.std.proofs.Common.{◌≡◌, ℕ, ◌<◌, Bool, true, false, ◌||◌, List, [], ◌∷◌, length, Result, Ok, Err, IfOk, refl, sym, ◌∙◌, ap, arith, subst, cond, eqb}
use Rattle.std.proofs.lemmas.Bool.{eqb-false}
use Rattle.std.specs.List.{All}
use Rattle.xs_num.specs.declared.number.NumFault.{NumFault}
use Rattle.xs_tree.specs.Record.{Record}
use Rattle.xs_value.specs.Comparison.{compared, is_boolean, is_numeral, is_ordering}
use Rattle.xs_value.specs.Conversion.{IsIn}
use Rattle.xs_value.specs.declared.comparison.CompareOp.{CompareOp}
use Rattle.xs_value.specs.declared.comparison.CompareOp.TheVariants.{Eq, Ne, Lt, Le, Gt, Ge}
use Rattle.xs_value.specs.declared.comparison.ComparedAs.TheVariants.{BesideBoolean, Numbers as AsNumbers, Strings as AsStrings}
use Rattle.xs_value.specs.declared.comparison.texts.Texts.{Texts}
use Rattle.xs_value.specs.declared.comparison.texts.Texts.TheVariants as texts
use Rattle.xs_value.specs.declared.value.Value.{Value}
use Rattle.xs_value.specs.declared.value.Value.TheVariants.{Bool as Boolean, Number as Numeral, Chars, Nodes, Piece}
use Rattle.xs_value.specs.steps.Operands.{AreTextsIn, KeepsTexts, compared_as, kept_texts, node_texts, some_different, some_equal, texts_of}
use Rattle.xs_value.proofs.ComparisonLemmas.{as_texts}

kept-are : (rs : List Record) (v : Value) (k : Texts) → KeepsTexts v k → kept_texts rs k ≡ texts_of rs v
kept-are rs (Boolean b) k h = absurd h
kept-are rs (Numeral n) k h = absurd h
kept-are rs (Chars t) (texts.One x) h = ap (λ z. z ∷ []) h
kept-are rs (Chars t) (texts.Nodes ks) h = absurd h
kept-are rs (Nodes ns) (texts.One x) h = absurd h
kept-are rs (Nodes ns) (texts.Nodes ks) h = ap (node_texts rs) h
kept-are rs (Piece es) (texts.One x) h = ap (λ z. z ∷ []) h
kept-are rs (Piece es) (texts.Nodes ks) h = absurd h

pub kept-in : (rs : List Record) (v : Value) (k : Texts) → KeepsTexts v k → IsIn rs v → AreTextsIn rs k
kept-in rs (Boolean b) k h i = absurd h
kept-in rs (Numeral n) k h i = absurd h
kept-in rs (Chars t) (texts.One x) h i = tt
kept-in rs (Chars t) (texts.Nodes ks) h i = absurd h
kept-in rs (Nodes ns) (texts.One x) h i = absurd h
kept-in rs (Nodes ns) (texts.Nodes ks) h i = subst (All (λ n. n < length rs)) (sym h) i
kept-in rs (Piece es) (texts.One x) h i = tt
kept-in rs (Piece es) (texts.Nodes ks) h i = absurd h

-- what is known of values that are compared as strings
record AsTexts (op : CompareOp) (a b : Value) : Type 0 where
  pub left : is_boolean a ≡ false
  pub right : is_boolean b ≡ false
  pub equality : is_ordering op ≡ false
  pub left_string : is_numeral a ≡ false
  pub right_string : is_numeral b ≡ false

text-facts : (op : CompareOp) (a b : Value) → compared_as op a b ≡ AsStrings → AsTexts op a b
text-facts op a b h =
    let f = which (is_boolean a) (is_boolean b) (is_ordering op) (is_numeral a) (is_numeral b) h in
    record { left = f.0; right = f.1; equality = f.2; left_string = f.3; right_string = f.4 }
  where
    which : (x y o m n : Bool) → cond (x || y) BesideBoolean (cond (o || (m || n)) AsNumbers AsStrings) ≡ AsStrings
        → (x ≡ false) × (y ≡ false) × (o ≡ false) × (m ≡ false) × (n ≡ false)
    which true y o m n e = absurd (cc)
    which false true o m n e = absurd (cc)
    which false false true m n e = absurd (cc)
    which false false false true n e = absurd (cc)
    which false false false false true e = absurd (cc)
    which false false false false false e = (refl, refl, refl, refl, refl)

pub compared-equal : (rs : List Record) (op : CompareOp) (a b : Value) (l r : Texts) → compared_as op a b ≡ AsStrings → op ≡ Eq → KeepsTexts a l
    → KeepsTexts b r
    → compared rs op a b ≡ Ok (some_equal (kept_texts rs l) (kept_texts rs r))
compared-equal rs Eq a b l r h e k j =
    let f = text-facts Eq a b h in
    as_texts rs Eq a b f.left f.right f.equality f.left_string f.right_string
    ∙ ap (λ xs. Ok (some_equal xs (texts_of rs b))) (sym (kept-are rs a l k)) ∙ ap (λ ys. Ok (some_equal (kept_texts rs l) ys)) (sym (kept-are rs b r j))
compared-equal rs Ne a b l r h e k j = absurd (cc)
compared-equal rs Lt a b l r h e k j = absurd (cc)
compared-equal rs Le a b l r h e k j = absurd (cc)
compared-equal rs Gt a b l r h e k j = absurd (cc)
compared-equal rs Ge a b l r h e k j = absurd (cc)

ordered : (op : CompareOp) (a b : Value) → compared_as op a b ≡ AsStrings → is_ordering op ≡ true → ⊥
ordered op a b h o = let f : is_ordering op ≡ false = (text-facts op a b h).equality in cc

pub compared-different : (rs : List Record) (op : CompareOp) (a b : Value) (l r : Texts) → compared_as op a b ≡ AsStrings → (op ≡ Eq → ⊥) → KeepsTexts a l
    → KeepsTexts b r
    → compared rs op a b ≡ Ok (some_different (kept_texts rs l) (kept_texts rs r))
compared-different rs Eq a b l r h e k j = absurd (e refl)
compared-different rs Ne a b l r h e k j =
    let f = text-facts Ne a b h in
    as_texts rs Ne a b f.left f.right f.equality f.left_string f.right_string
    ∙ ap (λ xs. Ok (some_different xs (texts_of rs b))) (sym (kept-are rs a l k))
    ∙ ap (λ ys. Ok (some_different (kept_texts rs l) ys)) (sym (kept-are rs b r j))
compared-different rs Lt a b l r h e k j = absurd (ordered Lt a b h refl)
compared-different rs Le a b l r h e k j = absurd (ordered Le a b h refl)
compared-different rs Gt a b l r h e k j = absurd (ordered Gt a b h refl)
compared-different rs Ge a b l r h e k j = absurd (ordered Ge a b h refl)

-- an answer of what is expected
pub ok-holds : {E : Type 0} (r : Result Bool E) (of : Result Bool NumFault) (b : Bool) → of ≡ Ok b → IfOk r (λ h. h ≡ b) → IfOk r (λ h. of ≡ Ok h)
ok-holds (Ok x) of b e h = e ∙ ap (λ (z : Bool). Ok z) (sym h)
ok-holds (Err x) of b e h = tt

pub ok-same : {E : Type 0} (r : Result Bool E) (a b : Bool) → a ≡ b → IfOk r (λ h. h ≡ a) → IfOk r (λ h. h ≡ b)
ok-same (Ok x) a b e h = h ∙ e
ok-same (Err x) a b e h = tt

pub some-length : (n : ℕ) → false ≡ eqb n 0 → 0 < n
some-length n e = let f : n ≡ 0 → ⊥ = eqb-false n 0 (sym e) in omega (arith, f)
