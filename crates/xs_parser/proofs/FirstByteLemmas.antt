-- A token has a first byte.
use Rattle.std.proofs.Common.{◌≡◌, ◌≢◌, ℕ, Bool, true, false, List, [], ◌∷◌, ◌++◌, Some, None, refl, sym, ◌∙◌, ap, subst}
use Rattle.std.specs.Prelude.{◌==◌, ◌&&◌, ◌||◌, if◌then◌else◌}
use Rattle.xs_xpath.specs.Digits.{is_digit}
use Rattle.xs_parser.specs.declared.token.Lexeme.{Lexeme}
use Rattle.xs_parser.specs.declared.bytes.Class.TheVariants.{Digit}
use Rattle.xs_parser.specs.declared.bytes.Kind.TheVariants.{ANumber, AName, ALiteral, AVariable, ASign}
use Rattle.xs_parser.specs.declared.signs.Before.{Before}
use Rattle.xs_parser.specs.Lexing.{is_quote, starts_name, first, strip, kind}
use Rattle.xs_parser.specs.Spelling.{Stops, IsToken, one_sign, two_signs, whole_number, pointed_number, a_literal, a_variable, an_operator, any_of, a_name, an_axis, a_call, a_kind, a_target}
use Rattle.xs_parser.proofs.TokenLemmas.{name-some}

nil-append : (xs ys : List ℕ) → ys ≢ [] → xs ++ ys ≢ []
nil-append [] ys h = h
nil-append (x ∷ xs) ys h = λ e. cc

text-append : (xs ys : List ℕ) → xs ≢ [] → xs ++ ys ≢ []
text-append [] ys h = absurd (h refl)
text-append (x ∷ xs) ys h = λ e. cc

no-number : (s d q v : Bool) → s ≡ false → d ≡ false
    → (if s then AName else if d then ANumber else if q then ALiteral else if v then AVariable else ASign) ≡ ANumber → ⊥
no-number true d q v e g h = cc
no-number false true q v e g h = cc
no-number false false true v e g h = cc
no-number false false false true e g h = cc
no-number false false false false e g h = cc

-- digits that stop at once, with no point after them, are no number
whole-some : (rest : List ℕ) → kind rest ≡ ANumber → ((b : ℕ) (bs : List ℕ) → rest ≡ b ∷ bs → is_digit b ≡ false) → strip 46 rest ≡ None → ⊥
whole-some [] k stops none = cc
whole-some (b ∷ bs) k stops none = go (b == 46) refl none
  where
    go : (t : Bool) → (b == 46) ≡ t → (if t then Some bs else None) ≡ None → ⊥
    go true e g = cc
    go false e g = point (is_digit b) (stops b bs refl) refl
      where
        point : (d : Bool) → d ≡ false → is_digit b ≡ d → ⊥
        point true f l = cc
        point false f l = named-or (starts_name b) refl
          where
            named-or : (s : Bool) → starts_name b ≡ s → ⊥
            named-or s n = last s (k-by s n)
              where
                k-by : (s : Bool) → starts_name b ≡ s → (if s then AName else if is_digit b ||
                    (b == 46 && is_digit (first bs)) then ANumber else if is_quote b then ALiteral else if b == 36 then AVariable else ASign) ≡ ANumber
                k-by s n =
                    ap (λ (t : Bool). if t then AName else if is_digit b ||
                    (b == 46 && is_digit (first bs)) then ANumber else if is_quote b then ALiteral else if b == 36 then AVariable else ASign) (sym n) ∙ k

                last : (s : Bool) → (if s then AName else if is_digit b ||
                    (b == 46 && is_digit (first bs)) then ANumber else if is_quote b then ALiteral else if b == 36 then AVariable else ASign) ≡ ANumber → ⊥
                last true g = cc
                last false g =
                    let none-left : (is_digit b || (b == 46 && is_digit (first bs))) ≡ false = ap (λ (t : Bool). t || (b == 46 && is_digit (first bs))) l
                    ∙ ap (λ (t : Bool). t && is_digit (first bs)) e in
                    no-number false (is_digit b || (b == 46 && is_digit (first bs))) (is_quote b) (b == 36) refl none-left g

first-stops : (rest : List ℕ) → Stops Digit rest → (b : ℕ) (bs : List ℕ) → rest ≡ b ∷ bs → is_digit b ≡ false
first-stops rest h b bs e = subst (Stops Digit) e h

pub token-some : (before : Before) (text rest : List ℕ) (l : Lexeme) (after : Before) → IsToken before text rest l after → text ≢ []
token-some _ _ _ _ _ (one_sign before after b rest t k none is) = λ h. cc
token-some _ _ _ _ _ (two_signs before after b c rest t k is) = λ h. cc
token-some _ _ _ _ _ (whole_number before whole rest k all stops none) =
    λ h. whole-some rest (subst (λ w. kind (w ++ rest) ≡ ANumber) h k) (first-stops rest stops) none
token-some _ _ _ _ _ (pointed_number before whole fraction rest k all more stops) = nil-append whole (46 ∷ fraction) (λ e. cc)
token-some _ _ _ _ _ (a_literal before quote text rest is all) = λ h. cc
token-some _ _ _ _ _ (a_variable before text rest q name) = λ h. cc
token-some _ _ _ _ _ (an_operator before text rest q op k is name h) = name-some text rest q name
token-some _ _ _ _ _ (any_of before text rest k is name) = nil-append text (58 ∷ 42 ∷ []) (λ e. cc)
token-some _ _ _ _ _ (a_name before text rest q k is name star bracket colons) = name-some text rest q name
token-some _ _ _ _ _ (an_axis before text spaces rest q axis k is name blank h) =
    text-append text (spaces ++ 58 ∷ 58 ∷ []) (name-some text (spaces ++ 58 ∷ 58 ∷ rest) q name)
token-some _ _ _ _ _ (a_call before text spaces rest q k is name blank h) = text-append text (spaces ++ 40 ∷ []) (name-some text (spaces ++ 40 ∷ rest) q name)
token-some _ _ _ _ _ (a_kind before text spaces more rest q which k is name blank white h) =
    text-append text (spaces ++ 40 ∷ (more ++ 41 ∷ [])) (name-some text (spaces ++ 40 ∷ (more ++ 41 ∷ rest)) q name)
token-some _ _ _ _ _ (a_target before text spaces more target last rest quote q k is name blank white end quotes inside h) =
    text-append text (spaces ++ 40 ∷ (more ++ quote ∷ (target ++ quote ∷ (last ++ 41 ∷ []))))
    (name-some text (spaces ++ 40 ∷ (more ++ quote ∷ (target ++ quote ∷ (last ++ 41 ∷ rest)))) q name)
