-- The place of a fault is in its text.
use Rattle.std.proofs.Common.{◌≡◌, ℕ, suc, ◌+◌, ◌≤◌, Bool, true, false, List, [], ◌∷◌, ◌++◌, Option, Some, None, Result, Err, length, refl, sym, ◌∙◌, ap, subst, arith}
use Rattle.std.specs.Prelude.{not, if◌then◌else◌}
use Rattle.std.proofs.lemmas.List.{length-append}
use Rattle.xs_xpath.specs.Patterns.{is_pattern}
use Rattle.xs_xpath.specs.Tree.{Tree}
use Rattle.xs_parser.specs.declared.fault.Check.{Check}
use Rattle.xs_parser.specs.declared.fault.Check.TheVariants.{Unknown, Literal, Unbound}
use Rattle.xs_parser.specs.declared.fault.Fault.{Fault}
use Rattle.xs_parser.specs.declared.fault.Fault.TheVariants.{Syntax, UnknownFunction, ArgCount, BadLiteral, TooNested, NotPattern, UnboundPrefix}
use Rattle.xs_parser.specs.declared.signs.Before.{Before}
use Rattle.xs_parser.specs.declared.signs.Before.TheVariants.{NoOperand}
use Rattle.xs_parser.specs.declared.token.Placed.{Placed}
use Rattle.xs_parser.specs.Faults.{has_fault, first_fault, nested, inner_brackets, is_deep, first_deep, is_wrong, arguments_in, first_wrong, first_place, no_pattern, least_fault, unless_fault, tokens_in, reported, verdict, parsed_if, outcome_in}
use Rattle.xs_parser.specs.Lexing.{lexemes_in}
use Rattle.xs_parser.specs.Outcome.{place_of_fault}
use Rattle.xs_parser.specs.Reading.{tree_of}
use Rattle.xs_parser.specs.Spelling.{past, Lexes, end, space, token}
use Rattle.xs_parser.proofs.LexLemmas.{Lexes-lexed}

abbrev Within : ℕ → List Placed → Type 0
Within n [] = Unit {0}
Within n (p ∷ ps) = (p.at ≤ n) × Within n ps

pub past-is : (text : List ℕ) (at : ℕ) → past text at ≡ at + length text
past-is [] at = omega arith
past-is (b ∷ text) at = let e : past text (suc at) ≡ suc at + length text = past-is text (suc at) in omega arith

lexes-within : (at : ℕ) (before : Before) (bytes : List ℕ) (ps : List Placed) → Lexes at before bytes ps → Within (at + length bytes) ps
lexes-within _ _ _ _ (end at before) = tt
lexes-within _ _ _ _ (space at before b bs ps h more) =
    let e : suc at + length bs ≡ at + length (b ∷ bs) = omega arith in
    subst (λ n. Within n ps) e (lexes-within (suc at) before bs ps more)
lexes-within _ _ _ _ (token at before after b text rest l ps h t more) =
    let p : past (b ∷ text) at ≡ at + length (b ∷ text) = past-is (b ∷ text) at in
    let s : length ((b ∷ text) ++ rest) ≡ length (b ∷ text) + length rest = length-append (b ∷ text) rest in
    let e : past (b ∷ text) at + length rest ≡ at + length ((b ∷ text) ++ rest) = omega arith in
    let here : at ≤ at + length ((b ∷ text) ++ rest) = omega arith in
    (here, subst (λ n. Within n ps) e (lexes-within (past (b ∷ text) at) after rest ps more))

-- a place, if there is one
abbrev IsWithin : ℕ → Option ℕ → Type 0
IsWithin n None = Unit {0}
IsWithin n (Some at) = at ≤ n

if-within : (t : Bool) (n at : ℕ) (o : Option ℕ) → at ≤ n → IsWithin n o → IsWithin n (if t then Some at else o)
if-within true n at o h k = h
if-within false n at o h k = k

fault-within : (check : Check) (pairs : List (List ℕ × List ℕ)) (n : ℕ) (ps : List Placed) → Within n ps → IsWithin n (first_fault check pairs ps)
fault-within check pairs n [] h = tt
fault-within check pairs n (p ∷ ps) h = if-within (has_fault check pairs p.lexeme) n p.at (first_fault check pairs ps) h.0 (fault-within check pairs n ps h.1)

wrong-within : (n : ℕ) (ps : List Placed) → Within n ps → IsWithin n (first_wrong ps)
wrong-within n [] h = tt
wrong-within n (p ∷ ps) h = if-within (is_wrong p.lexeme (arguments_in ps)) n p.at (first_wrong ps) h.0 (wrong-within n ps h.1)

deep-within : (n : ℕ) (ps : List Placed) (brackets signs : ℕ) → Within n ps → IsWithin n (first_deep ps brackets signs)
deep-within n [] brackets signs h = tt
deep-within n (p ∷ ps) brackets signs h =
    if-within (is_deep (nested p.lexeme brackets signs) (inner_brackets p.lexeme)) n p.at
    (first_deep ps (nested p.lexeme brackets signs).0 (nested p.lexeme brackets signs).1) h.0
    (deep-within n ps (nested p.lexeme brackets signs).0 (nested p.lexeme brackets signs).1 h.1)

zero-le : (n : ℕ) → 0 ≤ n
zero-le n = omega arith

first-within : (n : ℕ) (ps : List Placed) → Within n ps → first_place ps ≤ n
first-within n [] h = zero-le n
first-within n (p ∷ ps) h = h.0

pattern-within : (wanted : Bool) (n at : ℕ) (e : Tree) → at ≤ n → IsWithin n (no_pattern wanted at e)
pattern-within false n at e h = tt
pattern-within true n at e h = if-within (not (is_pattern e)) n at None h tt

abbrev err : Fault → Result Tree Fault
err f = Err f

err-same : (f g : Fault) → err f ≡ err g → f ≡ g
err-same f g h = cc

err-place : (n : ℕ) (f g : Fault) → place_of_fault f ≤ n → err f ≡ err g → place_of_fault g ≤ n
err-place n f g le h = subst (λ x. place_of_fault x ≤ n) (err-same f g h) le

least-within : (n : ℕ) (u w b d m x : Option ℕ) (e : Tree) (f : Fault) → IsWithin n u → IsWithin n w → IsWithin n b → IsWithin n d → IsWithin n m
    → IsWithin n x → unless_fault (least_fault u w b d m x) e ≡ Err f → place_of_fault f ≤ n
least-within n (Some at) w b d m x e f hu hw hb hd hm hx h = err-place n (UnknownFunction at) f hu h
least-within n None (Some at) b d m x e f hu hw hb hd hm hx h = err-place n (ArgCount at) f hw h
least-within n None None (Some at) d m x e f hu hw hb hd hm hx h = err-place n (BadLiteral at) f hb h
least-within n None None None (Some at) m x e f hu hw hb hd hm hx h = err-place n (TooNested at) f hd h
least-within n None None None None (Some at) x e f hu hw hb hd hm hx h = err-place n (NotPattern at) f hm h
least-within n None None None None None (Some at) e f hu hw hb hd hm hx h = err-place n (UnboundPrefix at) f hx h
least-within n None None None None None None e f hu hw hb hd hm hx h = absurd (cc)

syntax-within : (n : ℕ) (f : Fault) → err Syntax ≡ err f → place_of_fault f ≤ n
syntax-within n f h = err-place n Syntax f (zero-le n) h

reported-within : (wanted : Bool) (pairs : List (List ℕ × List ℕ)) (n : ℕ) (ps : List Placed) (e : Tree) (f : Fault) → Within n ps
    → reported wanted pairs ps e ≡ Err f → place_of_fault f ≤ n
reported-within wanted pairs n ps e f h is =
    least-within n (first_fault Unknown pairs ps) (first_wrong ps) (first_fault Literal pairs ps) (first_deep ps 0 0) (no_pattern wanted (first_place ps) e)
    (first_fault Unbound pairs ps) e f
    (fault-within Unknown pairs n ps h) (wrong-within n ps h) (fault-within Literal pairs n ps h) (deep-within n ps 0 0 h)
    (pattern-within wanted n (first_place ps) e (first-within n ps h)) (fault-within Unbound pairs n ps h) is

pub place-within : (wanted : Bool) (pairs : List (List ℕ × List ℕ)) (text : List ℕ) (f : Fault) → outcome_in wanted pairs text ≡ Err f
    → place_of_fault f ≤ length text
unfolding outcome_in
place-within wanted pairs text f h = lexed (lexemes_in text) refl
  where
    read : (ps : List Placed) (o : Option Tree) → lexemes_in text ≡ Some ps → verdict wanted pairs ps o ≡ Err f → place_of_fault f ≤ length text
    read ps None l is = syntax-within (length text) f is
    read ps (Some e) l is =
        let z : 0 + length text ≡ length text = omega arith in
        reported-within wanted pairs (length text) ps e f (subst (λ n. Within n ps) z (lexes-within 0 NoOperand text ps (Lexes-lexed 0 NoOperand text ps l))) is

    lexed : (o : Option (List Placed)) → lexemes_in text ≡ o → place_of_fault f ≤ length text
    lexed None l = syntax-within (length text) f (sym (ap (parsed_if wanted pairs) l) ∙ h)
    lexed (Some ps) l = read ps (tree_of (tokens_in pairs ps)) l (sym (ap (parsed_if wanted pairs) l) ∙ h)
