-- Which outcome a text has, by the rules.
use Rattle.std.proofs.Common.{◌≡◌, ℕ, Bool, List, Option, Some, None, Err, refl, sym, ◌∙◌, ap}
use Rattle.xs_xpath.specs.Tree.{Tree}
use Rattle.xs_parser.specs.declared.fault.Check.TheVariants.{Unknown, Literal, Unbound}
use Rattle.xs_parser.specs.declared.fault.Fault.TheVariants.{Syntax}
use Rattle.xs_parser.specs.declared.signs.Before.TheVariants.{NoOperand}
use Rattle.xs_parser.specs.declared.token.Placed.{Placed}
use Rattle.xs_parser.specs.Faults.{outcome_in, faults_first, first_deep, first_fault, first_place, first_wrong, no_pattern, parsed_if, reported, tokens_in, verdict}
use Rattle.xs_parser.specs.Grammar.{same, SpellsExpr}
use Rattle.xs_parser.specs.Laws.{Represents}
use Rattle.xs_parser.specs.Lexing.{lexemes_in}
use Rattle.xs_parser.specs.Reading.{tree_of}
use Rattle.xs_parser.specs.Spelling.{Lexes}
use Rattle.xs_parser.proofs.CompleteLemmas.{tree_by-Spells}
use Rattle.xs_parser.proofs.ReadSoundLemmas.{SpellsExpr-tree_of}
use Rattle.xs_parser.proofs.LexLemmas.{lexed-Lexes, Lexes-lexed}

one : {A : Type 0} (a b : A) → Some a ≡ Some b → a ≡ b
one a b h = cc

pub one-tree : (pairs : List (List ℕ × List ℕ)) (text : List ℕ) (e f : Tree) → Represents pairs text e → Represents pairs text f → e ≡ f
one-tree pairs text e f a b =
    let same_tokens : a.0 ≡ b.0 = one a.0 b.0 (sym (lexed-Lexes 0 NoOperand text a.0 a.1) ∙ lexed-Lexes 0 NoOperand text b.0 b.1) in
    one e f (sym (tree_by-Spells same (tokens_in pairs a.0) e a.2) ∙ ap (λ ps. tree_of (tokens_in pairs ps)) same_tokens
    ∙ tree_by-Spells same (tokens_in pairs b.0) f b.2)

pub outcome : (wanted : Bool) (pairs : List (List ℕ × List ℕ)) (text : List ℕ) (ps : List Placed) (e : Tree) → Lexes 0 NoOperand text ps
    → SpellsExpr (tokens_in pairs ps) e → outcome_in wanted pairs text ≡ reported wanted pairs ps e
unfolding outcome_in
outcome wanted pairs text ps e l s =
    ap (parsed_if wanted pairs) (lexed-Lexes 0 NoOperand text ps l) ∙ ap (verdict wanted pairs ps) (tree_by-Spells same (tokens_in pairs ps) e s)

-- a tree with other faults is not said to be none
never-syntax : (u w b d n x : Option ℕ) (e : Tree) → faults_first u w b d n x e ≡ Err Syntax → ⊥
never-syntax (Some at) w b d n x e h = cc
never-syntax None (Some at) b d n x e h = cc
never-syntax None None (Some at) d n x e h = cc
never-syntax None None None (Some at) n x e h = cc
never-syntax None None None None (Some at) x e h = cc
never-syntax None None None None None (Some at) e h = cc
never-syntax None None None None None None e h = cc

never-reported : (wanted : Bool) (pairs : List (List ℕ × List ℕ)) (ps : List Placed) (e : Tree) → reported wanted pairs ps e ≡ Err Syntax → ⊥
never-reported wanted pairs ps e h =
    never-syntax (first_fault Unknown pairs ps) (first_wrong ps) (first_fault Literal pairs ps) (first_deep ps 0 0) (no_pattern wanted (first_place ps) e)
    (first_fault Unbound pairs ps) e h

pub none-reported : (wanted : Bool) (pairs : List (List ℕ × List ℕ)) (text : List ℕ) → outcome_in wanted pairs text ≡ Err Syntax → (e : Tree)
    → Represents pairs text e → ⊥
none-reported wanted pairs text h e s = never-reported wanted pairs s.0 e (sym (outcome wanted pairs text s.0 e s.1 s.2) ∙ h)

pub none-stands : (wanted : Bool) (pairs : List (List ℕ × List ℕ)) (text : List ℕ) → ((e : Tree) → Represents pairs text e → ⊥)
    → outcome_in wanted pairs text ≡ Err Syntax
unfolding outcome_in
none-stands wanted pairs text h = lexed (lexemes_in text) refl
  where
    spelled : (ps : List Placed) → lexemes_in text ≡ Some ps → (o : Option Tree) → tree_of (tokens_in pairs ps) ≡ o → verdict wanted pairs ps o ≡ Err Syntax
    spelled ps l None t = refl
    spelled ps l (Some e) t = absurd (h e (ps, Lexes-lexed 0 NoOperand text ps l, SpellsExpr-tree_of (tokens_in pairs ps) e t))

    lexed : (o : Option (List Placed)) → lexemes_in text ≡ o → parsed_if wanted pairs (lexemes_in text) ≡ Err Syntax
    lexed None l = ap (parsed_if wanted pairs) l
    lexed (Some ps) l = ap (parsed_if wanted pairs) l ∙ spelled ps l (tree_of (tokens_in pairs ps)) refl
