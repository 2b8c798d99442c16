-- Which outcome a value template has, by the rules.
use Rattle.std.proofs.Common.{◌≡◌, ℕ, suc, Bool, true, false, List, [], ◌∷◌, Option, Some, None, Result, Ok, Err, inl, inr, refl, sym, ◌∙◌, ap}
use Rattle.std.specs.Prelude.{nat_lt, if◌then◌else◌, ◌⊎◌}
use Rattle.xs_xpath.specs.Templates.{Part, text, computed}
use Rattle.xs_xpath.specs.Tree.{Tree}
use Rattle.xs_parser.specs.declared.avt.Written.{Written}
use Rattle.xs_parser.specs.declared.avt.Written.TheVariants.{Plain, Braced}
use Rattle.xs_parser.specs.declared.fault.Fault.{Fault}
use Rattle.xs_parser.specs.declared.fault.Fault.TheVariants.{Syntax, UnknownFunction, ArgCount, BadLiteral, TooNested, NotPattern, UnboundPrefix}
use Rattle.xs_parser.specs.declared.signs.Before.TheVariants.{NoOperand}
use Rattle.xs_parser.specs.declared.token.Placed.{Placed}
use Rattle.xs_parser.specs.Faults.{expr_in, outcome_in, parsed_if, tokens_in, verdict}
use Rattle.xs_parser.specs.Laws.{Represents}
use Rattle.xs_parser.specs.Lexing.{lexemes_in}
use Rattle.xs_parser.specs.Outcome.{number_of_fault}
use Rattle.xs_parser.specs.Reading.{tree_of}
use Rattle.xs_parser.specs.Templates.{AllStand, no_pieces, fixed_stands, braced_stands, Piece, piece_of, Pieces, cut, computed_from, moved, lesser, joined, part_by, parts_in, parts_if, template_in}
use Rattle.xs_parser.specs.TemplateLaws.{RepresentsParts}
use Rattle.xs_parser.proofs.LexLemmas.{Lexes-lexed}
use Rattle.xs_parser.proofs.PieceLemmas.{cut-Pieces, Pieces-cut}
use Rattle.xs_parser.proofs.ReadSoundLemmas.{SpellsExpr-tree_of}
use Rattle.xs_parser.proofs.TextLemmas.{none-reported}

pub reported : (pairs : List (List ℕ × List ℕ)) (bytes : List ℕ) (ps : List Piece) → Pieces 0 bytes ps → template_in pairs bytes ≡ parts_in pairs ps
unfolding template_in
reported pairs bytes ps h = ap (parts_if pairs) (cut-Pieces 0 bytes ps h)

-- ---- a part with a tree is not said to be none
moved-syntax : (at : ℕ) (f : Fault) → moved at f ≡ Syntax → f ≡ Syntax
moved-syntax at Syntax h = refl
moved-syntax at (UnknownFunction place) h = absurd (cc)
moved-syntax at (ArgCount place) h = absurd (cc)
moved-syntax at (BadLiteral place) h = absurd (cc)
moved-syntax at (TooNested place) h = absurd (cc)
moved-syntax at (NotPattern place) h = absurd (cc)
moved-syntax at (UnboundPrefix place) h = absurd (cc)

abbrev part-err : Fault → Result Part Fault
part-err f = Err f

abbrev parts-err : Fault → Result (List Part) Fault
parts-err f = Err f

part-same : (f g : Fault) → part-err f ≡ part-err g → f ≡ g
part-same f g h = cc

parts-same : (f g : Fault) → parts-err f ≡ parts-err g → f ≡ g
parts-same f g h = cc

computed-syntax : (at : ℕ) (o : Result Tree Fault) → computed_from at o ≡ Err Syntax → o ≡ Err Syntax
computed-syntax at (Ok e) h = absurd (cc)
computed-syntax at (Err f) h = ap Err (moved-syntax at f (part-same (moved at f) Syntax h))

one-of : (t : Bool) (f g : Fault) → (if t then g else f) ≡ Syntax → (f ≡ Syntax) ⊎ (g ≡ Syntax)
one-of true f g h = inr h
one-of false f g h = inl h

joined-syntax : (part : Result Part Fault) (parts : Result (List Part) Fault) → joined part parts ≡ Err Syntax → (part ≡ Err Syntax) ⊎ (parts ≡ Err Syntax)
joined-syntax (Ok p) (Ok ps) h = absurd (cc)
joined-syntax (Ok p) (Err g) h = inr h
joined-syntax (Err f) (Ok ps) h = inl (ap Err (parts-same f Syntax h))
joined-syntax (Err f) (Err g) h =
    elim (one-of (nat_lt (number_of_fault g) (number_of_fault f)) f g (parts-same (lesser f g) Syntax h)) [
      | inl e ↦ inl (ap Err e)
      | inr e ↦ inr (ap Err e)
    ]

stands-reported : (pairs : List (List ℕ × List ℕ)) (ps : List Piece) (qs : List Part) → AllStand pairs ps qs → parts_in pairs ps ≡ Err Syntax → ⊥
stands-reported pairs _ _ no_pieces h = cc
stands-reported pairs _ _ (fixed_stands at bytes ps qs more) h =
    elim (joined-syntax (Ok (text bytes)) (parts_in pairs ps) h) [
      | inl e ↦ cc
      | inr e ↦ stands-reported pairs ps qs more e
    ]
stands-reported pairs _ _ (braced_stands at bytes e ps qs s more) h =
    elim (joined-syntax (part_by pairs at Braced bytes) (parts_in pairs ps) h) [
      | inl k ↦ none-reported false pairs bytes (computed-syntax (suc at) (expr_in pairs bytes) k) e s
      | inr k ↦ stands-reported pairs ps qs more k
    ]

pub none-reported-parts : (pairs : List (List ℕ × List ℕ)) (bytes : List ℕ) → template_in pairs bytes ≡ Err Syntax → (qs : List Part)
    → RepresentsParts pairs bytes qs → ⊥
none-reported-parts pairs bytes h qs s = stands-reported pairs s.0 qs s.2 (sym (reported pairs bytes s.0 s.1) ∙ h)

-- ---- where none is reported, there is one
tree-or-syntax : (pairs : List (List ℕ × List ℕ)) (bytes : List ℕ) → (expr_in pairs bytes ≡ Err Syntax) ⊎ ((e : Tree) × Represents pairs bytes e)
unfolding outcome_in
tree-or-syntax pairs bytes = lexed (lexemes_in bytes) refl
  where
    spelled : (ps : List Placed) → lexemes_in bytes ≡ Some ps → (o : Option Tree) → tree_of (tokens_in pairs ps) ≡ o
        → (expr_in pairs bytes ≡ Err Syntax) ⊎ ((e : Tree) × Represents pairs bytes e)
    spelled ps l None t = inl (ap (parsed_if false pairs) l ∙ ap (verdict false pairs ps) t)
    spelled ps l (Some e) t = inr (e, (ps, Lexes-lexed 0 NoOperand bytes ps l, SpellsExpr-tree_of (tokens_in pairs ps) e t))

    lexed : (o : Option (List Placed)) → lexemes_in bytes ≡ o → (expr_in pairs bytes ≡ Err Syntax) ⊎ ((e : Tree) × Represents pairs bytes e)
    lexed None l = inl (ap (parsed_if false pairs) l)
    lexed (Some ps) l = spelled ps l (tree_of (tokens_in pairs ps)) refl

lesser-of : (f : Fault) → lesser Syntax f ≡ Syntax
lesser-of Syntax = refl
lesser-of (UnknownFunction at) = refl
lesser-of (ArgCount at) = refl
lesser-of (BadLiteral at) = refl
lesser-of (TooNested at) = refl
lesser-of (NotPattern at) = refl
lesser-of (UnboundPrefix at) = refl

lesser-last : (f : Fault) → lesser f Syntax ≡ Syntax
lesser-last Syntax = refl
lesser-last (UnknownFunction at) = refl
lesser-last (ArgCount at) = refl
lesser-last (BadLiteral at) = refl
lesser-last (TooNested at) = refl
lesser-last (NotPattern at) = refl
lesser-last (UnboundPrefix at) = refl

first-syntax : (parts : Result (List Part) Fault) → joined (Err Syntax) parts ≡ Err Syntax
first-syntax (Ok ps) = refl
first-syntax (Err g) = ap Err (lesser-of g)

last-syntax : (part : Result Part Fault) → joined part (Err Syntax) ≡ Err Syntax
last-syntax (Ok p) = refl
last-syntax (Err f) = ap Err (lesser-last f)

abbrev Fares : List (List ℕ × List ℕ) → List Piece → Type 0
Fares pairs ps = (parts_in pairs ps ≡ Err Syntax) ⊎ ((qs : List Part) × AllStand pairs ps qs)

fares-more : (pairs : List (List ℕ × List ℕ)) (at : ℕ) (written : Written) (bytes : List ℕ) (ps : List Piece) → Fares pairs ps
    → Fares pairs (piece_of at written bytes ∷ ps)
fares-more pairs at Plain bytes ps (inl h) = inl (ap (joined (Ok (text bytes))) h)
fares-more pairs at Plain bytes ps (inr s) = inr (text bytes ∷ s.0, fixed_stands at bytes ps s.0 s.1)
fares-more pairs at Braced bytes ps (inl h) = inl (ap (joined (part_by pairs at Braced bytes)) h ∙ last-syntax (part_by pairs at Braced bytes))
fares-more pairs at Braced bytes ps (inr s) =
    elim (tree-or-syntax pairs bytes) [
      | inl h ↦ inl (ap (λ o. joined (computed_from (suc at) o) (parts_in pairs ps)) h ∙ first-syntax (parts_in pairs ps))
      | inr t ↦ inr (computed t.0 ∷ s.0, braced_stands at bytes t.0 ps s.0 t.1 s.1)
    ]

fares : (pairs : List (List ℕ × List ℕ)) (ps : List Piece) → Fares pairs ps
fares pairs [] = inr ([], no_pieces)
fares pairs (p ∷ ps) = fares-more pairs p.at p.written p.bytes ps (fares pairs ps)

pub none-stands-parts : (pairs : List (List ℕ × List ℕ)) (bytes : List ℕ) → ((qs : List Part) → RepresentsParts pairs bytes qs → ⊥)
    → template_in pairs bytes ≡ Err Syntax
unfolding template_in
none-stands-parts pairs bytes h = go (cut 0 0 bytes) refl
  where
    go : (o : Option (List Piece)) → cut 0 0 bytes ≡ o → parts_if pairs (cut 0 0 bytes) ≡ Err Syntax
    go None c = ap (parts_if pairs) c
    go (Some ps) c =
        elim (fares pairs ps) [
          | inl k ↦ ap (parts_if pairs) c ∙ k
          | inr s ↦ absurd (h s.0 (ps, Pieces-cut 0 bytes ps c, s.1))
        ]
