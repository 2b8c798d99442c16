-- Laws of value templates: the rules and the functions say the same.
use Rattle.std.specs.Prelude.{◌≡◌, ◌↔◌, ℕ, List, Some, Err}
use Rattle.xs_xpath.specs.Templates.{Part}
use Rattle.xs_parser.specs.declared.fault.Fault.TheVariants.{Syntax}
use Rattle.xs_parser.specs.Templates.{AllStand, Piece, Pieces, cut, parts_in, template_in}

-- a text has the pieces that the function gives, and no others
abbrev pub TemplatesAreCut : Type 0
TemplatesAreCut = (text : List ℕ) (ps : List Piece) → Pieces 0 text ps ↔ (cut 0 0 text ≡ Some ps)

-- a text represents parts in a scope: it has pieces, and these represent the parts
abbrev pub RepresentsParts : List (List ℕ × List ℕ) → List ℕ → List Part → Type 0
RepresentsParts pairs text qs = (ps : List Piece) × Pieces 0 text ps × AllStand pairs ps qs

-- a text is reported to be no value template exactly where it represents no parts
abbrev pub TemplateSyntaxIsReported : Type 0
TemplateSyntaxIsReported =
    (pairs : List (List ℕ × List ℕ)) (text : List ℕ) → (template_in pairs text ≡ Err Syntax) ↔ ((qs : List Part) → RepresentsParts pairs text qs → ⊥)

-- of a text with pieces, the least of their faults is reported, or else their parts
abbrev pub TemplateIsReported : Type 0
TemplateIsReported = (pairs : List (List ℕ × List ℕ)) (text : List ℕ) (ps : List Piece) → Pieces 0 text ps → (template_in pairs text ≡ parts_in pairs ps)
