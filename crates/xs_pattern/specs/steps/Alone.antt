-- What predicates say of a node wherever it stands among others.
use Rattle.std.specs.Prelude.{◌≡◌, ℕ, Bool, true, false, List, Option, Some, None}
use Rattle.xs_value.specs.Conversion.{bool_value}
use Rattle.xs_value.specs.declared.value.Value.{Value}
use Rattle.xs_value.specs.declared.value.Value.TheVariants.{Bool as Boolean, Number as Numeral, Chars, Nodes, Piece}
use Rattle.xs_eval_spec.specs.Context.{Context}
use Rattle.xs_eval_spec.specs.Paths.{Meaning}
use Rattle.xs_pattern_spec.specs.Predicates.{all_kept, holds, is_among}

-- what a value says of a node at whatever position: a number says nothing (XPath 1.0, 2.4), and where there is none, no node is kept
abbrev pub said_by : Value → Option Bool
said_by (Numeral n) = None
said_by (Boolean b) = Some b
said_by (Chars text) = Some (bool_value (Chars text))
said_by (Nodes ns) = Some (bool_value (Nodes ns))
said_by (Piece events) = Some (bool_value (Piece events))

abbrev pub said : Option Value → Option Bool
said None = Some false
said (Some v) = said_by v

-- what a predicate says of a node at each position, among however many
abbrev pub IsSaid : ℕ → Context → Meaning → Option Bool → Type 0
IsSaid n c predicate None = Unit {0}
IsSaid n c predicate (Some b) = (size position : ℕ) → holds c predicate size (position, n) ≡ b

-- what predicates say of a node among whatever nodes
abbrev pub AreSaid : ℕ → Context → List Meaning → Option Bool → Type 0
AreSaid n c predicates None = Unit {0}
AreSaid n c predicates (Some b) = (ns : List ℕ) → is_among n ns ≡ true → is_among n (all_kept c ns predicates) ≡ b
