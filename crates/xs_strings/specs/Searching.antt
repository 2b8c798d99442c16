-- What stands round the first occurrence of a text in another (XPath 1.0, 4.2, `substring-before` and `substring-after`), over their characters.
use Rattle.std.specs.Prelude.{ℕ, List, [], ◌∷◌, length, drop, nat_eq, Option, Some, None, if◌then◌else◌}
use Rattle.std.specs.List.{starts_with}
use Rattle.std.specs.Option.{option_map}

-- the parts of a text before and after the first place at which the other text begins
abbrev pub parts_round : List ℕ → List ℕ → Option (List ℕ × List ℕ)
parts_round sought [] = if starts_with nat_eq [] sought then Some ([], []) else None
parts_round sought (c ∷ cs) =
    if starts_with nat_eq (c ∷ cs) sought then Some ([], drop (length sought) (c ∷ cs))
    else option_map (λ parts. (c ∷ parts.0, parts.1)) (parts_round sought cs)

abbrev pub first_or_empty : Option (List ℕ × List ℕ) → List ℕ
first_or_empty None = []
first_or_empty (Some parts) = parts.0

abbrev pub second_or_empty : Option (List ℕ × List ℕ) → List ℕ
second_or_empty None = []
second_or_empty (Some parts) = parts.1

unfoldable pub text_before : List ℕ → List ℕ → List ℕ
text_before characters sought = first_or_empty (parts_round sought characters)

unfoldable pub text_after : List ℕ → List ℕ → List ℕ
text_after characters sought = second_or_empty (parts_round sought characters)
