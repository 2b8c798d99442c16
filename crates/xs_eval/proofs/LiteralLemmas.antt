-- Comparisons with a string literal by `=` and `!=`.
use Rattle.std.proofs.Common.{◌≡◌, ◌∙◌, ℕ, ◌||◌, Bool, true, false, List, [], ◌∷◌, Ok, Result, ap, refl}
use Rattle.xs_num.specs.declared.number.NumFault.{NumFault}
use Rattle.xs_tree.specs.Record.{Record, string_value}
use Rattle.xs_value.specs.declared.comparison.CompareOp.{CompareOp}
use Rattle.xs_value.specs.declared.comparison.CompareOp.TheVariants.{Eq, Ne, Lt, Le, Gt, Ge}
use Rattle.xs_value.specs.declared.value.Value.TheVariants.{Chars, Nodes}
use Rattle.xs_value.specs.Comparison.{compared, compared_single, is_ordering, or_else}
use Rattle.xs_eval.specs.steps.Operands.{compares_to, some_compares}

-- two strings
single : (rs : List Record) (op : CompareOp) (a t : List ℕ) → is_ordering op ≡ false → compared_single rs op (Chars a) (Chars t) ≡ Ok (compares_to op t a)
single rs Eq a t h = refl
single rs Ne a t h = refl
single rs Lt a t h = absurd (cc)
single rs Le a t h = absurd (cc)
single rs Gt a t h = absurd (cc)
single rs Ge a t h = absurd (cc)

or_then : (b c : Bool) → or_else (or_else (Ok b) (Ok false)) (Ok c) ≡ Ok (b || c)
or_then true c = refl
or_then false c = refl

alone : (b : Bool) → or_else (or_else (Ok b) (Ok false)) (Ok false) ≡ Ok b
alone true = refl
alone false = refl

pub compared_strings : (rs : List Record) (op : CompareOp) (a t : List ℕ) → is_ordering op ≡ false
    → compared rs op (Chars a) (Chars t) ≡ Ok (compares_to op t a)
compared_strings rs op a t h =
    ap (λ (r : Result Bool NumFault). or_else (or_else r (Ok false)) (Ok false)) (single rs op a t h) ∙ alone (compares_to op t a)

-- the strings of nodes and one
pub compared_nodes : (rs : List Record) (op : CompareOp) (t : List ℕ) (ns : List ℕ) → is_ordering op ≡ false
    → compared rs op (Nodes ns) (Chars t) ≡ Ok (some_compares op t rs ns)
compared_nodes rs op t [] h = refl
compared_nodes rs op t (n ∷ ns) h =
    ap (λ (r : Result Bool NumFault). or_else (or_else r (Ok false)) (compared rs op (Nodes ns) (Chars t))) (single rs op (string_value rs n) t h)
    ∙ ap (λ (r : Result Bool NumFault). or_else (or_else (Ok (compares_to op t (string_value rs n))) (Ok false)) r) (compared_nodes rs op t ns h)
    ∙ or_then (compares_to op t (string_value rs n)) (some_compares op t rs ns)
