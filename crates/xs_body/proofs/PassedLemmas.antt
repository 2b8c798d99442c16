-- A value that is passed is one of those that are passed.
use Rattle.std.proofs.Common.{◌≡◌, List, [], ◌∷◌, Option, Some, None, Bool, true, false, cond, subst}
use Rattle.std.specs.List.{All}
use Rattle.std.proofs.lemmas.List.Elements.{All-head, All-tail}
use Rattle.xs_sheet.specs.declared.body.Binding.{Binding}
use Rattle.xs_sheet.specs.Sets.{is_same_label}
use Rattle.xs_trace.specs.Label.{Label}
use Rattle.xs_value.specs.declared.value.Value.{Value}
use Rattle.xs_body_spec.specs.Tasks.{Params, last_passed, value_passed}

-- the one found before, or another one
kept : (P : Value → Type 0) (b : Bool) (found : Option Value) (x : Value) → ((u : Value) → found ≡ Some u → P u) → P x →
    (u : Value) → cond b (Some x) found ≡ Some u → P u
kept P true found x f p u e = let q : x ≡ u = cc in subst P q p
kept P false found x f p u e = f u e

last-inside : (P : Value → Type 0) (name : Label) (found : Option Value) (bs : List Binding) (vs : List Value) (v : Value) →
    ((u : Value) → found ≡ Some u → P u) → All P vs → last_passed name found bs vs ≡ Some v → P v
last-inside P name found [] vs v f a e = f v e
last-inside P name found (b ∷ bs) [] v f a e = f v e
last-inside P name found (b ∷ bs) (x ∷ xs) v f a e =
    last-inside P name (cond (is_same_label name b.name) (Some x) found) bs xs v (kept P (is_same_label name b.name) found x f (All-head P x xs a))
    (All-tail P x xs a) e

none-some : (P : Value → Type 0) (u : Value) → None ≡ Some u → P u
none-some P u e = absurd (cc)

pub passed-inside : (P : Value → Type 0) (name : Label) (ps : Params) (v : Value) → All P ps.values → value_passed name ps ≡ Some v → P v
passed-inside P name ps v a e = last-inside P name None ps.bindings ps.values v (none-some P) a e
