-- Names are the same where their texts are.
use Rattle.std.proofs.Common.{◌≡◌, ◌∙◌, ℕ, ap, refl, sym, Bool, true, false, List}
use Rattle.std.proofs.lemmas.Slice.Eq.{bytes_eq-Decides}
use Rattle.std.specs.Prelude.{◌&&◌}
use Rattle.std.specs.Str.{bytes_eq}
use Rattle.xs_elements.specs.Nodes.{Name, is_same_name}

pub bool_same : (a b : Bool) → (a ≡ true → b ≡ true) → (b ≡ true → a ≡ true) → a ≡ b
bool_same true b f g = sym (f refl)
bool_same false true f g = g refl
bool_same false false f g = refl

pub bytes-turn : (xs ys : List ℕ) → bytes_eq xs ys ≡ true → bytes_eq ys xs ≡ true
bytes-turn xs ys e = (bytes_eq-Decides ys xs).1 (sym ((bytes_eq-Decides xs ys).0 e))

pub bytes-sym : (xs ys : List ℕ) → bytes_eq xs ys ≡ bytes_eq ys xs
bytes-sym xs ys = bool_same (bytes_eq xs ys) (bytes_eq ys xs) (bytes-turn xs ys) (bytes-turn ys xs)

-- a name is itself
both-same : (a b : Bool) → a ≡ true → b ≡ true → (a && b) ≡ true
both-same a b e f = ap (λ x. x && b) e ∙ f

pub name-same : (a : Name) → is_same_name a a ≡ true
name-same a = both-same (bytes_eq a.0 a.0) (bytes_eq a.1 a.1) ((bytes_eq-Decides a.0 a.0).1 refl) ((bytes_eq-Decides a.1 a.1).1 refl)

-- a name is another where that is it
pub name-sym : (a b : Name) → is_same_name a b ≡ is_same_name b a
name-sym a b = ap (λ x. x && bytes_eq a.1 b.1) (bytes-sym a.0 b.0) ∙ ap (λ x. bytes_eq b.0 a.0 && x) (bytes-sym a.1 b.1)
