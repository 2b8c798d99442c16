-- Names, and whether they are the same.
use Rattle.std.proofs.Common.{◌≡◌, true, false, ap, ◌∙◌}
use Rattle.std.specs.Bool.{Decides}
use Rattle.std.specs.Str.{bytes_eq}
use Rattle.std.proofs.lemmas.Bool.Decides.{Decides-and}
use Rattle.std.proofs.lemmas.Slice.Eq.{bytes_eq-Decides}
use Rattle.xs_elements.specs.Nodes.{Name, is_same_name}

same-parts : (a b : Name) → Decides (is_same_name a b) ((a.0 ≡ b.0) × (a.1 ≡ b.1))
same-parts a b = Decides-and (bytes_eq a.0 b.0) (bytes_eq a.1 b.1) (bytes_eq-Decides a.0 b.0) (bytes_eq-Decides a.1 b.1)

pub same-true : (a b : Name) → is_same_name a b ≡ true → a ≡ b
same-true a b h = let p = (same-parts a b).0 h in ap (λ x. (x, a.1)) p.0 ∙ ap (λ y. (b.0, y)) p.1

pub same-from : (a b : Name) → a ≡ b → is_same_name a b ≡ true
same-from a b e = (same-parts a b).1 (ap (λ (n : Name). n.0) e, ap (λ (n : Name). n.1) e)

pub same-false : (a b : Name) → is_same_name a b ≡ false → a ≡ b → ⊥
same-false a b h e = let yes = same-from a b e in cc
