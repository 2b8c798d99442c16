-- The escapes of a text in two parts, and of one that is cut at a byte that is in no pair.
use Rattle.std.proofs.Common.{◌≡◌, ◌≢◌, ℕ, List, [], ◌∷◌, ◌++◌, Some, None, refl, sym, ◌∙◌, ap, subst, inl, inr}
use Rattle.xs_text.specs.Escapes.{byte_of, Represents, nothing, itself, pair}
use Rattle.xs_text.proofs.UnescapeLemmas.{by_byte}

-- two parts represent what each of them represents
pub Represents-append : (xs ys a b : List ℕ) → Represents xs a → Represents ys b → Represents (xs ++ ys) (a ++ b)
Represents-append _ ys _ b nothing right = right
Represents-append _ ys _ b (itself x w t n h) right = itself x (w ++ ys) (t ++ b) n (Represents-append w ys t b h right)
Represents-append _ ys _ b (pair l x w t e h) right = pair l x (w ++ ys) (t ++ b) e (Represents-append w ys t b h right)

-- what stands behind the first byte
behind_itself : (x : ℕ) (w read : List ℕ) → x ≢ 92 → Represents (x ∷ w) read → (more : List ℕ) × Represents w more × (read ≡ x ∷ more)
behind_itself _ _ _ n (itself x w t m h) = (t, h, refl)
behind_itself _ _ _ n (pair l b w t e h) = absurd (n refl)

behind_pair : (l : ℕ) (w read : List ℕ) → Represents (92 ∷ l ∷ w) read → (b : ℕ) × (more : List ℕ) × (byte_of l ≡ Some b) × Represents w more
    × (read ≡ b ∷ more)
behind_pair _ _ _ (itself x w t m h) = absurd (m refl)
behind_pair _ _ _ (pair l b w t e h) = (b, t, e, h, refl)

-- a text that is cut at a byte in no pair represents what its parts represent
abbrev pub Cut : List ℕ → ℕ → List ℕ → List ℕ → Type 0
Cut xs b ys read = (left : List ℕ) × (right : List ℕ) × Represents xs left × Represents ys right × (read ≡ left ++ b ∷ right)

cut_itself : (x : ℕ) (xs : List ℕ) (b : ℕ) (ys read : List ℕ) → x ≢ 92 → ((more : List ℕ) → Represents (xs ++ b ∷ ys) more → Cut xs b ys more)
    → Represents (x ∷ xs ++ b ∷ ys) read → Cut (x ∷ xs) b ys read
cut_itself x xs b ys read m rest h =
    let p = behind_itself x (xs ++ b ∷ ys) read m h in
    let q = rest p.0 p.1 in
    (x ∷ q.0, q.1, itself x xs q.0 m q.2, q.3, p.2 ∙ ap (λ t. x ∷ t) q.4)

cut_pair : (l : ℕ) (xs : List ℕ) (b : ℕ) (ys read : List ℕ) → ((more : List ℕ) → Represents (xs ++ b ∷ ys) more → Cut xs b ys more)
    → Represents (92 ∷ l ∷ xs ++ b ∷ ys) read → Cut (92 ∷ l ∷ xs) b ys read
cut_pair l xs b ys read rest h =
    let p = behind_pair l (xs ++ b ∷ ys) read h in
    let q = rest p.1 p.3 in
    (p.0 ∷ q.0, q.1, pair l p.0 xs q.0 p.2 q.2, q.3, p.4 ∙ ap (λ t. p.0 ∷ t) q.4)

not_cut : (b : ℕ) (ys read : List ℕ) → byte_of b ≡ None → Represents (92 ∷ b ∷ ys) read → ⊥
not_cut b ys read e h =
    let p = behind_pair b ys read h in
    let no : None ≡ Some p.0 = sym e ∙ p.2 in
    absurd (cc)

pub Represents-cut : (xs : List ℕ) (b : ℕ) (ys read : List ℕ) → b ≢ 92 → byte_of b ≡ None → Represents (xs ++ b ∷ ys) read → Cut xs b ys read
Represents-cut [] b ys read n e h = let p = behind_itself b ys read n h in ([], p.0, nothing, p.1, p.2)
Represents-cut (x ∷ []) b ys read n e h =
    elim (by_byte x) [
      | inl is ↦ absurd (not_cut b ys read e (subst (λ (y : ℕ). Represents (y ∷ b ∷ ys) read) is h))
      | inr m ↦ cut_itself x [] b ys read m (λ more g. Represents-cut [] b ys more n e g) h
    ]
Represents-cut (x ∷ y ∷ xs) b ys read n e h =
    elim (by_byte x) [
      | inl is ↦ subst (λ (z : ℕ). Cut (z ∷ y ∷ xs) b ys read) (sym is)
          (cut_pair y xs b ys read (λ more g. Represents-cut xs b ys more n e g) (subst (λ (z : ℕ). Represents (z ∷ y ∷ xs ++ b ∷ ys) read) is h))
      | inr m ↦ cut_itself x (y ∷ xs) b ys read m (λ more g. Represents-cut (y ∷ xs) b ys more n e g) h
    ]
